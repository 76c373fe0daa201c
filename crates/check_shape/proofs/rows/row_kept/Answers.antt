-- `row_kept` is question 3's test of one row.
use Rattle.table.specs.Table.{return_of, params_of}
use Rattle.table.specs.Questions.{row_kept}
use borrow.Author.Rules.{rules}
use Rattle.check_shape.proofs.rows.row_kept.Goals as goal

pub slots_kept-slots-requires : goal.slots_kept-slots-requires
unfolding params_of
slots_kept-slots-requires c = (search rules, search rules, cc)

pub returns : goal.returns
unfolding row_kept return_of params_of
returns c = cc
