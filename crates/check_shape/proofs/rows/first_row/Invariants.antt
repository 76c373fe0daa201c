-- `first_row` searches the rows: every row below `m` keeps its rule.
use mathlib.Core.Path.{◌≡◌}
use Rattle.lists.specs.Lists.{first_false}
use Rattle.table.specs.Questions.{row_kept}
use Rattle.check_shape.proofs.rows.first_row.Given as goal

abbrev pub invariant-loop-m : goal.invariant-loop-m
invariant-loop-m l = first_false (row_kept l.p) l.m ≡ l.m
