-- `two_rows` copies both rows into a table that has none.
use mathlib.Core.Path.{ap, ◌∙◌}
use Rattle.text_judge.specs.RowsCode.{copied}
use Rattle.text_judge.proofs.Judging.{two-built}
use Rattle.text_judge.proofs.rows.two_rows.Goals as goal

pub returns : goal.returns
returns c =
    c.put_row-2.ensures
    ∙ ap (λ t. copied t 6 c.args.own.now 18) c.put_row.ensures
    ∙ two-built _ _ _ c.requires.0 c.requires.1
