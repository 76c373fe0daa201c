-- `met_line` names the side of the sender's end.
use mathlib.Core.Path.{refl, ◌∙◌}
use borrow.Author.Tests.{eq-eqb, ne_eqb}
use Rattle.lists.proofs.Tests.{took, passed-by}
use Rattle.run_transfer.proofs.Laws.{met-line}
use Rattle.run_transfer.proofs.meeting_lines.met_line.Goals as goal
use Rattle.run_transfer.proofs.meeting_lines.met_line.Goals.{then-e-eq6, else-e-eq6}

pub returns : goal.returns
returns c =
    let args = c.args in
    met-line args.entry args.sender.0 args.receiver.0 args.e
    (elim c.if-e-eq6.branch [
      | then-e-eq6 w ↦ w.side-is ∙ took _ _ _ refl (eq-eqb args.e.tag 6 w.if-e-eq6.true) refl
      | else-e-eq6 w ↦ w.side-is ∙ passed-by _ _ _ refl (ne_eqb args.e.tag 6 w.if-e-eq6.false) refl
    ])
