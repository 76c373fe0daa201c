-- `condition`: its parts one after the other.
use Rattle.text_emit_block.proofs.BranchLaws.{condition-emits, condition-refused}
use Rattle.text_emit_block.proofs.parts.condition.Goals as goal

pub returns-in_err-x : goal.returns-in_err-x
returns-in_err-x c = rw c.from_residual.ensures (condition-refused _ _ _ _ _ _ _ c.pass-open.ensures c.in_err-x.ensures)

pub returns : goal.returns
returns c = condition-emits _ _ _ _ _ _ _ _ _ c.pass-open.ensures c.in_ok-x.ensures c.pass.ensures
