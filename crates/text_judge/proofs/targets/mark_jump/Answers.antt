-- `mark_jump` writes where the op jumps and the target is there.
use Rattle.text_judge.proofs.Marking.{mark_set, mark-none, mark-inside}
use Rattle.text_judge.proofs.targets.mark_jump.Goals as goal

pub bounds-targets-at : goal.bounds-targets-at
bounds-targets-at c = mark-inside c.args.op _ _ c.if-op-at.true

pub returns-then-op-at : goal.returns-then-op-at
returns-then-op-at c = mark_set _ _ _ c.if-op-at.true

pub returns-else-op-at : goal.returns-else-op-at
returns-else-op-at c = mark-none _ _ _ c.if-op-at.false
