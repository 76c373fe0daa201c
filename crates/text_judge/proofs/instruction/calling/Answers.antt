-- `calling` tests the op.
use mathlib.Core.Path.{refl}
use Rattle.text_judge.specs.RowsCode.{calls}
use Rattle.text_judge.proofs.instruction.calling.Goals as goal

pub returns : goal.returns
unfolding calls
returns c = refl
