-- Nothing pending.
use mathlib.Core.Path.{refl}
use Rattle.check_types.specs.PendingCode.{types_in}
use Rattle.check_types.proofs.pending.Pending.nothing.Goals as goal

pub returns : goal.returns
unfolding types_in
returns c = refl
