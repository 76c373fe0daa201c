-- `mixed` is below the number of classes.
use mathlib.Core.Path.{refl}
use Prim.Native.Nat.{◌+◌, ◌*◌}
use native.Mathlib.Omega.{arith}
use native.Mathlib.Nat.{mod-lt}
use Rattle.text_open.specs.ClassCode.{mixed}
use Rattle.text_open.proofs.class.mixed.Goals as goal

pub returns : goal.returns
unfolding mixed
returns c = (refl, mod-lt (31 * c.args.h + c.args.x) (omega arith))
