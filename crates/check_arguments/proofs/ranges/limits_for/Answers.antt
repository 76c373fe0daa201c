-- `limits_for` writes the table down.
use mathlib.Core.Path.{refl}
use Rattle.check_arguments.specs.LimitsCode.{limits_for}
use Rattle.check_arguments.proofs.ranges.limits_for.Goals as goal

pub returns : goal.returns
unfolding limits_for
returns c = refl
