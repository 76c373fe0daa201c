-- `in_limits` takes the entry apart.
use Prim.Native.Nat.{ℕ, ◌/◌, ◌%◌}
use mathlib.Core.Bool.{◌&&◌}
use mathlib.Core.Path.{ap}
use lib.Dec.{leb, ltb}
use Rattle.check_arguments.specs.LimitsCode.{in_limits}
use Rattle.check_arguments.proofs.ranges.in_limits.Goals as goal

pub returns : goal.returns
unfolding in_limits
returns c =
    ap
    (λ (b : ℕ). (leb (c.args.e % 2) c.args.a && ltb c.args.a b) && leb
    (c.args.e / 2 % 2) c.args.t) c.chosen-bound.ensures
