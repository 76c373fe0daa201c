-- `target` adds the argument to the method's offset.
use Rattle.run_moves.specs.MovesCode.{target_of}
use mathlib.Core.Path.{ap}
use Prim.Native.Nat.{ℕ, ◌+◌}
use Rattle.run_moves.proofs.jumps.target.Goals as goal

pub returns : goal.returns
unfolding target_of
returns c = ap (λ (s : ℕ). s + c.args.a) c.offset.ensures.0
