-- `push` writes the new top value.
use Prim.Native.Nat.{ℕ, ◌-◌}
use mathlib.Core.Path.{◌∙◌, ap}
use native.Mathlib.Omega.{arith}
use Rattle.run_cursor.proofs.Shapes.{pushes}
use Rattle.run_cursor.proofs.moves.push.Goals as goal

pub returns : goal.returns
returns c =
    pushes c.requires.0 c.requires.1 c.if-c-ge8.false c.args.v (ap (λ (i : ℕ). i - 2) c.free.ensures ∙ omega arith)
    c.write.ensures
