-- `two_numbers` goes by whether an operand is emptied.
use Prim.Native.Nat.{ℕ}
use mathlib.Core.Path.{ap₂, refl}
use Rattle.std.specs.Prelude.{Some}
use Rattle.lists.proofs.Tests.{took, passed-by}
use Rattle.run_numbers.specs.NumbersCode.{two_numbers}
use Rattle.run_numbers.proofs.numbers.two_numbers.Goals as goal

pub returns-then-two_empty : goal.returns-then-two_empty
unfolding two_numbers
returns-then-two_empty c = took _ _ _ c.two_empty.ensures c.if-two_empty.true refl

pub returns-else-two_empty : goal.returns-else-two_empty
unfolding two_numbers
returns-else-two_empty c =
    passed-by _ _ _ c.two_empty.ensures c.if-two_empty.false
    (ap₂ (λ (x y : ℕ). Some (x, y)) c.number.ensures c.number-else-two_empty.ensures)
