-- The pending types packed in a word, and what is done to them. Nothing pending is `some []`; a fault is `none`. These
-- definitions follow the code.
use Rattle.std.specs.Prelude.{ℕ, zero, suc, ◌/◌, ◌%◌, cond, List, [], ◌∷◌, get_or, length, eqb, ltb}
use Rattle.std.specs.Prelude.{Some, None}
use Rattle.std.specs.Prelude as prelude
use Rattle.std.proofs.Math.Option.{Option, none, some}
use Rattle.check_types.specs.declared.pending.Pending.{Pending}

-- the types in the n lowest bytes of a word, from the top down
unfoldable pub types_in : ℕ → ℕ → List ℕ
types_in zero w = []
types_in (suc n) w = (w % 256) ∷ types_in n (w / 256)

abbrev pub types_of : Pending → List ℕ
types_of q = types_in q.count q.types

-- the types that the code answers, or a fault
abbrev pub result_in : prelude.Option Pending → Option (List ℕ)
result_in None = none
result_in (Some q) = some (types_of q)

-- the top type, 0 where there is none
unfoldable pub top_of : Option (List ℕ) → ℕ
top_of none = 0
top_of (some ts) = get_or ts 0 0

-- an operand off, which must be of type t
unfoldable pub take_off : ℕ → Option (List ℕ) → Option (List ℕ)
take_off t none = none
take_off t (some []) = none
take_off t (some (x ∷ xs)) = cond (eqb x t) (some xs) none

-- a value of type g on: at most eight
unfoldable pub put_on : ℕ → Option (List ℕ) → Option (List ℕ)
put_on g none = none
put_on g (some ts) = cond (ltb (length ts) 8) (some (g ∷ ts)) none

-- nothing may be pending
unfoldable pub bared : Option (List ℕ) → Option (List ℕ)
bared none = none
bared (some []) = some []
bared (some (x ∷ xs)) = none

-- one value of any type off, and nothing left
unfoldable pub dropped_one : Option (List ℕ) → Option (List ℕ)
dropped_one none = none
dropped_one (some []) = none
dropped_one (some (x ∷ xs)) = bared (some xs)
