-- The definitions on lists that the library of the logic lacks. Nothing here knows of programs or processes.
use Rattle.std.specs.Prelude.{ℕ, zero, suc, Bool, true, false, cond, ◌&&◌, ◌||◌, List, [], ◌∷◌, ◌++◌, eqb, ltb, set}
use Rattle.std.specs.Prelude.{Some, None}
use Rattle.std.specs.Prelude as prelude
use Rattle.std.proofs.Math.Option.{Option, none, or_else}

-- some element passes the test
abbrev pub any : {A : Type 0} → (A → Bool) → List A → Bool
any f [] = false
any f (x ∷ xs) = f x || any f xs

-- every element passes the test
abbrev pub every : {A : Type 0} → (A → Bool) → List A → Bool
every f [] = true
every f (x ∷ xs) = f x && every f xs

-- a property of every element
abbrev pub All : {A : Type 0} → (A → Type 0) → List A → Type 0
All P [] = Unit {0}
All P (x ∷ xs) = P x × All P xs

-- two lists of numbers are the same
abbrev pub same : List ℕ → List ℕ → Bool
same [] [] = true
same [] (y ∷ ys) = false
same (x ∷ xs) [] = false
same (x ∷ xs) (y ∷ ys) = eqb x y && same xs ys

-- the first index below n at which the test fails, or n where it fails at none
unfoldable pub first_false : (ℕ → Bool) → ℕ → ℕ
first_false f zero = zero
first_false f (suc n) = let i = first_false f n in cond (ltb i n) i (cond (f n) (suc n) n)

-- the same where the test fails at some index below n
unfoldable pub first_place : (ℕ → Bool) → ℕ → prelude.Option ℕ
first_place f n = let i = first_false f n in cond (ltb i n) (Some i) None

-- the test holds at every index below n
unfoldable pub all_below : (ℕ → Bool) → ℕ → Bool
all_below f zero = true
all_below f (suc n) = all_below f n && f n

-- the first answer that is given at an index below n
unfoldable pub first_some : {A : Type 0} → (ℕ → Option A) → ℕ → Option A
unfolding or_else
first_some f zero = none
first_some f (suc n) = or_else (first_some f n) (f n)

-- the numbers below n, in order
unfoldable pub below : ℕ → List ℕ
below zero = []
below (suc n) = below n ++ (n ∷ [])

-- a list with elements written from an index on; one past its end is not written
unfoldable pub put_from : List ℕ → ℕ → List ℕ → List ℕ
put_from out at [] = out
put_from out at (x ∷ xs) = put_from (set out at x) (suc at) xs
