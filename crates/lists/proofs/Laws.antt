-- Laws of lists that the library of the logic lacks, and of `same`.
use Prim.Native.Nat.{ℕ, ◌≤◌, ◌<◌}
use native.Mathlib.Omega.{arith}
use mathlib.Core.Logic.{◌≢◌}
use mathlib.Core.Path.{◌≡◌, refl, ap₂}
use mathlib.Core.List.{List, [], ◌∷◌, ◌++◌, cons≢nil}
use lib.ListN.{get_or, length, get_or-eq_default}
use lib.Dec.{T, eqb, eqb→eq}
use Rattle.lists.specs.Lists.{same}
use Rattle.lists.proofs.Tests.{and_left, and_right}

module _ {A : Type 0} where
  pub append-nil-right : (xs ys : List A) → xs ++ ys ≡ [] → ys ≡ []
  append-nil-right [] ys e = e
  append-nil-right (x ∷ xs) ys e = absurd (cons≢nil e)

  -- what is not the default stands within the list
  pub get_d-within : (xs : List A) (i : ℕ) (d : A) → get_or xs i d ≢ d → i < length xs
  get_d-within xs i d h =
      let within : ¬ (length xs ≤ i) = λ l. h (get_or-eq_default xs d l) in
      omega arith

pub same-equal : (xs ys : List ℕ) → T (same xs ys) → xs ≡ ys
same-equal [] [] t = refl
same-equal [] (y ∷ ys) t = absurd t
same-equal (x ∷ xs) [] t = absurd t
same-equal (x ∷ xs) (y ∷ ys) t =
    ap₂ {C = List ℕ} (λ z zs. z ∷ zs) (eqb→eq x y (and_left (eqb x y) (same xs ys) t))
    (same-equal xs ys (and_right (eqb x y) (same xs ys) t))
