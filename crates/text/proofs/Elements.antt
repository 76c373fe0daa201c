-- Elements of a list by their index, where there is one.
use Prim.Native.Nat.{ℕ, zero, suc, ◌+◌, ◌<◌}
use native.Mathlib.Omega.{arith}
use mathlib.Core.Path.{◌≡◌, refl, ap, ◌∙◌}
use mathlib.Core.List.{List, [], ◌∷◌, ◌++◌}
use mathlib.Core.Option.{Option, none, some, none-ne-some}
use lib.ListN.{get_or, length, replicate}

-- the element of this index, where there is one
unfoldable pub nth : {A : Type 0} → List A → ℕ → Option A
nth [] n = none
nth (x ∷ xs) zero = some x
nth (x ∷ xs) (suc n) = nth xs n

module _ {A : Type 0} where
  -- an element's index lies within the list
  pub nth-within : (xs : List A) (n : ℕ) (x : A) → nth xs n ≡ some x → n < length xs
  unfolding nth
  nth-within [] n x e = absurd (none-ne-some x e)
  nth-within (y ∷ xs) zero x e = omega arith
  nth-within (y ∷ xs) (suc n) x e = omega (arith, nth-within xs n x e)

  -- every index within the list has an element
  pub nth-there : (xs : List A) (n : ℕ) → n < length xs → (x : A) × (nth xs n ≡ some x)
  unfolding nth
  nth-there [] n l = absurd (omega arith)
  nth-there (x ∷ xs) zero l = (x, refl)
  nth-there (x ∷ xs) (suc n) l = nth-there xs n (omega arith)

  -- elements of two lists after one another: those of the first keep their index
  pub nth-front : (xs ys : List A) (n : ℕ) (x : A) → nth xs n ≡ some x → nth (xs ++ ys) n ≡ some x
  unfolding nth
  nth-front [] ys n x e = absurd (none-ne-some x e)
  nth-front (y ∷ xs) ys zero x e = e
  nth-front (y ∷ xs) ys (suc n) x e = nth-front xs ys n x e

  -- those of the second stand after them
  pub nth-back : (xs ys : List A) (n : ℕ) → nth (xs ++ ys) (length xs + n) ≡ nth ys n
  unfolding nth
  nth-back [] ys n = ap (nth ys) {x = 0 + n} {y = n} (omega arith)
  nth-back (x ∷ xs) ys n =
      ap (nth (x ∷ xs ++ ys)) {x = suc (length xs) + n} {y = suc (length xs + n)} (omega arith) ∙ nth-back xs ys n

  -- a list filled up with the default reads as before
  pub get_d-filled : (xs : List A) (k i : ℕ) (d : A) → get_or (xs ++ replicate k d) i d ≡ get_or xs i d
  get_d-filled [] zero i d = refl
  get_d-filled [] (suc k) zero d = refl
  get_d-filled [] (suc k) (suc i) d = get_d-filled [] k i d
  get_d-filled (x ∷ xs) k zero d = refl
  get_d-filled (x ∷ xs) k (suc i) d = get_d-filled xs k i d
