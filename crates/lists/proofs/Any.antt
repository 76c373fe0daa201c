-- Laws of `any`, `All` and `first_some`.
use Prim.Native.Nat.{ℕ, zero, suc, ◌<◌}
use mathlib.Core.Path.{◌≡◌, refl, ◌∙◌}
use mathlib.Core.Logic.{⊎_elim}
use mathlib.Core.Bool.{Bool}
use mathlib.Core.List.{List, [], ◌∷◌, ◌++◌, map, reverse, reverse_aux}
use mathlib.Core.Option.{Option, none, some, or_else, none-ne-some}
use native.Mathlib.Nat.{le_step, le_refl}
use lib.ListN.{get_or, take, drop, set, replicate}
use lib.Dec.{T}
use Rattle.lists.specs.Lists.{any, All, first_some}
use Rattle.lists.proofs.Tests.{or_cases, or_left, or_right}

module _ {A : Type 0} where
  -- any

  pub any-append-left : (f : A → Bool) (xs ys : List A) → T (any f xs) → T (any f (xs ++ ys))
  any-append-left f [] ys t = absurd t
  any-append-left f (x ∷ xs) ys t =
      ⊎_elim (or_left (f x) (any f (xs ++ ys))) (λ u. or_right (f x) (any f (xs ++ ys)) (any-append-left f xs ys u))
      (or_cases (f x) (any f xs) t)

  pub any-append-right : (f : A → Bool) (xs ys : List A) → T (any f ys) → T (any f (xs ++ ys))
  any-append-right f [] ys t = t
  any-append-right f (x ∷ xs) ys t = or_right (f x) (any f (xs ++ ys)) (any-append-right f xs ys t)

  pub any-mono : (f g : A → Bool) → ((x : A) → T (f x) → T (g x)) → (xs : List A) → T (any f xs) → T (any g xs)
  any-mono f g h [] t = t
  any-mono f g h (x ∷ xs) t =
      ⊎_elim (λ u. or_left (g x) (any g xs) (h x u)) (λ u. or_right (g x) (any g xs) (any-mono f g h xs u))
      (or_cases (f x) (any f xs) t)

  -- All

  pub All-append : (P : A → Type 0) (xs ys : List A) → All P xs → All P ys → All P (xs ++ ys)
  All-append P [] ys a b = b
  All-append P (x ∷ xs) ys a b = (a.0, All-append P xs ys a.1 b)

  pub All-take : (P : A → Type 0) (n : ℕ) (xs : List A) → All P xs → All P (take n xs)
  All-take P zero xs a = tt
  All-take P (suc n) [] a = tt
  All-take P (suc n) (x ∷ xs) a = (a.0, All-take P n xs a.1)

  pub All-drop : (P : A → Type 0) (n : ℕ) (xs : List A) → All P xs → All P (drop n xs)
  All-drop P zero xs a = a
  All-drop P (suc n) [] a = tt
  All-drop P (suc n) (x ∷ xs) a = All-drop P n xs a.1

  pub All-set : (P : A → Type 0) (xs : List A) (n : ℕ) (y : A) → All P xs → P y → All P (set xs n y)
  All-set P [] n y a b = tt
  All-set P (x ∷ xs) zero y a b = (b, a.1)
  All-set P (x ∷ xs) (suc n) y a b = (a.0, All-set P xs n y a.1 b)

  pub All-get_d : (P : A → Type 0) (xs : List A) (n : ℕ) (d : A) → All P xs → P d → P (get_or xs n d)
  All-get_d P [] n d a b = b
  All-get_d P (x ∷ xs) zero d a b = a.0
  All-get_d P (x ∷ xs) (suc n) d a b = All-get_d P xs n d a.1 b

  pub All-replicate : (P : A → Type 0) (n : ℕ) (x : A) → P x → All P (replicate n x)
  All-replicate P zero x p = tt
  All-replicate P (suc n) x p = (p, All-replicate P n x p)

  pub All-reverse_aux : (P : A → Type 0) (xs ys : List A) → All P xs → All P ys → All P (reverse_aux xs ys)
  All-reverse_aux P [] ys a b = b
  All-reverse_aux P (x ∷ xs) ys a b = All-reverse_aux P xs (x ∷ ys) a.1 (a.0, b)

  pub All-reverse : (P : A → Type 0) (xs : List A) → All P xs → All P (reverse xs)
  All-reverse P xs a = All-reverse_aux P xs [] a tt

  pub All-map : {B : Type 0} (P : B → Type 0) (f : A → B) (xs : List A) → All (λ x. P (f x)) xs → All P (map f xs)
  All-map P f [] a = tt
  All-map P f (x ∷ xs) a = (a.0, All-map P f xs a.1)

  pub All-implies : (P Q : A → Type 0) (h : (x : A) → P x → Q x) (xs : List A) → All P xs → All Q xs
  All-implies P Q h [] a = tt
  All-implies P Q h (x ∷ xs) a = (h x a.0, All-implies P Q h xs a.1)

  -- some element passes a test: what holds of every element and of every passing one leads to a conclusion
  pub any-elim : (f : A → Bool) (P : A → Type 0) (C : Type 0) (h : (x : A) → P x → T (f x) → C) (xs : List A)
      → All P xs → T (any f xs) → C
  any-elim f P C h [] a t = absurd t
  any-elim f P C h (x ∷ xs) a t =
      ⊎_elim (h x a.0) (any-elim f P C h xs a.1) (or_cases (f x) (any f xs) t)

  -- first_some

  pub first_some-found : (f : ℕ → Option A) (n : ℕ) (a : A) → first_some f n ≡ some a → (k : ℕ) × (k < n) × (f k ≡ some a)
  unfolding first_some
  first_some-found f zero a e = absurd (none-ne-some a e)
  first_some-found f (suc n) a e = step (first_some f n) refl (first_some-found f n a) e
    where
      step : (o : Option A) → first_some f n ≡ o → (first_some f n ≡ some a → (k : ℕ) × (k < n) × (f k ≡ some a))
          → or_else o (f n) ≡ some a → (k : ℕ) × (k < suc n) × (f k ≡ some a)
      step none q ih r = (n, le_refl (suc n), r)
      step (some b) q ih r = let w = ih (q ∙ r) in (w.0, le_step w.1, w.2)
