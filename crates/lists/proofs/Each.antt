-- Two lists side by side: `Both R xs ys` says that they have the same length and that R holds at every index.
use Prim.Native.Nat.{ℕ, zero, suc, ◌≤◌, ◌<◌}
use native.Mathlib.Omega.{arith}
use mathlib.Core.Bool.{Bool, not}
use mathlib.Core.Path.{◌≡◌, refl, ap}
use mathlib.Core.List.{List, [], ◌∷◌, ◌++◌, map, reverse, reverse_aux}
use lib.Dec.{T}
use mir.Facts.{or_no}
use lib.ListN.{get_or, take, drop, set, length, replicate}
use Rattle.lists.specs.Lists.{any, All}

pub data Both {A B : Type 0} (R : A → B → Type 0) : List A → List B → Type 0 where
  nil : Both R [] []
  cons : {x : A} {y : B} {xs : List A} {ys : List B} → R x y → Both R xs ys → Both R (x ∷ xs) (y ∷ ys)

module _ {A B : Type 0} {R : A → B → Type 0} where
  pub both-length : {xs : List A} {ys : List B} → Both R xs ys → length xs ≡ length ys
  both-length nil = refl
  both-length (cons r h) = ap suc (both-length h)

  -- at an index, or at the defaults past the end
  pub both-get_d : {xs : List A} {ys : List B} → Both R xs ys → (i : ℕ) (x : A) (y : B)
      → R x y → R (get_or xs i x) (get_or ys i y)
  both-get_d nil i x y d = d
  both-get_d (cons r h) zero x y d = r
  both-get_d (cons r h) (suc i) x y d = both-get_d h i x y d

  -- the same, within the lists
  pub both_at : {xs : List A} {ys : List B} → Both R xs ys → (i : ℕ) (x : A) (y : B)
      → i < length ys → R (get_or xs i x) (get_or ys i y)
  both_at nil i x y l = absurd (omega arith)
  both_at (cons r h) zero x y l = r
  both_at (cons r h) (suc i) x y l = both_at h i x y (omega arith)

  pub both-take : {xs : List A} {ys : List B} (n : ℕ) → Both R xs ys → Both R (take n xs) (take n ys)
  both-take zero h = nil
  both-take (suc n) nil = nil
  both-take (suc n) (cons {x = x} {y = y} {xs = xs} {ys = ys} r h) = cons r (both-take {xs = xs} {ys = ys} n h)

  pub both-drop : {xs : List A} {ys : List B} (n : ℕ) → Both R xs ys → Both R (drop n xs) (drop n ys)
  both-drop zero h = h
  both-drop (suc n) nil = nil
  both-drop (suc n) (cons {x = x} {y = y} {xs = xs} {ys = ys} r h) = both-drop {xs = xs} {ys = ys} n h

  pub both-append : {xs zs : List A} {ys ws : List B} → Both R xs ys → Both R zs ws → Both R (xs ++ zs) (ys ++ ws)
  both-append nil k = k
  both-append (cons r h) k = cons r (both-append h k)

  both-reverse_aux : {xs zs : List A} {ys ws : List B} → Both R xs ys → Both R zs ws
      → Both R (reverse_aux xs zs) (reverse_aux ys ws)
  both-reverse_aux nil k = k
  both-reverse_aux (cons r h) k = both-reverse_aux h (cons r k)

  pub both-reverse : {xs : List A} {ys : List B} → Both R xs ys → Both R (reverse xs) (reverse ys)
  both-reverse h = both-reverse_aux h nil

  -- x in place i, where R holds of x and what stands there on the other side
  pub both-set : {xs : List A} {ys : List B} {x : A} (i : ℕ) (d : B)
      → Both R xs ys → R x (get_or ys i d) → Both R (set xs i x) ys
  both-set i d nil r = nil
  both-set zero d (cons q h) r = cons r h
  both-set (suc i) d (cons q h) r = cons q (both-set i d h r)

  -- a value that R relates to everything, against a whole list, and after what stands against a list's first part
  both-fill : (x : A) → ((y : B) → R x y) → (k : ℕ) (ys : List B) → length ys ≤ k
      → Both R (take (length ys) (replicate k x)) ys
  both-fill x f k [] h = nil
  both-fill x f zero (y ∷ ys) h = absurd (omega arith)
  both-fill x f (suc k) (y ∷ ys) h = cons (f y) (both-fill x f k ys (omega arith))

  pub both-pad : (x : A) → ((y : B) → R x y) → (n k : ℕ) (xs : List A) (ys : List B) → length ys ≤ k
      → Both R xs (take n ys) → Both R (take (length ys) (xs ++ replicate k x)) ys
  both-pad x f zero k xs ys h nil = both-fill x f k ys h
  both-pad x f (suc n) k xs [] h nil = nil
  both-pad x f (suc n) k xs (y ∷ ys) h (cons r b) = cons r (both-pad x f n k _ ys (omega arith) b)

  pub both-all : {P : A → Type 0} → ((x : A) (y : B) → R x y → P x) → {xs : List A} {ys : List B} → Both R xs ys
      → All P xs
  both-all f nil = tt
  both-all f (cons r h) = (f _ _ r, both-all f h)

  -- no element of the first list passes a test
  pub both-none : (f : A → Bool) {xs : List A} {ys : List B} → Both R xs ys → T (not (any f xs))
      → Both (λ x y. T (not (f x)) × R x y) xs ys
  both-none f nil t = nil
  both-none f (cons {x} {xs} r h) t = let n = or_no (f x) (any f xs) t in cons (n.0, r) (both-none f h n.1)

-- another relation, along a map of the first list
pub both-map : {A B C : Type 0} {R : A → B → Type 0} {S : C → B → Type 0} (g : A → C)
    → ((x : A) (y : B) → R x y → S (g x) y)
    → {xs : List A} {ys : List B} → Both R xs ys → Both S (map g xs) ys
both-map g f nil = nil
both-map g f (cons r h) = cons (f _ _ r) (both-map g f h)

pub both-implies : {A B : Type 0} {R S : A → B → Type 0} → ((x : A) (y : B) → R x y → S x y)
    → {xs : List A} {ys : List B} → Both R xs ys → Both S xs ys
both-implies f nil = nil
both-implies f (cons r h) = cons (f _ _ r) (both-implies f h)
