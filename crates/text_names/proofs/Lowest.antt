-- Laws of the lowest place.
use Prim.Native.Nat.{ℕ, ◌≤◌, ◌<◌}
use native.Mathlib.Omega.{arith}
use mathlib.Core.Path.{◌≡◌, refl, sym, ap, ◌∙◌}
use mathlib.Core.Bool.{Bool, true, false, cond}
use mathlib.Core.List.{List, [], ◌∷◌, ◌++◌}
use mathlib.Core.Option.{Option, none, some}
use lib.Dec.{leb}
use borrow.Author.Tests.{leb-true, leb-false}
use Rattle.text.specs.Names.{lower, lowest}
use Rattle.text_names.specs.FaultsCode.{lower_of}

least-comm : (i j : ℕ) → cond (leb i j) i j ≡ cond (leb j i) j i
least-comm i j = by (leb i j) (leb j i) refl refl
  where
    by : (a b : Bool) → leb i j ≡ a → leb j i ≡ b → cond a i j ≡ cond b j i
    by true true e f =
        let l : i ≤ j = leb-true i j e in let m : j ≤ i = leb-true j i f in omega arith
    by true false e f = refl
    by false true e f = refl
    by false false e f =
        let l : j < i = leb-false i j e in let m : i < j = leb-false j i f in absurd (omega arith)

least-assoc : (i j k : ℕ)
    → cond (leb (cond (leb i j) i j) k) (cond (leb i j) i j) k ≡ cond (leb i (cond (leb j k) j k)) i
    (cond (leb j k) j k)
least-assoc i j k = by (leb i j) (leb j k) (leb i k) refl refl refl
  where
    by : (a b c : Bool) → leb i j ≡ a → leb j k ≡ b → leb i k ≡ c
        → cond (leb (cond a i j) k) (cond a i j) k ≡ cond (leb i (cond b j k)) i (cond b j k)
    by true true true e f g = rw (e, g) refl
    by true true false e f g =
        let l : i ≤ j = leb-true i j e in
        let m : j ≤ k = leb-true j k f in
        let n : k < i = leb-false i k g in
        absurd (omega arith)
    by true false c e f g = refl
    by false true c e f g = rw (e, f) refl
    by false false true e f g =
        let l : j < i = leb-false i j e in
        let m : k < j = leb-false j k f in
        let n : i ≤ k = leb-true i k g in
        absurd (omega arith)
    by false false false e f g = rw (f, g) refl

pub lower-none : (o : Option ℕ) → lower_of o none ≡ o
unfolding lower_of lower
lower-none none = refl
lower-none (some i) = refl

pub lower-comm : (a b : Option ℕ) → lower_of a b ≡ lower_of b a
unfolding lower_of lower
lower-comm none none = refl
lower-comm none (some j) = refl
lower-comm (some i) none = refl
lower-comm (some i) (some j) = ap some (least-comm i j)

pub lower-assoc : (a b c : Option ℕ) → lower_of (lower_of a b) c ≡ lower_of a (lower_of b c)
unfolding lower_of lower
lower-assoc none b c = refl
lower-assoc (some i) none c = refl
lower-assoc (some i) (some j) none = refl
lower-assoc (some i) (some j) (some k) = ap some (least-assoc i j k)

-- a place in front of two lists belongs to either
pub lower-swap : (a b c : Option ℕ) → lower_of a (lower_of b c) ≡ lower_of b (lower_of a c)
lower-swap a b c =
    sym (lower-assoc a b c) ∙ ap (λ o. lower_of o c) (lower-comm a b) ∙ lower-assoc b a c

pub lowest-append : (is js : List ℕ) → lowest (is ++ js) ≡ lower_of (lowest is) (lowest js)
unfolding lowest lower_of
lowest-append [] js = refl
lowest-append (i ∷ is) js =
    ap (λ o. some (lower i o)) (lowest-append is js) ∙ sym (lower-assoc (some i) (lowest is) (lowest js))
