-- Laws of parts of a text, and of `same`.
use Prim.Native.Nat.{ℕ, zero, suc, ◌+◌, ◌-◌, ◌≤◌, ◌<◌, min}
use native.Mathlib.Nat.{zero-add, suc-add, min-le_left, min-le_right}
use native.Mathlib.Omega.{arith}
use native.Mathlib.Numerals.{add-one}
use mathlib.Core.Path.{◌≡◌, refl, sym, ap, ◌∙◌}
use mathlib.Core.Bool.{true, false, ◌&&◌}
use mathlib.Core.List.{List, [], ◌∷◌}
use borrow.Author.Tests.{eq-eqb, ne_eqb}
use lib.Dec.{T, eqb}
use lib.ListN.{length, get_or, take, drop, length-take, length-drop, drop_of_length-le}
use lib.Seq.{slice, drop-cons, get_or-take, get_or-drop, take_all, take-nil, take-length, length-slice}
use Rattle.lists.specs.Lists.{same}
use Rattle.lists.proofs.Laws.{same-equal}
use Rattle.lists.proofs.Tests.{passes, failed, and_both}

pub same_refl : (xs : List ℕ) → T (same xs xs)
same_refl [] = tt
same_refl (x ∷ xs) = and_both (eqb x x) (same xs xs) (passes (eq-eqb x x refl)) (same_refl xs)

-- lists of different lengths are not the same
pub same-unlike : (xs ys : List ℕ) → (length xs ≡ length ys → ⊥) → same xs ys ≡ false
same-unlike xs ys h = failed (same xs ys) (λ t. h (ap length (same-equal xs ys t)))

-- lists of one length, from an index on
pub same-on : (xs ys : List ℕ) (k : ℕ) → k < length xs → k < length ys
    → same (drop k xs) (drop k ys) ≡ (eqb (get_or xs k 0) (get_or ys k 0) && same (drop (k + 1) xs) (drop (k + 1) ys))
same-on xs ys k h l = rw (drop-cons xs k 0, drop-cons ys k 0, add-one)

pub same_end : (xs ys : List ℕ) (k : ℕ) → length xs ≤ k → length ys ≤ k → same (drop k xs) (drop k ys) ≡ true
same_end xs ys k h l = rw (drop_of_length-le xs h, drop_of_length-le ys l)

-- the length of a part, whether the text reaches its end or not
pub part-within : (text : List ℕ) (s e : ℕ) → e ≤ length text → length (slice s e text) ≡ e - s
part-within text s e h = length-slice s e text h

pub part-past : (text : List ℕ) (s e : ℕ) → length text ≤ e → length (slice s e text) ≡ length text - s
part-past text s e h = rw (take_all e text h) (length-drop s text)

pub part-least : (text : List ℕ) (s e : ℕ) → length (slice s e text) ≡ min e (length text) - s
part-least text s e = length-drop s (take e text) ∙ ap (λ (n : ℕ). n - s) (length-take e text)

-- a byte of a part
pub part_at : (text : List ℕ) (s e k : ℕ) → k < length (slice s e text)
    → get_or (slice s e text) k 0 ≡ get_or text (s + k) 0
part_at text s e k h =
    get_or-drop s (take e text) k 0
    ∙ get_or-take e text (s + k) 0 (omega (arith, part-least text s e, min-le_left e (length text)))

-- a part's length is that of its text at most
pub part-fits : (text : List ℕ) (s e k : ℕ) → k < length (slice s e text) → s + k < length text
part-fits text s e k h = omega (arith, part-least text s e, min-le_right e (length text))

-- m bytes from place s on
pub part-take : (s m : ℕ) (text : List ℕ) → slice s (s + m) text ≡ take m (drop s text)
part-take zero m text = rw (zero-add m) refl
part-take (suc s) m [] = rw (suc-add s m) (sym (take-nil m))
part-take (suc s) m (b ∷ bs) = rw (suc-add s m) (part-take s m bs)

pub part-whole : (text : List ℕ) → slice 0 (length text) text ≡ text
part-whole text = take-length text

-- two parts of one length, byte by byte
module _ (a b : List ℕ) (from to start end k : ℕ) where
  abbrev one : List ℕ
  one = slice from to a

  abbrev other : List ℕ
  other = slice start end b

  parts_at : k < length one → k < length other
      → same (drop k one) (drop k other)
      ≡ (eqb (get_or a (from + k) 0) (get_or b (start + k) 0) && same (drop (k + 1) one) (drop (k + 1) other))
  parts_at h l = same-on one other k h l ∙ rw (part_at a from to k h, part_at b start end k l) refl

  pub parts-on : k < length one → k < length other → get_or a (from + k) 0 ≡ get_or b (start + k) 0
      → same (drop k one) (drop k other) ≡ same (drop (k + 1) one) (drop (k + 1) other)
  parts-on h l e = parts_at h l ∙ rw (eq-eqb (get_or a (from + k) 0) (get_or b (start + k) 0) e) refl

  pub parts-differ : k < length one → k < length other → (get_or a (from + k) 0 ≡ get_or b (start + k) 0 → ⊥)
      → same (drop k one) (drop k other) ≡ false
  parts-differ h l e = parts_at h l ∙ rw (ne_eqb (get_or a (from + k) 0) (get_or b (start + k) 0) e) refl
