-- The numbers of a file, the tests of `well_built` in the order in which the code makes them, and the words of a part.
use Prim.Native.Nat.{ℕ, zero, suc, ◌+◌, ◌*◌, ◌-◌, ◌/◌, ◌%◌, ◌≤◌, ◌<◌, min}
use mathlib.Core.Path.{◌≡◌, refl, ◌∙◌, ap, ap₂}
use mathlib.Core.Bool.{Bool, ◌&&◌, and_assoc}
use mathlib.Core.List.{List, [], ◌∷◌}
use native.Mathlib.Nat.{not-suc-le-zero}
use native.Mathlib.Omega.{arith}
use lib.Dec.{eqb, leb}
use lib.ListN.{get_or, length, take, drop, length-take, length-drop}
use lib.Seq.{get_or-take, get_or-drop}
use Rattle.print_format.specs.Format.{number_at, well_built, words_of}

-- a number is two 16-bit numbers, the lower one first
pub number_at-halves : (bytes : List ℕ) (i : ℕ)
    → number_at bytes i
    ≡ (get_or bytes i 0 + 256 * get_or bytes (i + 1) 0) + 65536 * (get_or bytes (i + 2) 0 + 256 * get_or bytes (i + 2 + 1) 0)
unfolding number_at
number_at-halves bytes i =
    let e : get_or bytes (i + 2 + 1) 0 ≡ get_or bytes (i + 3) 0
    = ap (λ (j : ℕ). get_or bytes j 0) {x = i + 2 + 1} {y = i + 3} (omega arith) in
    omega arith

-- the tests as the code makes them: the size, then the offsets and lengths of the three parts
abbrev pub tests : ℕ → ℕ → ℕ → ℕ → ℕ → ℕ → ℕ → Bool
tests n o0 l0 o1 l1 o2 l2 =
    (leb 24 n && leb n 65536)
    && (eqb o0 24 && eqb o1 (o0 + l0) && eqb o2 (o1 + l1) && eqb n (o2 + l2))
    && eqb (l0 % 2) 0

well_built-tests : (bytes : List ℕ)
    → tests (length bytes) (number_at bytes 0) (number_at bytes 4) (number_at bytes 8) (number_at bytes 12)
    (number_at bytes 16)
    (number_at bytes 20)
    ≡ well_built bytes
unfolding well_built
well_built-tests bytes = simp and_assoc

pub well_built-by : (bytes : List ℕ) {o0 l0 o1 l1 o2 l2 : ℕ}
    → o0 ≡ number_at bytes 0 → l0 ≡ number_at bytes 4 → o1 ≡ number_at bytes 8 → l1 ≡ number_at bytes 12
    → o2 ≡ number_at bytes 16 → l2 ≡ number_at bytes 20
    → tests (length bytes) o0 l0 o1 l1 o2 l2 ≡ well_built bytes
well_built-by bytes a b c d e f = rw (a, b, c, d, e, f) (well_built-tests bytes)

-- the words of bytes, by index

pub words_of-length : (bytes : List ℕ) → length (words_of bytes) ≡ length bytes / 2
unfolding words_of
words_of-length [] = refl
words_of-length (b ∷ []) = refl
words_of-length (b ∷ d ∷ bytes) = omega (arith, words_of-length bytes)

pub words_of-at : (bytes : List ℕ) (i : ℕ) → i < length (words_of bytes)
    → get_or (words_of bytes) i 0 ≡ get_or bytes (2 * i) 0 + 256 * get_or bytes (2 * i + 1) 0
unfolding words_of
words_of-at [] i h = absurd (not-suc-le-zero h)
words_of-at (b ∷ []) i h = absurd (not-suc-le-zero h)
words_of-at (b ∷ d ∷ bytes) zero h = refl
words_of-at (b ∷ d ∷ bytes) (suc i) h =
    words_of-at bytes i (omega arith)
    ∙ ap₂ (λ (x y : ℕ). x + 256 * y) (byte (2 * i) (2 * suc i) (omega arith))
    (byte (2 * i + 1) (2 * suc i + 1) (omega arith))
  where
    byte : (i j : ℕ) → j ≡ 2 + i → get_or bytes i 0 ≡ get_or (b ∷ d ∷ bytes) j 0
    byte i j p = ap (λ (m : ℕ). get_or (b ∷ d ∷ bytes) m 0) {x = suc (suc i)} {y = j} (omega arith)

-- the words of a part of the bytes
module _ (bytes : List ℕ) (from n : ℕ) where
  abbrev pub part : List ℕ
  part = take n (drop from bytes)

  pub part_length : length part ≡ min n (length bytes - from)
  part_length = simp (length-take, length-drop)

  pub words_few : 2 * length (words_of part) ≤ n
  words_few = omega (arith, words_of-length part, part_length)

  pub part-word : (i : ℕ) → i < length (words_of part)
      → get_or (words_of part) i 0 ≡ get_or bytes (from + 2 * i) 0 + 256 * get_or bytes (from + 2 * i + 1) 0
  part-word i h =
      let inside : 2 * i + 1 < n = omega (arith, words_of-length part, part_length) in
      words_of-at part i h
      ∙ ap₂ (λ (x y : ℕ). x + 256 * y)
      (get_or-take n (drop from bytes) (2 * i) 0 (omega arith) ∙ get_or-drop from bytes (2 * i) 0)
      (get_or-take n (drop from bytes) (2 * i + 1) 0 inside
      ∙ get_or-drop from bytes (2 * i + 1) 0
      ∙ ap (λ (j : ℕ). get_or bytes j 0) {x = from + (2 * i + 1)} {y = from + 2 * i + 1} (omega arith))
