-- The parts of a file that is well built.
use Prim.Native.Nat.{ℕ, ◌+◌, ◌-◌, ◌≤◌, ◌%◌}
use mathlib.Core.Path.{◌≡◌, refl, sym, ◌∙◌, ap, ap₂}
use mathlib.Core.Bool.{Bool, true, false, ◌&&◌, true≢false}
use mathlib.Core.List.{List}
use native.Mathlib.Omega.{arith}
use borrow.Author.Tests.{eqb-true, leb-true}
use lib.Dec.{eqb, leb}
use lib.ListN.{take, drop, length}
use Rattle.print_format.specs.Format.{offset_at, length_at, well_built, words_of, part_of, refused_text, run_text, printed}
use Rattle.lists.specs.Lists.{put_from}
use Rattle.lists.proofs.Put.{put_from-length, put_from-take}
use Rattle.print_input.proofs.FileLaws.{words_of-length, part_length}

-- "adjacent from byte 24 to the file's end"
pub record Built (bytes : List ℕ) : Type 0 where
  pub short : length bytes ≤ 65536
  pub outcomes : offset_at bytes 2 ≡ offset_at bytes 1 + length_at bytes 1
  pub end : length bytes ≡ offset_at bytes 2 + length_at bytes 2

first : (a b : Bool) → (a && b) ≡ true → a ≡ true
first true b e = refl
first false b e = e

second : (a b : Bool) → (a && b) ≡ true → b ≡ true
second true b e = e
second false b e = absurd (true≢false (sym e))

pub built : (bytes : List ℕ) → well_built bytes ≡ true → Built bytes
unfolding well_built
built bytes ok =
    let n = length bytes in
    let o0 = offset_at bytes 0 in
    let o1 = offset_at bytes 1 in
    let o2 = offset_at bytes 2 in
    let l0 = length_at bytes 0 in
    let l1 = length_at bytes 1 in
    let l2 = length_at bytes 2 in
    let size = leb 24 n && leb n 65536 in
    let front = eqb o0 24 && eqb o1 (o0 + l0) in
    let back = eqb o2 (o1 + l1) && eqb n (o2 + l2) in
    let even = eqb (l0 % 2) 0 in
    let rest = second size (front && (back && even)) ok in
    let adjacent = first back even (second front (back && even) rest) in record {
      short = leb-true n 65536 (second (leb 24 n) (leb n 65536) (first size (front && (back && even)) ok));
      outcomes = eqb-true o2 (o1 + l1) (first (eqb o2 (o1 + l1)) (eqb n (o2 + l2)) adjacent);
      end = eqb-true n (o2 + l2) (second (eqb o2 (o1 + l1)) (eqb n (o2 + l2)) adjacent);
    }

module _ (bytes : List ℕ) (b : Built bytes) where
  -- the words of any part fit a buffer of 32,768, and are then what stands there
  module _ (buffer : List ℕ) (room : length buffer ≡ 32768) (from size : ℕ) where
    abbrev words : List ℕ
    words = words_of (take size (drop from bytes))

    few : length words ≤ 32768
    few = omega (arith, words_of-length (take size (drop from bytes)), part_length bytes from size, b.short)

    pub words-fit : {n : ℕ} {left : List ℕ} → left ≡ put_from buffer 0 words → n ≡ length words → n ≤ length left
    words-fit e f = omega (arith, few, room, f, ap length e, put_from-length buffer 0 words)

    pub words-read : {n : ℕ} {left : List ℕ} → left ≡ put_from buffer 0 words → n ≡ length words
        → from ≡ offset_at bytes 0 → size ≡ length_at bytes 0 → take n left ≡ words_of (part_of bytes 0)
    unfolding part_of
    words-read {n} {left} e f p q =
        ap₂ (λ (k : ℕ) (l : List ℕ). take k l) {x = n} {y = 0 + length words} (omega (arith, f)) e
        ∙ put_from-take buffer 0 words (omega (arith, few, room))
        ∙ ap₂ (λ (i k : ℕ). words_of (take k (drop i bytes))) p q

  pub schedule-read : {a e : ℕ} → a ≡ offset_at bytes 1 → e ≡ offset_at bytes 2
      → take (e - a) (drop a bytes) ≡ part_of bytes 1
  unfolding part_of
  schedule-read {a} {e} p q =
      ap₂ (λ (k i : ℕ). take k (drop i bytes)) {x = e - a} {y = length_at bytes 1} (omega (arith, p, q, b.outcomes)) p

  pub outcomes-read : {a : ℕ} → a ≡ offset_at bytes 2 → take (length bytes - a) (drop a bytes) ≡ part_of bytes 2
  unfolding part_of
  outcomes-read {a} p =
      ap₂ (λ (k i : ℕ). take k (drop i bytes)) {x = length bytes - a} {y = length_at bytes 2} (omega (arith, p, b.end))
      p

  -- the parts stand in the file one after the other
  pub in_order : {a e : ℕ} → a ≡ offset_at bytes 1 → e ≡ offset_at bytes 2 → (a ≤ e) × (e ≤ length bytes)
  in_order p q = (omega (arith, p, q, b.outcomes), omega (arith, q, b.end))

pub parts-text : {p p' s s' o o' : List ℕ} → p ≡ p' → s ≡ s' → o ≡ o' → run_text p s o ≡ run_text p' s' o'
parts-text e f g = λ i. run_text (e i) (f i) (g i)

-- what is printed, by the file's being well built
module _ (bytes : List ℕ) where
  pub printed-run : well_built bytes ≡ true
      → run_text (words_of (part_of bytes 0)) (part_of bytes 1) (part_of bytes 2) ≡ printed bytes
  unfolding printed
  printed-run e = rw e

  pub printed-refusal : well_built bytes ≡ false → refused_text 9 0 ≡ printed bytes
  unfolding printed
  printed-refusal e = rw e
