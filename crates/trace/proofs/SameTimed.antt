-- Two lists of lines compared with their gaps, index by index.
use Prim.Native.Nat.{ℕ, suc, ◌+◌, ◌≤◌, ◌<◌}
use mathlib.Core.Path.{◌≡◌, refl, sym, ◌∙◌, ap, ap₂}
use mathlib.Core.Logic.{◌≢◌}
use mathlib.Core.Bool.{Bool, true, false, ◌&&◌, and-false}
use mathlib.Core.List.{List, [], ◌∷◌}
use native.Mathlib.Numerals.{add-one}
use native.Mathlib.Omega.{arith}
use borrow.Author.Tests.{ltb-true, ltb-false}
use lib.Dec.{ltb}
use lib.ListN.{get_or, drop, length, drop_of_length-le}
use lib.Seq.{drop-cons}
use Rattle.lists.proofs.Tests.{cond-each}
use Rattle.machine.specs.Value.{eq_z}
use Rattle.machine.specs.State.{Line}
use Rattle.machine.specs.Owner.{no_line}
use Rattle.trace.specs.Trace.{same_line, same_all, gap, gaps, same_gaps, same_timed}
use Rattle.trace.specs.ReadCode.{same_gap_at, same_at}

-- lists of different lengths are not the same

same_all-lengths : (ls ms : List Line) → length ls ≢ length ms → same_all ls ms ≡ false
unfolding same_all
same_all-lengths [] [] n = absurd (n refl)
same_all-lengths [] (m ∷ ms) n = refl
same_all-lengths (l ∷ ls) [] n = refl
same_all-lengths (l ∷ ls) (m ∷ ms) n =
    ap (λ (b : Bool). same_line l m && b) (same_all-lengths ls ms (λ e. n (ap suc e))) ∙ and-false (same_line l m)

pub same_timed-lengths : (ls ms : List Line) → length ls ≢ length ms → same_timed ls ms ≡ false
unfolding same_timed
same_timed-lengths ls ms n = ap (λ (b : Bool). b && same_gaps (gaps ls) (gaps ms)) (same_all-lengths ls ms n)

-- two lines at the front: the first of them, the gap to the second, and what follows; and one line alone

two-lines : (l l' m m' : Line) (ls ms : List Line)
    → same_timed (l ∷ l' ∷ ls) (m ∷ m' ∷ ms)
    ≡ ((same_line l m && eq_z (gap l l') (gap m m')) && same_timed (l' ∷ ls) (m' ∷ ms))
unfolding same_timed same_all gaps same_gaps
two-lines l l' m m' ls ms =
    across (same_line l m) (same_all (l' ∷ ls) (m' ∷ ms)) (eq_z (gap l l') (gap m m'))
    (same_gaps (gaps (l' ∷ ls)) (gaps (m' ∷ ms)))
  where
    across : (a b c d : Bool) → ((a && b) && (c && d)) ≡ ((a && c) && (b && d))
    across true b true d = refl
    across true b false d = and-false b
    across false b c d = refl

one_line : (l m : Line) → same_timed (l ∷ []) (m ∷ []) ≡ ((same_line l m && true) && same_timed [] [])
unfolding same_timed same_all gaps same_gaps
one_line l m = refl

drop_at : (ls : List Line) (i : ℕ) → i < length ls → drop i ls ≡ get_or ls i no_line ∷ drop (i + 1) ls
drop_at ls i h = drop-cons ls i no_line h ∙ ap (λ (n : ℕ). get_or ls i no_line ∷ drop n ls) (sym (add-one i))

-- from index i on, with the lines l and m there
module _ (ls ms : List Line) (i : ℕ) (h : i < length ls) (s : length ls ≡ length ms) where
  abbrev l : Line
  l = get_or ls i no_line

  abbrev m : Line
  m = get_or ms i no_line

  abbrev rest : Bool
  rest = same_timed (drop (i + 1) ls) (drop (i + 1) ms)

  at_front : same_timed (drop i ls) (drop i ms) ≡ same_timed (l ∷ drop (i + 1) ls) (m ∷ drop (i + 1) ms)
  at_front = ap₂ same_timed (drop_at ls i h) (drop_at ms i (omega arith))

  -- another line follows
  followed : i + 1 < length ls → same_timed (drop i ls) (drop i ms) ≡ ((same_line l m && same_gap_at ls ms i) && rest)
  unfolding same_gap_at
  followed j =
      at_front
      ∙ ap₂ (λ (xs ys : List Line). same_timed (l ∷ xs) (m ∷ ys)) p q
      ∙ two-lines l (get_or ls (i + 1) no_line) m (get_or ms (i + 1) no_line) (drop (i + 1 + 1) ls) (drop (i + 1 + 1) ms)
      ∙ ap₂ (λ (xs ys : List Line). (same_line l m && same_gap_at ls ms i) && same_timed xs ys) (sym p) (sym q)
    where
      p : drop (i + 1) ls ≡ get_or ls (i + 1) no_line ∷ drop (i + 1 + 1) ls
      p = drop_at ls (i + 1) j

      q : drop (i + 1) ms ≡ get_or ms (i + 1) no_line ∷ drop (i + 1 + 1) ms
      q = drop_at ms (i + 1) (omega arith)

  -- they are the last
  alone : length ls ≤ i + 1 → same_timed (drop i ls) (drop i ms) ≡ ((same_line l m && true) && rest)
  alone j =
      at_front
      ∙ ap₂ (λ (xs ys : List Line). same_timed (l ∷ xs) (m ∷ ys)) p q
      ∙ one_line l m
      ∙ ap₂ (λ (xs ys : List Line). (same_line l m && true) && same_timed xs ys) (sym p) (sym q)
    where
      p : drop (i + 1) ls ≡ []
      p = drop_of_length-le ls j

      q : drop (i + 1) ms ≡ []
      q = drop_of_length-le ms {i = i + 1} (omega arith)

  same_timed-next : same_timed (drop i ls) (drop i ms) ≡ (same_at ls ms i && rest)
  unfolding same_at
  same_timed-next =
      cond-each (λ (b : Bool). same_timed (drop i ls) (drop i ms) ≡ ((same_line l m && b) && rest))
      (ltb (i + 1) (length ls))
      (λ t. followed (ltb-true (i + 1) (length ls) t))
      (λ t. alone (ltb-false (i + 1) (length ls) t))

  pub same_timed-agree : same_at ls ms i ≡ true → same_timed (drop i ls) (drop i ms) ≡ rest
  same_timed-agree e = same_timed-next ∙ ap (λ (b : Bool). b && rest) e

  pub same_timed-differ : same_at ls ms i ≡ false → same_timed (drop i ls) (drop i ms) ≡ false
  same_timed-differ e = same_timed-next ∙ ap (λ (b : Bool). b && rest) e

-- after the last lines
pub same_timed-end : (ls ms : List Line) (i : ℕ) → length ls ≤ i → length ms ≤ i
    → same_timed (drop i ls) (drop i ms) ≡ true
unfolding same_timed same_all gaps same_gaps
same_timed-end ls ms i h k = ap₂ same_timed (drop_of_length-le ls h) (drop_of_length-le ms k)
