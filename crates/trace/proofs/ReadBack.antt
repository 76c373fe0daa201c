-- What the number of lines read means. Of n lines, the r read from the last one backwards are those from line n - r on,
-- and line n - r is where the reading stops. `read-back` says of them, for any words, any k and any qubit: after line
-- n - r none decides; line n - r decides, unless none of the n lines does, and then all are read; the holder by the
-- lines read alone is the holder by all n, whom line n - r names, and nobody exactly if none of the n lines decides.
use Prim.Native.Nat.{ℕ, suc, ◌-◌, ◌≤◌, ◌<◌}
use mathlib.Core.Path.{◌≡◌, refl, sym, ◌∙◌, ap, subst}
use mathlib.Core.Logic.{◌⊎◌, inl, inr}
use mathlib.Core.Bool.{Bool, true, false, cond, ◌||◌, or-true, or-false, or_assoc, true≢false}
use mathlib.Core.List.{List, [], ◌∷◌, ◌++◌, reverse, reverse-cons, reverse-reverse}
use mathlib.Core.Option.{none, some}
use native.Mathlib.Nat.{eq-or-lt_of_le}
use native.Mathlib.Omega.{arith}
use lib.ListN.{get_or, take, drop, length, length-append, get_or-append}
use lib.Seq.{get_or-append_seam, drop-append-le, drop-append_seam}
use Rattle.lists.specs.Lists.{any}
use Rattle.lists.proofs.Tests.{cond-each}
use Rattle.lists.proofs.Laws.{get_d-within}
use Rattle.machine.specs.Value.{qubit}
use Rattle.machine.specs.State.{Line}
use Rattle.machine.specs.Owner.{holder, no_line}
use Rattle.trace.specs.Trace.{lines_of, decides, read_back, count_read}
use Rattle.trace.specs.ReadCode.{named}
use Rattle.trace.proofs.Held.{holder-last}

-- r is the number of lines read of these
pub record FromBack (ls : List Line) (q r : ℕ) : Type 0 where
  -- no more are read than there are
  pub within : r ≤ length ls
  -- after the line where the reading stops none decides
  pub passed : (i : ℕ) → length ls - r < i → i < length ls → decides q (get_or ls i no_line) ≡ false
  -- that line decides if some line does, and if none does all are read
  pub stops : any (decides q) ls ≡ true → decides q (get_or ls (length ls - r) no_line) ≡ true
  pub whole : any (decides q) ls ≡ false → r ≡ length ls
  -- the lines read give the holder
  pub enough : holder (drop (length ls - r) ls) (qubit q) ≡ holder ls (qubit q)
  -- it is the one whom the line names where the reading stops, or nobody if none decides
  pub somebody : any (decides q) ls ≡ true → holder ls (qubit q) ≡ some (named (get_or ls (length ls - r) no_line))
  pub nobody : any (decides q) ls ≡ false → holder ls (qubit q) ≡ none

-- a test of some line, with one line more
any_last : (f : Line → Bool) (ls : List Line) (l : Line) → any f (ls ++ (l ∷ [])) ≡ (any f ls || f l)
any_last f [] l = or-false (f l)
any_last f (x ∷ ls) l = ap (λ (b : Bool). f x || b) (any_last f ls l) ∙ sym (or_assoc (f x) (any f ls) (f l))

-- a line that decides stands within the lines: the default, past them, does not decide
deciding-within : (q : ℕ) (ls : List Line) (i : ℕ) → decides q (get_or ls i no_line) ≡ true → i < length ls
unfolding decides
deciding-within q ls i e = get_d-within ls i no_line (λ p. true≢false (sym e ∙ ap (decides q) p))

-- one line more at the end
module _ (q : ℕ) (ls : List Line) (l : Line) where
  abbrev more : List Line
  more = ls ++ (l ∷ [])

  more-length : length more ≡ suc (length ls)
  more-length = omega (arith, length-append ls (l ∷ []))

  more-last : get_or more (length ls) no_line ≡ l
  more-last = get_or-append_seam ls l [] no_line

  more-before : (i : ℕ) → i < length ls → get_or more i no_line ≡ get_or ls i no_line
  more-before i h = get_or-append ls (l ∷ []) no_line i h

  -- if it decides, it is the only one read
  from-deciding : decides q l ≡ true → FromBack more q 1
  from-deciding e = record {
    within = omega (arith, more-length);
    passed = λ i h k. absurd (omega (arith, more-length));
    stops = λ _. ap (decides q) there ∙ e;
    whole = λ n. absurd (true≢false (sym found ∙ n));
    enough =
        ap (λ (i : ℕ). holder (drop i more) (qubit q)) here
        ∙ ap (λ (ms : List Line). holder ms (qubit q)) (drop-append_seam ls (l ∷ []))
        ∙ by_last []
        ∙ sym (by_last ls);
    somebody = λ _. by_last ls ∙ ap (λ (m : Line). some (named m)) (sym there);
    nobody = λ n. absurd (true≢false (sym found ∙ n));
  }
    where
      here : length more - 1 ≡ length ls
      here = omega (arith, more-length)

      there : get_or more (length more - 1) no_line ≡ l
      there = ap (λ (i : ℕ). get_or more i no_line) here ∙ more-last

      by_last : (ms : List Line) → holder (ms ++ (l ∷ [])) (qubit q) ≡ some (named l)
      by_last ms = holder-last q ms l ∙ ap (λ (b : Bool). cond b (some (named l)) (holder ms (qubit q))) e

      found : any (decides q) more ≡ true
      found =
          any_last (decides q) ls l
          ∙ ap (λ (b : Bool). any (decides q) ls || b) e
          ∙ or-true (any (decides q) ls)

  -- if it does not, the reading goes on with the lines before it
  from-passed : (r : ℕ) → decides q l ≡ false → FromBack ls q r → FromBack more q (suc r)
  from-passed r e f = record {
    within = omega (arith, more-length, f.within);
    passed = λ i h k. at-or-before i h (eq-or-lt_of_le (omega (arith, more-length)));
    stops = λ n. ap (decides q) (there (sym same ∙ n)) ∙ f.stops (sym same ∙ n);
    whole = λ n. omega (arith, more-length, f.whole (sym same ∙ n));
    enough =
        ap (λ (i : ℕ). holder (drop i more) (qubit q)) here
        ∙ ap (λ (ms : List Line). holder ms (qubit q)) (drop-append-le (length ls - r) ls (l ∷ []) (omega arith))
        ∙ kept (drop (length ls - r) ls)
        ∙ f.enough
        ∙ sym (kept ls);
    somebody = λ n.
        kept ls ∙ f.somebody (sym same ∙ n) ∙ ap (λ (m : Line). some (named m)) (sym (there (sym same ∙ n)));
    nobody = λ n. kept ls ∙ f.nobody (sym same ∙ n);
  }
    where
      here : length more - suc r ≡ length ls - r
      here = omega (arith, more-length)

      kept : (ms : List Line) → holder (ms ++ (l ∷ [])) (qubit q) ≡ holder ms (qubit q)
      kept ms = holder-last q ms l ∙ ap (λ (b : Bool). cond b (some (named l)) (holder ms (qubit q))) e

      same : any (decides q) more ≡ any (decides q) ls
      same =
          any_last (decides q) ls l
          ∙ ap (λ (b : Bool). any (decides q) ls || b) e
          ∙ or-false (any (decides q) ls)

      there : any (decides q) ls ≡ true → get_or more (length more - suc r) no_line ≡ get_or ls (length ls - r) no_line
      there n =
          ap (λ (i : ℕ). get_or more i no_line) here
          ∙ more-before (length ls - r) (deciding-within q ls (length ls - r) (f.stops n))

      at-or-before : (i : ℕ) → length more - suc r < i → (i ≡ length ls) ⊎ (i < length ls)
          → decides q (get_or more i no_line) ≡ false
      at-or-before i h (inl p) = ap (decides q) (ap (λ (j : ℕ). get_or more j no_line) p ∙ more-last) ∙ e
      at-or-before i h (inr k) = ap (decides q) (more-before i k) ∙ f.passed i (omega (arith, here)) k

-- lines in the order in which they are read
from-reversed : (q : ℕ) (ls : List Line) → FromBack (reverse ls) q (read_back q ls)
unfolding read_back holder
from-reversed q [] = record {
  within = omega arith;
  passed = λ i h k. absurd (omega arith);
  stops = λ n. absurd (true≢false (sym n));
  whole = λ n. refl;
  enough = refl;
  somebody = λ n. absurd (true≢false (sym n));
  nobody = λ n. refl;
}
from-reversed q (l ∷ ls) =
    subst (λ (ms : List Line). FromBack ms q (read_back q (l ∷ ls))) (sym (reverse-cons l ls))
    (cond-each (FromBack (reverse ls ++ (l ∷ [])) q) (decides q l)
    (from-deciding q (reverse ls) l)
    (λ e. from-passed q (reverse ls) l (read_back q ls) e (from-reversed q ls)))

pub read-back : (ws : List ℕ) (k q : ℕ) → FromBack (take k (lines_of ws)) q (count_read ws k q)
unfolding count_read
read-back ws k q =
    let ls = take k (lines_of ws) in
    subst (λ (ms : List Line). FromBack ms q (read_back q (reverse ls))) (reverse-reverse ls)
    (from-reversed q (reverse ls))
