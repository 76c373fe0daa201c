-- The look-up of a qubit's holder and the number of lines read for it, by one line more at the end.
use Prim.Native.Nat.{ℕ, suc, ◌-◌, ◌≤◌, ◌<◌}
use mathlib.Core.Path.{◌≡◌, refl, sym, ◌∙◌, ap}
use mathlib.Core.Bool.{Bool, true, false, cond, ◌&&◌, true≢false}
use mathlib.Core.List.{List, [], ◌∷◌, ◌++◌, reverse, reverse-append}
use mathlib.Core.Option.{Option, none, some}
use mathlib.Core.Option as logic
use native.Mathlib.Omega.{arith}
use borrow.Author.Tests.{eqb-true, ne_eqb}
use lib.Dec.{eqb}
use lib.ListN.{get_or, take, length}
use lib.Seq.{take-suc, take_all}
use Rattle.machine.specs.Value.{qubit, covers}
use Rattle.machine.specs.State.{Line}
use Rattle.machine.specs.Owner.{given_thing, holder, holder_after, no_line}
use Rattle.machine.proofs.Holder.{holder-append}
use Rattle.trace.specs.Trace.{lines_of, look_up, held, decides, read_back, count_read}
use Rattle.trace.specs.ReadCode.{named}

-- the look-up is the holder, and 65535 where there is none
pub look_up-held : (ws : List ℕ) (k q : ℕ) {o : Option ℕ} → o ≡ held ws k q → logic.get_or o 65535 ≡ look_up ws k q
unfolding look_up held
look_up-held ws k q e = ap (λ (o : Option ℕ). logic.get_or o 65535) e

-- a giving is of qubit q where its thing is 3 and its number is q
pub given_thing-qubit : (b c q : ℕ) → given_thing b c (qubit q) ≡ (eqb b 3 && eqb c q)
unfolding covers
given_thing-qubit b c q = go (eqb b 3) (eqb b 4) (eqb b 5) (eqb b 6)
  where
    go : (b3 b4 b5 b6 : Bool)
        → cond b3 (eqb c q) (cond b4 false (cond b5 false (cond b6 false false))) ≡ (b3 && eqb c q)
    go true b4 b5 b6 = refl
    go false true b5 b6 = refl
    go false false true b6 = refl
    go false false false true = refl
    go false false false false = refl

-- a line that decides names the holder, and any other line leaves the one before: no line is of two kinds
pub holder_after-qubit : (q : ℕ) (o : Option ℕ) (l : Line)
    → holder_after (qubit q) o l ≡ cond (decides q l) (some (named l)) o
unfolding holder_after covers decides named
holder_after-qubit q o l =
    go (eqb kind 1) (eqb kind 2) (eqb kind 6) (eqb l.a q) (given_thing l.b l.c (qubit q))
    (λ e. ne_eqb kind 6 (λ p. let is : kind ≡ 2 = eqb-true kind 2 e in omega arith))
  where
    kind : ℕ
    kind = l.kind

    go : (k1 k2 k6 made given : Bool) → (k2 ≡ true → k6 ≡ false)
        → cond k1 (cond made (some l.process) o) (cond k2 o (cond k6 (cond given (some l.a) o) o))
        ≡ cond (cond k1 made (cond k6 given false)) (some (cond k1 l.process l.a)) o
    go true k2 k6 made given x = refl
    go false true true made given x = absurd (true≢false (x refl))
    go false true false made given x = refl
    go false false true made given x = refl
    go false false false made given x = refl

-- one line more at the end, which is the first to be read

pub holder-last : (q : ℕ) (ls : List Line) (l : Line)
    → holder (ls ++ (l ∷ [])) (qubit q) ≡ cond (decides q l) (some (named l)) (holder ls (qubit q))
holder-last q ls l = holder-append ls (l ∷ []) (qubit q) ∙ holder_after-qubit q (holder ls (qubit q)) l

pub read_back-last : (q : ℕ) (ls : List Line) (l : Line)
    → read_back q (reverse (ls ++ (l ∷ []))) ≡ cond (decides q l) 1 (suc (read_back q (reverse ls)))
unfolding read_back
read_back-last q ls l = ap (read_back q) (reverse-append ls (l ∷ []))

-- the answer by no line

pub held-none : (ws : List ℕ) (q : ℕ) → held ws 0 q ≡ none
unfolding held holder
held-none ws q = refl

pub count_read-none : (ws : List ℕ) (q : ℕ) → count_read ws 0 q ≡ 0
unfolding count_read read_back
count_read-none ws q = refl

-- the answer by the first i lines, the last of which is l
module _ (ws : List ℕ) (i q : ℕ) {l : Line} (h : 0 < i) (k : i ≤ length (lines_of ws))
    (p : l ≡ get_or (lines_of ws) (i - 1) no_line) where
  first-lines : take i (lines_of ws) ≡ take (i - 1) (lines_of ws) ++ (l ∷ [])
  first-lines =
      ap (λ (n : ℕ). take n (lines_of ws)) {x = i} {y = suc (i - 1)} (omega arith)
      ∙ take-suc (lines_of ws) (i - 1) no_line (omega arith)
      ∙ ap (λ (m : Line). take (i - 1) (lines_of ws) ++ (m ∷ [])) (sym p)

  holder-first : holder (take i (lines_of ws)) (qubit q)
      ≡ cond (decides q l) (some (named l)) (holder (take (i - 1) (lines_of ws)) (qubit q))
  holder-first =
      ap (λ (ls : List Line). holder ls (qubit q)) first-lines ∙ holder-last q (take (i - 1) (lines_of ws)) l

  read_back-first : read_back q (reverse (take i (lines_of ws)))
      ≡ cond (decides q l) 1 (suc (read_back q (reverse (take (i - 1) (lines_of ws)))))
  read_back-first =
      ap (λ (ls : List Line). read_back q (reverse ls)) first-lines ∙ read_back-last q (take (i - 1) (lines_of ws)) l

  pub held-decided : decides q l ≡ true → held ws i q ≡ some (named l)
  unfolding held
  held-decided e = rw (holder-first, e)

  pub held-passed : decides q l ≡ false → held ws i q ≡ held ws (i - 1) q
  unfolding held
  held-passed e = rw (holder-first, e)

  pub count_read-decided : decides q l ≡ true → count_read ws i q ≡ 1
  unfolding count_read
  count_read-decided e = rw (read_back-first, e)

  pub count_read-passed : decides q l ≡ false → count_read ws i q ≡ suc (count_read ws (i - 1) q)
  unfolding count_read
  count_read-passed e = rw (read_back-first, e)

-- by all lines, whatever number at least that of the lines is asked for
module _ (ws : List ℕ) (n k q : ℕ) (h : length (lines_of ws) ≤ n) (j : length (lines_of ws) ≤ k) where
  all_lines : take n (lines_of ws) ≡ take k (lines_of ws)
  all_lines = take_all n (lines_of ws) h ∙ sym (take_all k (lines_of ws) j)

  pub held-all : held ws n q ≡ held ws k q
  unfolding held
  held-all = ap (λ (ls : List Line). holder ls (qubit q)) all_lines

  pub count_read-all : count_read ws n q ≡ count_read ws k q
  unfolding count_read
  count_read-all = ap (λ (ls : List Line). read_back q (reverse ls)) all_lines
