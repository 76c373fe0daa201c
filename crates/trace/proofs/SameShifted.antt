-- "Traces shifted as a whole still match": a trace is the same as itself with every entry number later by d, not
-- wrapped.
use Prim.Native.Nat.{ℕ, ◌+◌}
use mathlib.Core.Path.{◌≡◌, refl, sym, ◌∙◌, ap, ap₂}
use mathlib.Core.Bool.{true}
use mathlib.Core.List.{List, [], ◌∷◌, map}
use native.Mathlib.Omega.{arith}
use borrow.Author.Tests.{eq-eqb}
use lib.IntN.{ℤ}
use Rattle.machine.specs.State.{Line}
use Rattle.trace.specs.Trace.{lines_of, gap, gaps, same_timed, same_lines}
use Rattle.trace.proofs.Gaps.{eq_z-equal, gap-sums}
use Rattle.trace.proofs.SameMeans.{columns, means-same}

-- the line with its entry number later by d
abbrev pub later : ℕ → Line → Line
later d l =
    record { entry = l.entry + d; process = l.process; kind = l.kind; a = l.a; b = l.b; c = l.c }

gap-later : (d : ℕ) (l m : Line) → gap (later d l) (later d m) ≡ gap l m
gap-later d l m =
    eq_z-equal (gap (later d l) (later d m)) (gap l m)
    (sym (gap-sums (later d l) (later d m) l m)
    ∙ eq-eqb (m.entry + d + l.entry) (m.entry + (l.entry + d)) (omega arith))

gaps-later : (d : ℕ) (ls : List Line) → gaps (map (later d) ls) ≡ gaps ls
unfolding gaps
gaps-later d [] = refl
gaps-later d (l ∷ []) = refl
gaps-later d (l ∷ m ∷ ls) = ap₂ (λ (g : ℤ) (gs : List ℤ). g ∷ gs) (gap-later d l m) (gaps-later d (m ∷ ls))

columns-later : (d : ℕ) (ls : List Line) → map columns (map (later d) ls) ≡ map columns ls
columns-later d [] = refl
columns-later d (l ∷ ls) = ap (λ (cs : List (List ℕ)). columns l ∷ cs) (columns-later d ls)

pub same-shifted : (d : ℕ) (ls : List Line) → same_timed ls (map (later d) ls) ≡ true
same-shifted d ls =
    means-same ls (map (later d) ls) (record { lines = sym (columns-later d ls); times = sym (gaps-later d ls) })

-- of words, where the lines of ys are those of xs, later by d
pub words-shifted : (d : ℕ) (xs ys : List ℕ) → lines_of ys ≡ map (later d) (lines_of xs) → same_lines xs ys ≡ true
unfolding same_lines
words-shifted d xs ys e = ap (same_timed (lines_of xs)) e ∙ same-shifted d (lines_of xs)
