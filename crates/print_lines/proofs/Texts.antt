-- The texts that are put: how long they can be, a line's halves, and the columns that a kind of line uses.
use Prim.Native.Nat.{ℕ, zero, suc, ◌≤◌}
use mathlib.Core.Path.{◌≡◌, refl}
use mathlib.Core.Bool.{Bool, true, false, cond, ◌&&◌}
use mathlib.Core.List.{List, [], ◌∷◌, ◌++◌, append_assoc}
use native.Mathlib.Omega.{arith}
use borrow.Author.Tests.{ne_eqb}
use lib.Dec.{eqb, leb, ltb}
use lib.ListN.{get_or, length, length-append}
use Rattle.machine.specs.State.{Line}
use Rattle.trace_lines.specs.declared.TraceLine.{TraceLine}
use Rattle.trace.specs.ReadCode.{as_line}
use Rattle.print_format.specs.Format.{spaced, column, columns_used, line_text}
use Rattle.print_lines.specs.TextsCode.{head_text, columns_text}
use Rattle.print_lines.proofs.Decimal.{decimal-length}

-- how long they can be

pub spaced-length : (n : ℕ) → length (spaced n) ≤ 21
unfolding spaced
spaced-length n = omega (arith, decimal-length n)

pub column-length : (used : Bool) (n : ℕ) → length (column used n) ≤ 21
unfolding column
column-length true n = spaced-length n
column-length false n = omega arith

pub head_text-length : (l : TraceLine) → length (head_text l) ≤ 62
unfolding head_text
head_text-length l =
    simp length-append
    (omega (arith, decimal-length l.entry, spaced-length l.process, spaced-length l.kind))

pub columns_text-length : (used : ℕ) (l : TraceLine) → length (columns_text used l) ≤ 63
unfolding columns_text
columns_text-length used l =
    simp length-append
    (omega
    (arith, column-length (ltb 0 used) l.a, column-length (ltb 1 used) l.b, column-length (ltb 2 used) l.c))

-- a line is its two halves and a newline
pub line_text-halves : (l : TraceLine)
    → head_text l ++ columns_text (columns_used (as_line l)) l ++ (10 ∷ []) ≡ line_text (as_line l)
unfolding head_text columns_text line_text
line_text-halves l = simp append_assoc

-- the columns used by kind, so many of them by a gate
abbrev pub by_kind : ℕ → List ℕ
by_kind gate = 0 ∷ 1 ∷ 1 ∷ gate ∷ 2 ∷ 3 ∷ 3 ∷ 3 ∷ 2 ∷ 0 ∷ 1 ∷ []

-- a gate on one qubit first, and then the others
pub columns_used-kind : (l : Line)
    → columns_used l ≡ cond (eqb l.kind 3 && leb l.a 5) 2 (get_or (by_kind 3) l.kind 0)
unfolding columns_used
columns_used-kind l = go l.kind (leb l.a 5)
  where
    go : (k : ℕ) (b : Bool) → get_or (by_kind (cond b 2 3)) k 0 ≡ cond (eqb k 3 && b) 2 (get_or (by_kind 3) k 0)
    go zero b = refl
    go (suc zero) b = refl
    go (suc (suc zero)) b = refl
    go (suc (suc (suc zero))) true = refl
    go (suc (suc (suc zero))) false = refl
    go (suc (suc (suc (suc k)))) b = rw (ne_eqb (suc (suc (suc (suc k)))) 3 (λ p. omega arith))
