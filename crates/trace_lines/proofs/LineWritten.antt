-- A line written after the lines of a run makes the trace of one line more.
use Prim.Native.Nat.{ℕ, suc, ◌+◌, ◌*◌, ◌≤◌}
use mathlib.Core.Path.{◌≡◌, refl, sym, ◌∙◌, ap, ap₂}
use mathlib.Core.List.{List, [], ◌∷◌, ◌++◌, append_assoc, append-nil}
use native.Mathlib.Nat.{not-suc-le-zero}
use native.Mathlib.Omega.{arith}
use lib.ListN.{set, drop, length, length-append, length-drop}
use lib.Seq.{drop-drop}
use Rattle.layout.proofs.Padded.{set_after}
use Rattle.machine.specs.State.{Line}
use Rattle.machine.specs.Answer.{line_words, trace_words, trace_after}
use Rattle.trace_lines.specs.declared.TraceLine.{TraceLine}
use Rattle.trace_lines.specs.WrittenCode.{with_three, with_six, with_line}

-- a line of the definitions as the code has it
abbrev pub line_of : Line → TraceLine
line_of l = record { entry = l.entry; process = l.process; kind = l.kind; a = l.a; b = l.b; c = l.c }

-- the words of lines

pub trace-length : (ls : List Line) → length (trace_words ls) ≡ 6 * length ls
unfolding trace_words line_words
trace-length [] = refl
trace-length (l ∷ ls) = ap (λ (k : ℕ). suc (suc (suc (suc (suc (suc k)))))) (trace-length ls) ∙ omega arith

pub trace-append : (ls ms : List Line) → trace_words (ls ++ ms) ≡ trace_words ls ++ trace_words ms
unfolding trace_words
trace-append [] ms = refl
trace-append (l ∷ ls) ms =
    ap (λ (w : List ℕ). line_words l ++ w) (trace-append ls ms)
    ∙ sym (append_assoc (line_words l) (trace_words ls) (trace_words ms))

one_line : (l : Line) → trace_words (l ∷ []) ≡ line_words l
unfolding trace_words
one_line l = append-nil (line_words l)

-- six words written at the front of a list that has six
six-written : (t : List ℕ) (l : Line) → 6 ≤ length t → with_line t 0 (line_of l) ≡ line_words l ++ drop 6 t
unfolding with_line with_six with_three line_words
six-written [] l h = absurd (not-suc-le-zero h)
six-written (x₁ ∷ []) l h = absurd (omega arith)
six-written (x₁ ∷ x₂ ∷ []) l h = absurd (omega arith)
six-written (x₁ ∷ x₂ ∷ x₃ ∷ []) l h = absurd (omega arith)
six-written (x₁ ∷ x₂ ∷ x₃ ∷ x₄ ∷ []) l h = absurd (omega arith)
six-written (x₁ ∷ x₂ ∷ x₃ ∷ x₄ ∷ x₅ ∷ []) l h = absurd (omega arith)
six-written (x₁ ∷ x₂ ∷ x₃ ∷ x₄ ∷ x₅ ∷ x₆ ∷ t) l h = refl

-- words written after a prefix
three-after : (xs t : List ℕ) (n i x y z : ℕ) → length xs ≡ n
    → with_three (xs ++ t) (n + i) x y z ≡ xs ++ with_three t i x y z
unfolding with_three
three-after xs t n i x y z e =
    ap (λ (w : List ℕ). set (set w (n + i + 1) y) (n + i + 2) z) (set_after xs t n i x e)
    ∙ ap (λ (k : ℕ). set (set (xs ++ set t i x) k y) (n + i + 2) z) {x = n + i + 1} {y = n + (i + 1)} (omega arith)
    ∙ ap (λ (w : List ℕ). set w (n + i + 2) z) (set_after xs (set t i x) n (i + 1) y e)
    ∙ ap (λ (k : ℕ). set (xs ++ set (set t i x) (i + 1) y) k z) {x = n + i + 2} {y = n + (i + 2)} (omega arith)
    ∙ set_after xs (set (set t i x) (i + 1) y) n (i + 2) z e

line_after : (xs t : List ℕ) (k : ℕ) (l : TraceLine) → length xs ≡ 6 * k → with_line (xs ++ t) k l ≡ xs ++ with_line t 0 l
unfolding with_line with_six
line_after xs t k l e =
    ap (λ (i : ℕ). with_three (with_three (xs ++ t) i l.entry l.process l.kind) (6 * k + 3) l.a l.b l.c)
    {x = 6 * k} {y = 6 * k + 0} (omega arith)
    ∙ ap (λ (w : List ℕ). with_three w (6 * k + 3) l.a l.b l.c)
    (three-after xs t (6 * k) 0 l.entry l.process l.kind e)
    ∙ three-after xs (with_three t 0 l.entry l.process l.kind) (6 * k) 3 l.a l.b l.c e

pub line-written : (ls : List Line) (t : List ℕ) (l : Line) → 6 * length ls + 6 ≤ length t
    → with_line (trace_after ls t) (length ls) (line_of l) ≡ trace_after (ls ++ (l ∷ [])) t
unfolding trace_after
line-written ls t l h =
    line_after (trace_words ls) (drop (length (trace_words ls)) t) (length ls) (line_of l) (trace-length ls)
    ∙ ap (λ (w : List ℕ). trace_words ls ++ w)
    (six-written (drop (length (trace_words ls)) t) l
    (omega (arith, length-drop (length (trace_words ls)) t, trace-length ls)))
    ∙ sym (append_assoc (trace_words ls) (line_words l) (drop 6 (drop (length (trace_words ls)) t)))
    ∙ ap₂ ◌++◌ (sym joined) (drop-drop 6 (length (trace_words ls)) t ∙ ap (λ (k : ℕ). drop k t) total)
  where
    joined : trace_words (ls ++ (l ∷ [])) ≡ trace_words ls ++ line_words l
    joined = trace-append ls (l ∷ []) ∙ ap (λ (w : List ℕ). trace_words ls ++ w) (one_line l)

    total : length (trace_words ls) + 6 ≡ length (trace_words (ls ++ (l ∷ [])))
    total = omega (arith, trace-length ls, trace-length (ls ++ (l ∷ [])), length-append ls (l ∷ []))
