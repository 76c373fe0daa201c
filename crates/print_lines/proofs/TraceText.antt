-- The text of lines, line by line, and how long it can be.
use Prim.Native.Nat.{ℕ, ◌+◌, ◌*◌, ◌≤◌, ◌<◌}
use mathlib.Core.Path.{◌≡◌, refl, sym, ◌∙◌, ap}
use mathlib.Core.List.{List, [], ◌∷◌, ◌++◌, append_assoc, append-nil}
use native.Mathlib.Omega.{arith}
use native.Mathlib.Numerals.{add-one}
use lib.Dec.{ltb}
use lib.ListN.{get_or, length, take, length-append}
use lib.Seq.{take-suc, length-take-le}
use Rattle.machine.specs.State.{Line}
use Rattle.machine.specs.Owner.{no_line}
use Rattle.print_format.specs.Format.{columns_used, line_text, lines_text}
use Rattle.print_lines.proofs.Decimal.{decimal-length}
use Rattle.print_lines.proofs.Texts.{spaced-length, column-length}

pub line_text-length : (l : Line) → length (line_text l) ≤ 126
unfolding line_text
line_text-length l =
    simp length-append
    (omega (
      arith,
      decimal-length l.entry,
      spaced-length l.process,
      spaced-length l.kind,
      column-length (ltb 0 (columns_used l)) l.a,
      column-length (ltb 1 (columns_used l)) l.b,
      column-length (ltb 2 (columns_used l)) l.c,
    ))

pub lines_text-length : (ls : List Line) → length (lines_text ls) ≤ 126 * length ls
unfolding lines_text
lines_text-length [] = omega arith
lines_text-length (l ∷ ls) =
    omega (arith, length-append (line_text l) (lines_text ls), line_text-length l, lines_text-length ls)

lines_text-append : (ls ms : List Line) → lines_text (ls ++ ms) ≡ lines_text ls ++ lines_text ms
unfolding lines_text
lines_text-append [] ms = refl
lines_text-append (l ∷ ls) ms =
    ap (λ (t : List ℕ). line_text l ++ t) (lines_text-append ls ms)
    ∙ sym (append_assoc (line_text l) (lines_text ls) (lines_text ms))

-- one line more
pub lines_text-next : (ls : List Line) (i : ℕ) → i < length ls
    → lines_text (take i ls) ++ line_text (get_or ls i no_line) ≡ lines_text (take (i + 1) ls)
unfolding lines_text
lines_text-next ls i h =
    sym (ap (λ (n : ℕ). lines_text (take n ls)) (add-one i)
    ∙ ap lines_text (take-suc ls i no_line h)
    ∙ lines_text-append (take i ls) (get_or ls i no_line ∷ [])
    ∙ ap (λ (t : List ℕ). lines_text (take i ls) ++ t) (append-nil (line_text (get_or ls i no_line))))

-- the first i lines
pub first-length : (ls : List Line) (i : ℕ) → i ≤ length ls → length (lines_text (take i ls)) ≤ 126 * i
first-length ls i h = omega (arith, lines_text-length (take i ls), length-take-le i ls h)
