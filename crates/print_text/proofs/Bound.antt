-- How long the printed text can be.
use Prim.Native.Nat.{ℕ, ◌+◌, ◌*◌, ◌≤◌}
use mathlib.Core.Path.{◌≡◌, ap}
use mathlib.Core.List.{List}
use native.Mathlib.Omega.{arith}
use lib.ListN.{length, length-append}
use Rattle.lists.proofs.Tests.{cond_both}
use Rattle.machine.specs.State.{Line}
use Rattle.machine.specs.Run.{run}
use Rattle.machine.specs.Answer.{Answer, refusal, ran, answer_of}
use Rattle.print_format.specs.Format.{refused_word, end_word, well_built, words_of, part_of, refused_text, answer_text, run_text, printed}
use Rattle.lists.proofs.Put.{put_from-length}
use Rattle.print_lines.proofs.Texts.{spaced-length}
use Rattle.print_lines.proofs.TraceText.{lines_text-length}
use Rattle.print_text.proofs.Fitting.{lines_fit}
use Rattle.print_text.proofs.Output.{Prints}

refused_text-length : (n i : ℕ) → length (refused_text n i) ≤ 50
unfolding refused_text refused_word
refused_text-length n i = simp length-append (omega (arith, spaced-length n, spaced-length i))

answer_text-length : (ls : List Line) (a : Answer) → length (answer_text ls a) ≤ 126 * length ls + 88
unfolding answer_text end_word
answer_text-length ls (refusal n i) = omega (arith, refused_text-length n i)
answer_text-length ls (ran e k l o) =
    simp length-append
    (omega (arith, lines_text-length ls, spaced-length e, spaced-length k, spaced-length l, spaced-length o))

-- at most 4,096 lines and the last one

run_text-length : (p schedule outcomes : List ℕ) → length (run_text p schedule outcomes) ≤ 516184
unfolding run_text
run_text-length p schedule outcomes =
    let ls = (run p outcomes 4096 schedule).state.lines in
    omega (arith, answer_text-length ls (answer_of p schedule outcomes 4096 8256), lines_fit p outcomes 4096 schedule)

pub printed-length : (bytes : List ℕ) → length (printed bytes) ≤ 516184
unfolding printed
printed-length bytes =
    cond_both (λ (l : List ℕ). length l ≤ 516184) (well_built bytes)
    (run_text-length (words_of (part_of bytes 0)) (part_of bytes 1) (part_of bytes 2))
    (omega (arith, refused_text-length 9 0))

-- so a buffer of 524,288 bytes holds it
pub text-fits : (bytes out : List ℕ) {out' : List ℕ} {r : ℕ} → length out ≡ 524288 → Prints out (printed bytes) out' r
    → r ≤ length out'
text-fits bytes out h (p, q) =
    omega (arith, h, q, printed-length bytes, ap length p, put_from-length out 0 (printed bytes))
