-- The lines of any words, by index.
use Prim.Native.Nat.{ℕ, zero, suc, ◌+◌, ◌*◌, ◌/◌, ◌<◌}
use mathlib.Core.Path.{◌≡◌, refl, ◌∙◌, ap}
use mathlib.Core.List.{List, [], ◌∷◌, ◌++◌}
use native.Mathlib.Nat.{not-suc-le-zero}
use native.Mathlib.Omega.{arith}
use lib.ListN.{get_or, length}
use Rattle.machine.specs.State.{Line}
use Rattle.machine.specs.Owner.{no_line}
use Rattle.machine.specs.Answer.{line_words, trace_words}
use Rattle.trace.specs.Trace.{lines_of}
use Rattle.trace.specs.ReadCode.{line_from}

-- there is a line for each six words
pub lines_of-length : (ws : List ℕ) → length (lines_of ws) ≡ length ws / 6
unfolding lines_of
lines_of-length [] = refl
lines_of-length (e ∷ []) = refl
lines_of-length (e ∷ n ∷ []) = refl
lines_of-length (e ∷ n ∷ k ∷ []) = refl
lines_of-length (e ∷ n ∷ k ∷ a ∷ []) = refl
lines_of-length (e ∷ n ∷ k ∷ a ∷ b ∷ []) = refl
lines_of-length (e ∷ n ∷ k ∷ a ∷ b ∷ c ∷ ws) = omega (arith, lines_of-length ws)

-- line i is the six words from 6 i on
pub lines_of-at : (ws : List ℕ) (i : ℕ) → i < length (lines_of ws) → get_or (lines_of ws) i no_line ≡ line_from ws (6 * i)
unfolding lines_of
lines_of-at [] i h = absurd (not-suc-le-zero h)
lines_of-at (e ∷ []) i h = absurd (not-suc-le-zero h)
lines_of-at (e ∷ n ∷ []) i h = absurd (not-suc-le-zero h)
lines_of-at (e ∷ n ∷ k ∷ []) i h = absurd (not-suc-le-zero h)
lines_of-at (e ∷ n ∷ k ∷ a ∷ []) i h = absurd (not-suc-le-zero h)
lines_of-at (e ∷ n ∷ k ∷ a ∷ b ∷ []) i h = absurd (not-suc-le-zero h)
lines_of-at (e ∷ n ∷ k ∷ a ∷ b ∷ c ∷ ws) zero h = refl
lines_of-at (e ∷ n ∷ k ∷ a ∷ b ∷ c ∷ ws) (suc i) h = lines_of-at ws i (omega arith) ∙ λ x. record {
  entry = word (6 * i) (6 * suc i) (omega arith) x;
  process = word (6 * i + 1) (6 * suc i + 1) (omega arith) x;
  kind = word (6 * i + 2) (6 * suc i + 2) (omega arith) x;
  a = word (6 * i + 3) (6 * suc i + 3) (omega arith) x;
  b = word (6 * i + 4) (6 * suc i + 4) (omega arith) x;
  c = word (6 * i + 5) (6 * suc i + 5) (omega arith) x;
}
  where
    word : (i j : ℕ) → j ≡ 6 + i → get_or ws i 0 ≡ get_or (e ∷ n ∷ k ∷ a ∷ b ∷ c ∷ ws) j 0
    word i j p =
        ap (λ (m : ℕ). get_or (e ∷ n ∷ k ∷ a ∷ b ∷ c ∷ ws) m 0) {x = suc (suc (suc (suc (suc (suc i)))))} {y = j}
        (omega arith)

-- the words of lines give the lines back, alone and with other words after them
pub lines-back : (ls : List Line) → lines_of (trace_words ls) ≡ ls
unfolding lines_of trace_words line_words
lines-back [] = refl
lines-back (l ∷ ls) = ap (λ (ms : List Line). l ∷ ms) (lines-back ls)

pub lines_of-words : (ls : List Line) (rest : List ℕ) → lines_of (trace_words ls ++ rest) ≡ ls ++ lines_of rest
unfolding lines_of trace_words line_words
lines_of-words [] rest = refl
lines_of-words (l ∷ ls) rest = ap (λ (ms : List Line). l ∷ ms) (lines_of-words ls rest)
