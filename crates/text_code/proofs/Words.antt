-- The words of instructions in a buffer, and an argument that is put in later.
use Prim.Native.Nat.{ℕ, suc, ◌+◌, ◌*◌, ◌≤◌, ◌<◌}
use native.Mathlib.Omega.{arith}
use mathlib.Core.Path.{◌≡◌, refl, sym, ap, ◌∙◌}
use mathlib.Core.List.{List, [], ◌∷◌, ◌++◌}
use lib.ListN.{length, set}
use lib.Seq.{set-set, set_comm}
use Rattle.lists.specs.Lists.{put_from}
use Rattle.lists.proofs.Put.{put_from-append}
use Rattle.text.specs.Translation.{Instruction, instruction, code_words}

pub words_append : (c d : List Instruction) → code_words (c ++ d) ≡ code_words c ++ code_words d
unfolding code_words
words_append [] d = refl
words_append (i ∷ c) d = ap (λ (ws : List ℕ). i.op ∷ i.argument ∷ ws) (words_append c d)

pub words-length : (c : List Instruction) → length (code_words c) ≡ 2 * length c
unfolding code_words
words-length [] = refl
words-length (i ∷ c) = let n = words-length c in omega arith

pub put_both : (w : List ℕ) (k : ℕ) (c d : List Instruction)
    → put_from w (2 * k) (code_words (c ++ d))
    ≡ put_from (put_from w (2 * k) (code_words c)) (2 * (k + length c)) (code_words d)
put_both w k c d =
    ap (put_from w (2 * k)) (words_append c d)
    ∙ put_from-append w (2 * k) (code_words c) (code_words d)
    ∙ ap (λ (i : ℕ). put_from (put_from w (2 * k) (code_words c)) i (code_words d))
    (let n = words-length c in omega arith)

-- a word set before what is put
set_before : (w : List ℕ) (at j v : ℕ) (xs : List ℕ) → j < at
    → set (put_from w at xs) j v ≡ put_from (set w j v) at xs
unfolding put_from
set_before w at j v [] h = refl
set_before w at j v (x ∷ xs) h =
    set_before (set w at x) (suc at) j v xs (omega arith)
    ∙ ap (λ (l : List ℕ). put_from l (suc at) xs) (set_comm w at j x v (λ e. omega (arith, e)))

-- the argument of the first of some instructions
set_first : (w : List ℕ) (k o a b : ℕ) (d : List Instruction)
    → set (put_from w (2 * k) (code_words (instruction o a ∷ d))) (2 * k + 1) b
    ≡ put_from w (2 * k) (code_words (instruction o b ∷ d))
unfolding put_from code_words
set_first w k o a b d =
    set_before (set (set w (2 * k) o) (suc (2 * k)) a) (suc (suc (2 * k))) (2 * k + 1) b (code_words d) (omega arith)
    ∙ ap (λ (l : List ℕ). put_from l (suc (suc (2 * k))) (code_words d))
    (ap (λ (j : ℕ). set (set (set w (2 * k) o) (suc (2 * k)) a) j b) {x = 2 * k + 1} {y = suc (2 * k)} (omega arith)
    ∙ set-set (set w (2 * k) o) (suc (2 * k)) a b)

-- the argument of an instruction after others
pub set-argument : (w : List ℕ) (k o a b : ℕ) (c d : List Instruction)
    → set (put_from w (2 * k) (code_words (c ++ (instruction o a ∷ d)))) (2 * (k + length c) + 1) b
    ≡ put_from w (2 * k) (code_words (c ++ (instruction o b ∷ d)))
set-argument w k o a b c d =
    ap (λ (l : List ℕ). set l (2 * (k + length c) + 1) b) (put_both w k c (instruction o a ∷ d))
    ∙ set_first (put_from w (2 * k) (code_words c)) (k + length c) o a b d
    ∙ sym (put_both w k c (instruction o b ∷ d))
