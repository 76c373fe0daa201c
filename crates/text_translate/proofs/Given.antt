-- What is known of every table that is given out: it is the text's, it passes questions 1 to 5, and it has at most
-- 8,834 words.
use Prim.Native.Nat.{ℕ, ◌+◌, ◌*◌, ◌≤◌}
use native.Mathlib.Omega.{arith}
use mathlib.Core.Path.{◌≡◌, refl, sym, ap, ◌∙◌, subst}
use mathlib.Core.Bool.{Bool, true, false, cond}
use mathlib.Core.List.{List, ◌++◌}
use lib.Dec.{leb}
use lib.ListN.{length, drop, take}
use lib.Seq.{take-append_seam}
use borrow.Author.Tests.{leb-true, le-leb}
use Rattle.lists.proofs.Tests.{never}
use Rattle.table.specs.Questions.{Accepted}
use Rattle.text.specs.Tree.{Program, main_first}
use Rattle.text.specs.Translation.{program_code}
use Rattle.text.specs.Statement.{text_table}
use Rattle.text.proofs.Limited.{translated-limited}
use Rattle.text_parse.specs.Text.{Text, refused_text, translated_text, text_of}
use Rattle.text_parse.proofs.Texts.{translated, text-accepted}
use Rattle.text_translate.specs.Translate.{Answer, refused, table, short, answer_for, buffer_after}
use Rattle.text_translate.proofs.Answering.{table-length}

-- a text is answered with a table of n words, which stand in the buffer's first words
pub record Given (buffer : List ℕ) (t : Text) (n : ℕ) : Type 0 where
  pub program : Program
  pub is : t ≡ translated_text program
  pub words : n ≡ length (text_table program)
  pub room : n ≤ length buffer
  pub there : take n (buffer_after buffer t) ≡ text_table program

is_table : Answer → Bool
is_table (refused n i) = false
is_table (table n) = true
is_table (short n) = false

is_short : Answer → Bool
is_short (refused n i) = false
is_short (table n) = false
is_short (short n) = true

is_refused : Answer → Bool
is_refused (refused n i) = true
is_refused (table n) = false
is_refused (short n) = false

number_in : Answer → ℕ
number_in (refused n i) = n
number_in (table n) = 0
number_in (short n) = 0

-- the words of a table, or a refusal's place
words_in : Answer → ℕ
words_in (refused n i) = i
words_in (table n) = n
words_in (short n) = n

module _ (buffer : List ℕ) where
  -- a program's answer, by whether its table fits
  module _ (ms : Program) (n : ℕ) where
    words : ℕ
    words = length (text_table ms)

    abbrev answer : Bool → Answer
    answer b = cond b (table words) (short words)

    abbrev left : Bool → List ℕ
    left b = cond b (text_table ms ++ drop words buffer) buffer

    fitted : (b : Bool) → leb words (length buffer) ≡ b → answer b ≡ table n
        → (n ≡ words) × (n ≤ length buffer) × (take n (left b) ≡ text_table ms)
    unfolding is_table words_in words
    fitted false q e = never (ap is_table e)
    fitted true q e =
        let n-is : n ≡ words = sym (ap words_in e) in (
          n-is,
          omega (arith, leb-true words (length buffer) q, n-is),
          ap (λ (i : ℕ). take i (left true)) n-is
              ∙ take-append_seam (text_table ms) (drop words buffer),
        )

  given_by : (t : Text) (n : ℕ) → answer_for (length buffer) t ≡ table n → Given buffer t n
  unfolding answer_for buffer_after is_table words
  given_by (refused_text m i) n e = never (ap is_table e)
  given_by (translated_text ms) n e =
      let f = fitted ms n (leb (length (text_table ms)) (length buffer)) refl e in
      record { program = ms; is = refl; words = f.0; room = f.1; there = f.2 }

  -- "a table that is given out passes them"
  pub given : (text : List ℕ) (n : ℕ) → answer_for (length buffer) (text_of text) ≡ table n
      → Given buffer (text_of text) n
  given text n = given_by (text_of text) n

  pub given-accepted : (text : List ℕ) (n : ℕ) → answer_for (length buffer) (text_of text) ≡ table n
      → Accepted (take n (buffer_after buffer (text_of text)))
  given-accepted text n e =
      let g = given text n e in
      subst Accepted (sym g.there) (text-accepted text g.program g.is)

-- no table has more words
pub at_most : (text : List ℕ) (ms : Program) → text_of text ≡ translated_text ms → length (text_table ms) ≤ 8834
at_most text ms e =
    let l = translated-limited (length text) ms (translated text ms e) in
    omega (arith, l.few, l.short, table-length ms)

-- a refusal is the text's
pub refused-so : (room : ℕ) (t : Text) {n i : ℕ} → answer_for room t ≡ refused n i → t ≡ refused_text n i
unfolding answer_for number_in words_in is_refused
refused-so room (refused_text m j) {n} {i} e =
    ap (λ (k : ℕ). refused_text k j) (ap number_in e) ∙ ap (refused_text n) (ap words_in e)
refused-so room (translated_text ms) {n} {i} e =
    let words = length (text_table ms) in by (leb words room) e
  where
    by : (b : Bool) → cond b (table (length (text_table ms))) (short (length (text_table ms))) ≡ refused n i
        → translated_text ms ≡ refused_text n i
    by true q = never (ap is_refused q)
    by false q = never (ap is_refused q)

-- so a buffer of 8,834 words is never too short
pub never-short : (room : ℕ) (text : List ℕ) (n : ℕ) → 8834 ≤ room → answer_for room (text_of text) ≡ short n → ⊥
unfolding answer_for is_short
never-short room text n h e = by (text_of text) refl e
  where
    by : (t : Text) → text_of text ≡ t → answer_for room t ≡ short n → ⊥
    by (refused_text m i) q a = never (ap is_short a)
    by (translated_text ms) q a =
        let words = length (text_table ms) in
        let fits = le-leb words room (omega (arith, h, at_most text ms q)) in
        never (ap is_short (sym (ap (λ b. cond b (table words) (short words)) fits) ∙ a))
