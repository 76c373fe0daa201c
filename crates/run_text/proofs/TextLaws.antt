-- What a text's translation says of its run.
use Prim.Native.Nat.{ℕ, ◌≤◌}
use native.Mathlib.Omega.{arith}
use mathlib.Core.Path.{◌≡◌, sym, ap, ◌∙◌}
use mathlib.Core.List.{List}
use lib.ListN.{length, take, length-take}
use Rattle.machine.specs.Answer.{Answer, refusal, answer_of, lines_in}
use Rattle.run.specs.Answers.{trace_left, store_left}
use Rattle.text.specs.Statement.{text_table}
use Rattle.text_parse.specs.Text.{Text, refused_text, translated_text, text_of}
use Rattle.text_translate.specs.Translate.{refused, table, short, answer_for, buffer_after}
use Rattle.text_translate.proofs.Given.{Given, given, refused-so, never-short}
use Rattle.run_text.specs.RunText.{text_answer, text_trace, text_store}

-- an answer, a trace and a store are those of a text
abbrev pub Runs : Text → List ℕ → List ℕ → List ℕ → List ℕ → Answer → List ℕ → List ℕ → Type 0
Runs t schedule outcomes trace work a trace' work' =
    (a ≡ text_answer t schedule outcomes (lines_in (length trace)) (length work))
    × (trace' ≡ text_trace t schedule outcomes trace work)
    × (work' ≡ text_store t schedule outcomes trace work)

module _ (text buffer : List ℕ) where
  -- refused by 30, 31 or 32
  pub refused-runs : (schedule outcomes trace work : List ℕ) {n i : ℕ}
      → refused n i ≡ answer_for (length buffer) (text_of text)
      → Runs (text_of text) schedule outcomes trace work (refusal n i) trace work
  unfolding text_answer text_trace text_store
  refused-runs schedule outcomes trace work e =
      let t = refused-so (length buffer) (text_of text) (sym e) in (
        sym (ap (λ x. text_answer x schedule outcomes (lines_in (length trace)) (length work)) t),
        sym (ap (λ x. text_trace x schedule outcomes trace work) t),
        sym (ap (λ x. text_store x schedule outcomes trace work) t),
      )

  -- a table of n words in the buffer
  module _ {n : ℕ} (e : table n ≡ answer_for (length buffer) (text_of text)) {filled : List ℕ}
      (f : filled ≡ buffer_after buffer (text_of text)) where
    g : Given buffer (text_of text) n
    g = given buffer text n (sym e)

    pub words-there : n ≤ length filled
    words-there =
        let after = buffer_after buffer (text_of text) in
        omega (arith, g.words, ap length g.there, ap length f, length-take n after)

    pub table_runs : (schedule outcomes trace work : List ℕ) {a : Answer} {trace' work' : List ℕ}
        → a ≡ answer_of (take n filled) schedule outcomes (lines_in (length trace)) (length work)
        → trace' ≡ trace_left (take n filled) schedule outcomes trace work
        → work' ≡ store_left (take n filled) schedule outcomes trace work
        → Runs (text_of text) schedule outcomes trace work a trace' work'
    unfolding text_answer text_trace text_store
    table_runs schedule outcomes trace work p q s =
        let t = g.is in
        let words = ap (take n) f ∙ g.there in (
          p ∙ ap (λ x. answer_of x schedule outcomes (lines_in (length trace)) (length work)) words
              ∙ sym (ap (λ x. text_answer x schedule outcomes (lines_in (length trace)) (length work)) t),
          q ∙ ap (λ x. trace_left x schedule outcomes trace work) words
              ∙ sym (ap (λ x. text_trace x schedule outcomes trace work) t),
          s ∙ ap (λ x. store_left x schedule outcomes trace work) words
              ∙ sym (ap (λ x. text_store x schedule outcomes trace work) t),
        )

  -- the buffer is long enough
  pub never-runs : {n : ℕ} → 8834 ≤ length buffer → short n ≡ answer_for (length buffer) (text_of text) → ⊥
  never-runs {n} h e = never-short (length buffer) text n h (sym e)
