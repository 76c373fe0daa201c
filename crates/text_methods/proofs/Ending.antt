-- The token that ends a text is its last.
use Prim.Native.Nat.{ℕ, ◌≤◌, ◌<◌, ◌-◌}
use native.Mathlib.Omega.{arith}
use mathlib.Core.Path.{◌≡◌, refl, sym, ap, ◌∙◌}
use mathlib.Core.Logic.{⊎_elim}
use mathlib.Core.Bool.{Bool, true, false}
use mathlib.Core.List.{List, []}
use lib.Dec.{ltb}
use lib.ListN.{length}
use lib.Seq.{slice}
use borrow.Author.Tests.{eq-eqb, ltb-true, ltb-false}
use Rattle.lists.proofs.Laws.{same-equal}
use Rattle.lists.proofs.Tests.{decide, passes}
use Rattle.text_parse.specs.Grammar.{rest}
use Rattle.text_tokens.specs.Places.{tokens_at, token_of, tokens_after}
use Rattle.text_tokens.specs.KindsCode.{kind_of}
use Rattle.text_tokens.specs.NextCode.{NextToken, next_at}
use Rattle.text_tokens.specs.declared.next.TokenAt.{TokenAt}
use Rattle.text_tokens.proofs.KindTests.{is-end}
use Rattle.text_tokens.proofs.Parts.{part-within}
use Rattle.text_tokens.proofs.Tokenwise.{next-token}
use Rattle.text_types.specs.SaysCode.{next_kind, Passed}
use Rattle.text_types.proofs.Answers.{kind-next, past-kind, passed-next}

-- a token that stands in the text has bytes
pub no_bytes : (text : List ℕ) (i : ℕ) (t : TokenAt) → NextToken text i t → t.kind ≡ 32 → t.start < length text → ⊥
no_bytes text i t n e l =
    let token = token_of text t.start t.end in
    let empty : slice t.start t.end text ≡ [] =
    same-equal token.bytes [] (passes (is-end token ∙ eq-eqb (kind_of token.bytes) 32 (sym n.kind ∙ e))) in
    let more : t.start < t.end = n.onward l in
    let starts : i ≤ t.start = n.starts in
    let within : t.end ≤ length text = n.within (omega arith) in
    let size : length (slice t.start t.end text) ≡ t.end - t.start =
    part-within text t.start t.end within in
    let none : length (slice t.start t.end text) ≡ 0 = ap length empty in
    omega arith

pub end-alone : (text : List ℕ) (i : ℕ) → next_kind text i ≡ 32 → rest (tokens_at text i) ≡ []
unfolding tokens_after
end-alone text i e = by (ltb t.start (length text)) refl
  where
    t : TokenAt
    t = next_at text i

    by : (b : Bool) → ltb t.start (length text) ≡ b → rest (tokens_at text i) ≡ []
    by true l =
        absurd (no_bytes text i t (next-token text i) (sym (kind-next text i t (next-token text i)) ∙ e)
        (ltb-true t.start (length text) l))
    by false l = ap rest (next-token text i).reads ∙ rw l refl

-- a token that does not end the text stands in it
pub starts-within : (text : List ℕ) (i : ℕ) (t : TokenAt) → NextToken text i t → (t.kind ≡ 32 → ⊥)
    → t.start < length text
starts-within text i t n f =
    ⊎_elim (ltb-true t.start (length text))
    (λ e. absurd (f (past-kind text i t n (ltb-false t.start (length text) e))))
    (decide (ltb t.start (length text)))

-- and is passed
pub passes-token : (text : List ℕ) (i : ℕ) (t : TokenAt) → NextToken text i t → (next_kind text i ≡ 32 → ⊥)
    → Passed text i t.end
passes-token text i t n f = passed-next text i t n (λ e. f (kind-next text i t n ∙ e))

-- What a turn of a loop over the tokens knows of the token t that it is at, with b braces open and i methods passed:
-- neither are more than the bytes before it.
pub record AtToken (text : List ℕ) (t : TokenAt) (b i : ℕ) : Type 0 where
  pub begun : t.start < length text
  pub onward : t.start < t.end
  pub within : t.end ≤ length text
  pub braces-less : b < length text
  pub index-less : i < length text

pub at-token : (text : List ℕ) (at : ℕ) (t : TokenAt) (b i : ℕ) → NextToken text at t → b ≤ at → i ≤ at
    → (t.kind ≡ 32 → ⊥) → AtToken text t b i
at-token text at t b i n low least f =
    let begun : t.start < length text = starts-within text at t n f in
    let starts : at ≤ t.start = n.starts in
    record {
      begun = begun;
      onward = n.onward begun;
      within = n.within (omega arith);
      braces-less = omega arith;
      index-less = omega arith;
    }
