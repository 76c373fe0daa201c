-- The steps of an emission: a token is passed, an instruction is put, an argument is put in later.
use Prim.Native.Nat.{ℕ, suc, ◌+◌, ◌*◌, ◌≤◌, ◌<◌}
use native.Mathlib.Omega.{arith}
use mathlib.Core.Path.{◌≡◌, refl, sym, ap, ◌∙◌, subst}
use mathlib.Core.Logic.{◌⊎◌, inl, inr, ⊎_elim}
use mathlib.Core.Bool.{Bool, true, false, cond, ◌&&◌}
use mathlib.Core.List.{List, [], ◌∷◌, ◌++◌, append-nil}
use lib.Dec.{ltb}
use lib.ListN.{length, set, length-append}
use borrow.Author.Tests.{ltb-true, ltb-false}
use Rattle.lists.specs.Lists.{every, put_from}
use Rattle.lists.proofs.Tests.{clash, passes, decide}
use Rattle.text.specs.Tree.{Declared}
use Rattle.text.specs.Translation.{Instruction, instruction, code_words, Scope}
use Rattle.text_parse.specs.Tokens.{Token}
use Rattle.text_parse.specs.Grammar.{first, rest}
use Rattle.text_tokens.specs.Places.{tokens_at}
use Rattle.text_tokens.specs.KindsCode.{kind_of}
use Rattle.text_tokens.specs.NextCode.{NextToken, next_at as token_next}
use Rattle.text_tokens.proofs.Tokenwise.{next-token}
use Rattle.text_types.specs.SaysCode.{Passed}
use Rattle.text_types.proofs.Answers.{passed-next, kind-next}
use Rattle.text_numbering.specs.CodeBy.{number_fits}
use Rattle.text_code.specs.OutcomeCode.{Tables, Written, Overflow, Outcome, all-written, over}
use Rattle.text_code.proofs.Words.{put_both, set-argument}
use Rattle.text_code.proofs.Quiet.{both-fit}

-- a token that has bytes stands first
abbrev pub Stands : List Token → Type 0
Stands ts = kind_of (first ts).bytes ≡ 32 → ⊥

module _ (text : List ℕ) where
  -- where the next token ends
  abbrev pub past : ℕ → ℕ
  past i = (token_next text i).end

  passes-token : (i : ℕ) → Stands (tokens_at text i) → Passed text i (past i)
  passes-token i f =
      let n = next-token text i in
      passed-next text i (token_next text i) n (λ e. f (kind-next text i (token_next text i) n ∙ e))

  module _ (c : List Instruction) (ds : List Declared) (us : List Token) (low : ℕ) (σ τ : Tables) (ok : Bool) (at : ℕ)
    where
      pub pass-leads : Stands us → Outcome text low c ds us σ ok at τ
          → Outcome text (1 + low) c ds (rest us) σ ok (past at) τ
      pass-leads f (over o v) = over o v
      pass-leads f (all-written o l i u q w) =
          let p = passes-token at (subst Stands u f) in
          let on : at < past at = p.onward in
          all-written o (omega arith) p.within (ap rest u ∙ p.after) q w

  abbrev pub with_code : Tables → ℕ → List ℕ → Tables
  with_code τ count code =
      record { n = τ.n; used = τ.used; count = count; scope = τ.scope; row = τ.row; code = code }

  -- the code with one instruction more
  abbrev pub with_one : List ℕ → ℕ → Instruction → List ℕ
  with_one code k i = put_from code (2 * k) (i.op ∷ i.argument ∷ [])

  one-put : (code : List ℕ) (k : ℕ) (i : Instruction) → with_one code k i ≡ put_from code (2 * k) (code_words (i ∷ []))
  unfolding code_words
  one-put code k i = refl

  module _ (c : List Instruction) (ds : List Declared) (us : List Token) (low : ℕ) (σ τ : Tables) (at : ℕ)
      (i : Instruction) where
    one_written : τ.count < 4096 → Written text c ds σ τ
        → Written text (c ++ (i ∷ [])) ds σ (with_code τ (τ.count + 1) (with_one τ.code τ.count i))
    one_written h w = record {
      counted = let a = w.counted in omega (arith, length-append c (i ∷ []));
      few = omega arith;
      given = w.given;
      room = w.room;
      same-scope = w.same-scope;
      words =
          one-put τ.code τ.count i
          ∙ ap (λ (l : List ℕ). put_from l (2 * τ.count) (code_words (i ∷ []))) w.words
          ∙ ap (λ (k : ℕ). put_from (put_from σ.code (2 * σ.count) (code_words c)) (2 * k) (code_words (i ∷ [])))
          w.counted
          ∙ sym (put_both σ.code σ.count c (i ∷ []));
      types = w.types;
      kept = w.kept;
    }

    pub put-leads : {ok fine : Bool} → ok ≡ true → fine ≡ true → τ.count < 4096 → number_fits i ≡ true
        → Outcome text low c ds us σ ok at τ
        → Outcome text low (c ++ (i ∷ [])) ds us σ fine at (with_code τ (τ.count + 1) (with_one τ.code τ.count i))
    put-leads t p h f (over o v) = absurd (clash o (passes t))
    put-leads t p h f (all-written o l j u q w) =
        all-written p l j u (both-fit c (i ∷ []) ∙ rw q (rw f refl)) (one_written h w)

    -- no room for it
    pub put-over : {ok fine : Bool} {υ : Tables} → ok ≡ true → fine ≡ false → 4096 ≤ τ.count
        → Outcome text low c ds us σ ok at τ → Outcome text low (c ++ (i ∷ [])) ds us σ fine at υ
    put-over t p h (over o v) = absurd (clash o (passes t))
    put-over t p h (all-written o l j u q w) =
        let a = w.counted in over p (inl (omega (arith, length-append c (i ∷ []))))

  module _ (c d : List Instruction) (ds : List Declared) (us : List Token) (low : ℕ) (σ τ : Tables) (at : ℕ)
      (o a b : ℕ) where
    length-same : length (c ++ (instruction o a ∷ d)) ≡ length (c ++ (instruction o b ∷ d))
    length-same =
        length-append c (instruction o a ∷ d) ∙ sym (length-append c (instruction o b ∷ d))

    fits-same : number_fits (instruction o a) ≡ number_fits (instruction o b)
        → every number_fits (c ++ (instruction o a ∷ d)) ≡ every number_fits (c ++ (instruction o b ∷ d))
    fits-same e =
        both-fit c (instruction o a ∷ d)
        ∙ ap (λ (t : Bool). every number_fits c && (t && every number_fits d)) e
        ∙ sym (both-fit c (instruction o b ∷ d))

    pub patch-leads : {ok fine : Bool} {k : ℕ} → ok ≡ true → fine ≡ true
        → number_fits (instruction o a) ≡ number_fits (instruction o b) → k ≡ σ.count + length c
        → Outcome text low (c ++ (instruction o a ∷ d)) ds us σ ok at τ
        → Outcome text low (c ++ (instruction o b ∷ d)) ds us σ fine at
        (with_code τ τ.count (set τ.code (2 * k + 1) b))
    patch-leads t p e ek (over f v) = absurd (clash f (passes t))
    patch-leads {ok} {fine} {k} t p e ek (all-written f l j u q w) =
        all-written p l j u (sym (fits-same e) ∙ q) (record {
          counted = w.counted ∙ ap (λ (n : ℕ). σ.count + n) length-same;
          few = w.few;
          given = w.given;
          room = w.room;
          same-scope = w.same-scope;
          words =
              ap (λ (l : List ℕ). set l (2 * k + 1) b) w.words
              ∙ ap (λ (n : ℕ). set (put_from σ.code (2 * σ.count) (code_words (c ++ (instruction o a ∷ d))))
              (2 * n + 1) b) ek
              ∙ set-argument σ.code σ.count o a b c d;
          types = w.types;
          kept = w.kept;
        })

    pub patch-stays : {ok fine : Bool} {υ : Tables} → ok ≡ false → fine ≡ false
        → number_fits (instruction o a) ≡ number_fits (instruction o b)
        → Outcome text low (c ++ (instruction o a ∷ d)) ds us σ ok at τ
        → Outcome text low (c ++ (instruction o b ∷ d)) ds us σ fine at υ
    patch-stays t p e (all-written f l j u q w) = absurd (clash t (passes f))
    patch-stays t p e (over f (inl h)) = over p (inl (let n = length-same in omega arith))
    patch-stays t p e (over f (inr (inl g))) = over p (inr (inl (sym (fits-same e) ∙ g)))
    patch-stays t p e (over f (inr (inr h))) = over p (inr (inr h))
