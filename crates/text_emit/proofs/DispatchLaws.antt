-- Which statement it is, by the kinds of its first tokens.
use Prim.Native.Nat.{ℕ, ◌+◌}
use Prim.Native.String.{String}
use native.Mathlib.Omega.{arith}
use mathlib.Core.Path.{◌≡◌, refl, sym, ap, ◌∙◌, subst}
use mathlib.Core.Logic.{⊎_elim}
use mathlib.Core.Bool.{true, false}
use mathlib.Core.List.{List, ◌++◌, append-nil}
use lib.Dec.{eqb}
use borrow.Author.Tests.{ne_eqb, eqb-true}
use Rattle.lists.proofs.Tests.{clash, passes, decide}
use Rattle.text.specs.Tree.{Declared, Statement, Program}
use Rattle.text.specs.Translation.{Instruction, Scope}
use Rattle.text_parse.specs.Tokens.{Token, is, is_name}
use Rattle.text_parse.specs.Grammar.{Reading, read, leaves, first, rest, Scopes, expect, expect_name, next?}
use Rattle.text_parse.specs.Equations.{simple_rule, named_statement_rule, fork_rule, send_rule, recv_rule}
use Rattle.text_tokens.specs.Places.{tokens_at}
use Rattle.text_tokens.specs.KindsCode.{kind_of}
use Rattle.text_tokens.specs.NextCode.{NextToken, next_at as token_next}
use Rattle.text_tokens.specs.declared.next.TokenAt.{TokenAt}
use Rattle.text_tokens.proofs.Tokenwise.{next-token}
use Rattle.text_tokens.proofs.KindTests.{is-semicolon, is-measure, is-fork, is-send, is-recv, is-return, is-assign, is-name}
use Rattle.text_types.specs.SaysCode.{next_kind}
use Rattle.text_types.proofs.Answers.{passed-next, kind-next}
use Rattle.text_scan.proofs.Holding.{Holds, holds, off}
use Rattle.text_numbering.specs.CodeBy.{place_of}
use Rattle.text_code.specs.OutcomeCode.{Tables, all-written, over}
use Rattle.text_code.specs.StatementBy.{statement_by}
use Rattle.text_code.proofs.Steps.{past, pass-leads, Stands}
use Rattle.text_code.proofs.Forms.{outcome-same, outcome-lower}
use Rattle.text_emit.specs.Reached.{EmitState}
use Rattle.text_emit.specs.EmitCode.{tables_of, passed_by, StatementEmits, StatementFrom, InvokeFrom, NamedEmits, SimpleEmits, give_rule, measure_rule, assign_rule, invoke_rule, name_rule}
use Rattle.text_emit.proofs.SimpleLaws.{At}

module _ (us : List Token) (kind : ℕ) (k : kind_of (first us).bytes ≡ kind) where
  -- the first token is not this word or mark
  other : (s : String) (n : ℕ) → ((t : Token) → is s t ≡ eqb (kind_of t.bytes) n) → (kind ≡ n → ⊥) → next? s us ≡
      false
  other s n test f = test (first us) ∙ ap (λ (i : ℕ). eqb i n) k ∙ ne_eqb kind n f

  this : (s : String) (n : ℕ) → ((t : Token) → is s t ≡ eqb (kind_of t.bytes) n) → eqb kind n ≡ true → next? s us ≡
      true
  this s n test e = test (first us) ∙ ap (λ (i : ℕ). eqb i n) k ∙ e

  module _ (scopes : Scopes) where
    rule-measure : kind ≡ 9 → simple_rule scopes us ≡ measure_rule scopes (rest us)
    unfolding simple_rule measure_rule
    rule-measure e =
        rw (other ";" 26 is-semicolon (λ g. omega (arith, e, g)), this "measure" 9 is-measure (rw e refl)) refl

    rule-fork : kind ≡ 10 → simple_rule scopes us ≡ fork_rule scopes (rest us)
    unfolding simple_rule
    rule-fork e =
        rw (
          other ";" 26 is-semicolon (λ g. omega (arith, e, g)),
          other "measure" 9 is-measure (λ g. omega (arith, e, g)),
          this "fork" 10 is-fork (rw e refl),
        ) refl

    rule-send : kind ≡ 16 → simple_rule scopes us ≡ send_rule scopes (rest us)
    unfolding simple_rule
    rule-send e =
        rw (
          other ";" 26 is-semicolon (λ g. omega (arith, e, g)),
          other "measure" 9 is-measure (λ g. omega (arith, e, g)),
          other "fork" 10 is-fork (λ g. omega (arith, e, g)),
          this "send" 16 is-send (rw e refl),
        ) refl

    rule-receive : kind ≡ 15 → simple_rule scopes us ≡ recv_rule scopes (rest us)
    unfolding simple_rule
    rule-receive e =
        rw (
          other ";" 26 is-semicolon (λ g. omega (arith, e, g)),
          other "measure" 9 is-measure (λ g. omega (arith, e, g)),
          other "fork" 10 is-fork (λ g. omega (arith, e, g)),
          other "send" 16 is-send (λ g. omega (arith, e, g)),
          this "recv" 15 is-recv (rw e refl),
        ) refl

    rule-give : kind ≡ 11 → simple_rule scopes us ≡ give_rule scopes (rest us)
    unfolding simple_rule give_rule
    rule-give e =
        rw (
          other ";" 26 is-semicolon (λ g. omega (arith, e, g)),
          other "measure" 9 is-measure (λ g. omega (arith, e, g)),
          other "fork" 10 is-fork (λ g. omega (arith, e, g)),
          other "send" 16 is-send (λ g. omega (arith, e, g)),
          other "recv" 15 is-recv (λ g. omega (arith, e, g)),
          this "return" 11 is-return (rw e refl),
        ) refl

    rule-named : (kind ≡ 26 → ⊥) → (kind ≡ 9 → ⊥) → (kind ≡ 10 → ⊥) → (kind ≡ 16 → ⊥) → (kind ≡ 15 → ⊥) → (kind ≡ 11 →
        ⊥)
        → simple_rule scopes us ≡ name_rule scopes us
    unfolding simple_rule name_rule
    rule-named a b c d e f =
        rw (
          other ";" 26 is-semicolon a,
          other "measure" 9 is-measure b,
          other "fork" 10 is-fork c,
          other "send" 16 is-send d,
          other "recv" 15 is-recv e,
          other "return" 11 is-return f,
        ) refl

module _ (text : List ℕ) (n : ℕ) (scope : List ℕ) where
  -- the tokens to come, where all fits so far
  first_kind : {row code : List ℕ} {low : ℕ} {b : List Instruction} {es : List Declared} {σ : Tables} {us : List Token}
      {e : EmitState} (t : TokenAt) → e.ok ≡ true → NextToken text e.at t → At text n scope row code low b es us σ e
      → kind_of (first us).bytes ≡ t.kind
  first_kind t on k (over o v) = absurd (clash o (passes on))
  first_kind t on k (all-written o l i u q w) =
      ap (λ (ts : List Token). kind_of (first ts).bytes) u ∙ kind-next text _ t k

  second-kind : {row code : List ℕ} {low : ℕ} {b : List Instruction} {es : List Declared} {σ : Tables} {us : List Token}
      {e : EmitState} → e.ok ≡ true → Stands us → At text n scope row code low b es us σ e
      → kind_of (first (rest us)).bytes ≡ next_kind text (past text e.at)
  second-kind on s (over o v) = absurd (clash o (passes on))
  second-kind {row} {code} {low} {b} {es} {σ} {us} {e} on s (all-written o l i u q w) =
      let t = token_next text e.at in
      let k = next-token text e.at in
      let stands : Stands (tokens_at text e.at) = subst Stands u s in
      let pass = passed-next text e.at t k (λ g. stands (kind-next text e.at t k ∙ g)) in
      ap (λ (ts : List Token). kind_of (first ts).bytes) (ap rest u ∙ pass.after)

  module _ (e r : EmitState) (code code' : List ℕ) where
    -- another reading of the same tokens
    by-rule : {A : Type 0} {P : A → List Token → Type 0} {x y : Reading A} → x ≡ y → Holds P y → Holds P x
    by-rule {A} {P} q h = subst (Holds P) (sym q) h

    name-stands : (us : List Token) → is_name (first us) ≡ true → Stands us
    name-stands us f g = thirty-three (sym (eqb-true (kind_of (first us).bytes) 33 (sym (is-name (first us)) ∙ f)) ∙ g)
      where
        thirty-three : ◌≡◌ {A = ℕ} 33 32 → ⊥
        thirty-three e = omega (arith, e)

    named-same : (scopes : Scopes) (us : List Token) → (is_name (first us) ≡ true → next? "=" (rest us) ≡ true)
        → name_rule scopes us ≡ assign_rule scopes us
    unfolding name_rule assign_rule expect_name named_statement_rule expect
    named-same scopes us f = ⊎_elim (λ y. rw (y, f y) refl) (λ z. rw z refl) (decide (is_name (first us)))

    invoked-same : (scopes : Scopes) (us : List Token) → (is_name (first us) ≡ true → next? "=" (rest us) ≡ false)
        → name_rule scopes us ≡ invoke_rule scopes us
    unfolding name_rule invoke_rule expect_name named_statement_rule expect
    invoked-same scopes us f = ⊎_elim (λ y. rw (y, f y) refl) (λ z. rw z refl) (decide (is_name (first us)))

    -- where the second token stands
    second_at : (a : EmitState) (kind : ℕ) → a ≡ passed_by text e → kind ≡ next_kind text a.at
        → kind ≡ next_kind text (past text e.at)
    second_at a kind ea k = k ∙ ap (λ (x : EmitState). next_kind text x.at) ea

    pub named-assigns : (a : EmitState) (kind : ℕ) → a ≡ passed_by text e → kind ≡ next_kind text a.at → kind ≡ 29
        → StatementFrom assign_rule text scope n e code r code' → NamedEmits text scope n e code r code'
    named-assigns a kind ea ek k s ms methods on i at row us low b es σ scopes sc pl few h =
        by-rule (named-same scopes us (λ y. is-assign (first (rest us))
        ∙ ap (λ (j : ℕ). eqb j 29) (second-kind on (name-stands us y) h ∙ sym (second_at a kind ea ek) ∙ k)))
        (s on ms i at row us low b es σ scopes sc pl few h)

    pub named-invokes : (a : EmitState) (kind : ℕ) → a ≡ passed_by text e → kind ≡ next_kind text a.at → (kind ≡ 29 → ⊥)
        → InvokeFrom text scope n e code r code' → NamedEmits text scope n e code r code'
    named-invokes a kind ea ek k s ms methods on i at row us low b es σ scopes sc pl few h =
        by-rule (invoked-same scopes us (λ y. is-assign (first (rest us))
        ∙ ap (λ (j : ℕ). eqb j 29) (second-kind on (name-stands us y) h ∙ sym (second_at a kind ea ek)) ∙ ne_eqb kind 29
        k))
        (s on ms methods i at row us low b es σ scopes sc pl few h)

    module _ (t : TokenAt) (there : NextToken text e.at t) where
      pub simple-named : (t.kind ≡ 26 → ⊥) → (t.kind ≡ 9 → ⊥) → (t.kind ≡ 10 → ⊥) → (t.kind ≡ 16 → ⊥)
          → (t.kind ≡ 15 → ⊥) → (t.kind ≡ 11 → ⊥) → NamedEmits text scope n e code r code'
          → SimpleEmits text scope n e code r code'
      simple-named k₁ k₂ k₃ k₄ k₅ k₆ s ms methods on i at row us low b es σ scopes sc pl few h =
          by-rule (rule-named us t.kind (first_kind t on there h) scopes k₁ k₂ k₃ k₄ k₅ k₆)
          (s ms methods on i at row us low b es σ scopes sc pl few h)

      module _ (a : EmitState) (ea : a ≡ passed_by text e) where
        -- the word is passed
        passed : {row : List ℕ} {low : ℕ} {b : List Instruction} {es : List Declared} {σ : Tables} {us : List Token}
            → e.ok ≡ true → (t.kind ≡ 32 → ⊥) → At text n scope row code low b es us σ e
            → At text n scope row code (1 + low) b es (rest us) σ a
        passed {row} {low} {b} {es} {σ} {us} on k h =
            subst (At text n scope row code (1 + low) b es (rest us) σ) (sym ea)
            (pass-leads text b es us low σ (tables_of e n scope row code) e.ok e.at
            (λ g. k (sym (first_kind t on there h) ∙ g)) h)

        lowered : (low : ℕ) (b : List Instruction) {row : List ℕ} {es : List Declared} {σ : Tables} (i at : ℕ) (sc :
            Scope)
            (ms : Program) (x : Reading Statement)
            → Holds (λ s vs. At text n scope row code' (1 + (1 + low)) (b ++ statement_by place_of ms sc i at s) es vs σ
            r) x
            → Holds (λ s vs. At text n scope row code' (1 + low) (b ++ statement_by place_of ms sc i at s) es vs σ r) x
        lowered low b i at sc ms (read s vs) (holds p) =
            holds (outcome-lower text (1 + low) (1 + (1 + low)) (omega arith) p)
        lowered low b i at sc ms (leaves j) off = off

        -- a statement after its word
        after-word : (rule : Scopes → List Token → Reading Statement) → (t.kind ≡ 32 → ⊥)
            → ((us : List Token) (scopes : Scopes) → kind_of (first us).bytes ≡ t.kind
            → simple_rule scopes us ≡ rule scopes (rest us))
            → StatementFrom rule text scope n a code r code' → SimpleEmits text scope n e code r code'
        after-word rule k same s ms methods on i at row us low b es σ scopes sc pl few h =
            by-rule (same us scopes (first_kind t on there h))
            (lowered low b i at sc ms (rule scopes (rest us))
            (s (ap (λ (x : EmitState). x.ok) ea ∙ on) ms i at row (rest us) (1 + low) b es σ scopes sc pl few (passed on k
            h)))

        pub simple-measure : t.kind ≡ 9 → StatementFrom measure_rule text scope n a code r code'
            → SimpleEmits text scope n e code r code'
        simple-measure k = after-word measure_rule (λ g. omega (arith, k, g)) (λ us scopes f. rule-measure us t.kind f
            scopes k)

        pub simple-fork : t.kind ≡ 10 → StatementFrom fork_rule text scope n a code r code'
            → SimpleEmits text scope n e code r code'
        simple-fork k = after-word fork_rule (λ g. omega (arith, k, g)) (λ us scopes f. rule-fork us t.kind f scopes
            k)

        pub simple-send : t.kind ≡ 16 → StatementEmits send_rule text scope n a code r code'
            → SimpleEmits text scope n e code r code'
        simple-send k s =
            after-word send_rule (λ g. omega (arith, k, g)) (λ us scopes f. rule-send us t.kind f scopes k) (λ on. s)

        pub simple-receive : t.kind ≡ 15 → StatementEmits recv_rule text scope n a code r code'
            → SimpleEmits text scope n e code r code'
        simple-receive k s =
            after-word recv_rule (λ g. omega (arith, k, g)) (λ us scopes f. rule-receive us t.kind f scopes k)
            (λ on. s)

        pub simple-give : t.kind ≡ 11 → StatementEmits give_rule text scope n a code r code'
            → SimpleEmits text scope n e code r code'
        simple-give k s =
            after-word give_rule (λ g. omega (arith, k, g)) (λ us scopes f. rule-give us t.kind f scopes k) (λ on. s)

  -- ; alone
  pub simple-skip : (e a : EmitState) (code : List ℕ) (t : TokenAt) → NextToken text e.at t → a ≡ passed_by text e
      → t.kind ≡ 26 → SimpleEmits text scope n e code a code
  unfolding simple_rule statement_by
  simple-skip e a code t there ea k ms methods on i at row us low b es σ scopes sc pl few h =
      rw (this us t.kind (first_kind t on there h) ";" 26 is-semicolon (rw k refl))
      (holds (outcome-same text (sym (append-nil b)) refl
      (passed e a code code t there a ea on (λ g. omega (arith, k, g)) h)))
