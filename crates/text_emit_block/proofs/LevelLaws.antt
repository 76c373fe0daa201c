-- Which statement it is, by the kind of the next token and the nesting left.
use Prim.Native.Nat.{ℕ, zero, suc, ◌+◌, ◌-◌, ◌≤◌}
use Prim.Native.String.{String}
use native.Mathlib.Omega.{arith}
use mathlib.Core.Path.{◌≡◌, refl, sym, ap, ◌∙◌, subst}
use mathlib.Core.Bool.{true, false, cond}
use mathlib.Core.List.{List, [], ◌++◌, append-nil}
use lib.Dec.{eqb}
use lib.ListN.{length}
use borrow.Author.Tests.{eq-eqb, ne_eqb}
use Rattle.text.specs.Tree.{Declared, Statement}
use Rattle.text.specs.Translation.{within}
use Rattle.text_parse.specs.Tokens.{Token, is}
use Rattle.text_parse.specs.Grammar.{Reading, leaves, and_then, first, rest, leaves_at, next?, deeper, Scopes}
use Rattle.text_parse.specs.Equations.{simple_rule, fork_rule, send_rule, recv_rule, named_statement_rule, statement_from, statement_rule, body_from, body_rule, block_from, unbraced_rule}
use Rattle.text_parse.proofs.Equations.{grammar}
use Rattle.text_tokens.specs.Places.{tokens_at}
use Rattle.text_tokens.specs.KindsCode.{kind_of}
use Rattle.text_tokens.proofs.KindTests.{is-if, is-while, is-open-brace}
use Rattle.text_types.specs.SaysCode.{next_kind}
use Rattle.text_scan.proofs.Holding.{Holds, holds, off, after, then-holds, weaker-holds, both_hold, next-holds, expect-holds, name-holds, leaves_at-holds}
use Rattle.text_numbering.specs.CodeBy.{place_of}
use Rattle.text_code.specs.StatementBy.{statement_by}
use Rattle.text_code.proofs.Forms.{outcome-same, outcome-lower}
use Rattle.text_emit.specs.Reached.{EmitState}
use Rattle.text_emit.specs.EmitCode.{passed_by, Scoped, SimpleEmits}
use Rattle.text_emit.proofs.SimpleLaws.{step-token}
use Rattle.text_emit_block.specs.BlockCode.{StatementTranslates, ThereTranslates, else_rule, if_rule, while_rule}
use Rattle.text_emit_block.proofs.Frames.{every-reading, written_of, tokens-of, unframed-off}

-- one level less is left
some_left : {A : Type 0} (left : ℕ) (ts : List Token) (k : ℕ → Reading A) → (left ≡ 0 → ⊥)
    → deeper left ts k ≡ k (left - 1)
unfolding deeper
some_left zero ts k f = absurd (f refl)
some_left (suc l) ts k f =
    let one : l ≡ suc l - 1 = omega arith in ap k one

none_left : {A : Type 0} (left : ℕ) (ts : List Token) (k : ℕ → Reading A) → left ≡ 0
    → deeper left ts k ≡ leaves (first ts).at
unfolding deeper leaves_at
none_left zero ts k e = refl
none_left (suc l) ts k e = absurd (omega arith)

-- what the kind of the next token says of the tokens to come
module _ (text : List ℕ) (s : String) (j : ℕ) (test : (t : Token) → is s t ≡ eqb (kind_of t.bytes) j)
    (at : ℕ) {us : List Token} (u : us ≡ tokens_at text at) where
  pub stands : next_kind text at ≡ j → next? s us ≡ true
  stands h = test (first us) ∙ eq-eqb (kind_of (first us).bytes) j (ap (λ ts. kind_of (first ts).bytes) u ∙ h)

  pub misses : (next_kind text at ≡ j → ⊥) → next? s us ≡ false
  misses f =
      test (first us) ∙ ne_eqb (kind_of (first us).bytes) j (λ e. f (sym (ap (λ ts. kind_of (first ts).bytes) u) ∙ e))

-- a statement that holds no other declares nothing
pub then-any : {A B : Type 0} {Q : B → List Token → Type 0} (r : Reading A) {k : A → List Token → Reading B}
    → ((a : A) (us : List Token) → Holds Q (k a us)) → Holds Q (and_then r k)
then-any r f = then-holds (every-reading {P = λ a us. Unit {0}} (λ a us. tt) r) (λ a us t. f a us)

pub simple-declares : (scopes : Scopes) (us : List Token) → Holds (λ s vs. within s ≡ []) (simple_rule scopes us)
unfolding simple_rule within fork_rule send_rule recv_rule named_statement_rule
simple-declares scopes us =
    next-holds ";" us (λ t. holds refl) (λ f1. next-holds "measure" us
    (λ t. then-any _ (λ q vs. expect-holds ";" vs (λ ws t. holds refl))) (λ f2. next-holds "fork" us
    (λ t. name-holds (rest us) (λ m vs t. expect-holds "(" vs (λ ws t. then-any _ (λ es xs.
    expect-holds ";" xs (λ ys t. holds refl))))) (λ f3. next-holds "send" us
    (λ t. expect-holds "(" (rest us) (λ vs t. then-any _ (λ e ws. expect-holds "," ws (λ xs t. then-any _ (λ v ys.
    expect-holds ")" ys (λ zs t. expect-holds ";" zs (λ rs t. holds refl))))))) (λ f4. next-holds "recv" us
    (λ t. expect-holds "(" (rest us) (λ vs t. then-any _ (λ e ws. expect-holds ")" ws (λ xs t.
    expect-holds ";" xs (λ ys t. holds refl))))) (λ f5. next-holds "return" us
    (λ t. then-any _ (λ e vs. expect-holds ";" vs (λ ws t. holds refl))) (λ f6.
    name-holds us (λ x vs t. next-holds "=" vs
    (λ t. then-any _ (λ e ws. expect-holds ";" ws (λ xs t. holds refl))) (λ f7. next-holds "(" vs
    (λ t. then-any _ (λ es ws. expect-holds ";" ws (λ xs t. holds refl))) (λ f8. leaves_at-holds vs)))))))))

module _ (text : List ℕ) (n : ℕ) (e : EmitState) (scope row code : List ℕ) (r : EmitState) (scope' row' code' : List ℕ) where
  -- nothing is done where something does not fit
  pub nothing-done : (rule : Scopes → List Token → Reading Statement) → e.ok ≡ false → r.ok ≡ false
      → StatementTranslates rule text n e scope row code r scope' row' code'
  nothing-done rule o f ms m =
      unframed-off rule (λ sc i at s. statement_by place_of ms sc i at s) within text n e scope row code r scope' row'
      code' o f

  module _ (left : ℕ) (on : e.ok ≡ true) where
    abbrev k : ℕ
    k = next_kind text e.at

    pub statement-deep : k ≡ 21 → left ≡ 0
        → StatementTranslates (statement_from left) text n e scope row code r scope' row' code'
    unfolding statement_rule
    statement-deep h f ms m us low b es σ scopes sc in_scope x =
        rw (
          grammar.statement-is left scopes us,
          stands text "{" 21 is-open-brace e.at (tokens-of text x on) h,
          none_left left us (λ l. block_from l scopes us) f,
        )
        off

    pub statement-block : k ≡ 21 → (left ≡ 0 → ⊥)
        → ThereTranslates (block_from (left - 1)) text n e scope row code r scope' row' code'
        → StatementTranslates (statement_from left) text n e scope row code r scope' row' code'
    unfolding statement_rule
    statement-block h f t ms m us low b es σ scopes sc in_scope x =
        rw (
          grammar.statement-is left scopes us,
          stands text "{" 21 is-open-brace e.at (tokens-of text x on) h,
          some_left left us (λ l. block_from l scopes us) f,
        )
        (t on ms m us low b es σ scopes sc in_scope x)

    pub statement-other : (k ≡ 21 → ⊥) → ThereTranslates (unbraced_rule left) text n e scope row code r scope' row' code'
        → StatementTranslates (statement_from left) text n e scope row code r scope' row' code'
    unfolding statement_rule
    statement-other f t ms m us low b es σ scopes sc in_scope x =
        rw (grammar.statement-is left scopes us, misses text "{" 21 is-open-brace e.at (tokens-of text x on) f)
        (t on ms m us low b es σ scopes sc in_scope x)

    -- the body of an if, else or while
    abbrev deep_body : Scopes → List Token → ℕ → Reading Statement
    deep_body scopes us l = cond (next? "{" us) (block_from l scopes us) (unbraced_rule l scopes us)

    pub body-deep : left ≡ 0 → StatementTranslates (body_from left) text n e scope row code r scope' row' code'
    unfolding body_rule
    body-deep f ms m us low b es σ scopes sc in_scope x =
        rw (grammar.body_is left scopes us, none_left left us (deep_body scopes us) f) off

    pub body-block : (left ≡ 0 → ⊥) → k ≡ 21
        → ThereTranslates (block_from (left - 1)) text n e scope row code r scope' row' code'
        → StatementTranslates (body_from left) text n e scope row code r scope' row' code'
    unfolding body_rule
    body-block f h t ms m us low b es σ scopes sc in_scope x =
        rw (
          grammar.body_is left scopes us,
          some_left left us (deep_body scopes us) f,
          stands text "{" 21 is-open-brace e.at (tokens-of text x on) h,
        )
        (t on ms m us low b es σ scopes sc in_scope x)

    pub body-other : (left ≡ 0 → ⊥) → (k ≡ 21 → ⊥)
        → ThereTranslates (unbraced_rule (left - 1)) text n e scope row code r scope' row' code'
        → StatementTranslates (body_from left) text n e scope row code r scope' row' code'
    unfolding body_rule
    body-other f g t ms m us low b es σ scopes sc in_scope x =
        rw (
          grammar.body_is left scopes us,
          some_left left us (deep_body scopes us) f,
          misses text "{" 21 is-open-brace e.at (tokens-of text x on) g,
        )
        (t on ms m us low b es σ scopes sc in_scope x)

    -- if, while, or a statement that holds no other
    after-word : (rule : Scopes → List Token → Reading Statement) (s : String) (j : ℕ)
        → ((t : Token) → is s t ≡ eqb (kind_of t.bytes) j) → (j ≡ 32 → ⊥) → (word : EmitState) → word ≡ passed_by text e
        → ThereTranslates rule text n word scope row code r scope' row' code' → k ≡ j
        → StatementTranslates (λ scopes us. rule scopes (rest us)) text n e scope row code r scope' row' code'
    after-word rule s j test g word p t h ms m us low b es σ scopes sc in_scope x =
        weaker-holds (λ a vs y. outcome-lower text (1 + low) (1 + (1 + low)) (omega arith) y)
        (t (ap (λ (w : EmitState). w.ok) p ∙ on) ms m (rest us) (1 + low) b es σ scopes sc
        (subst (Scoped text scope n sc) (sym p) in_scope)
        (step-token text n scope p s j test g (after (stands text s j test e.at (tokens-of text x on) h)) x))

    pub unbraced-if : (word : EmitState) → k ≡ 12 → word ≡ passed_by text e
        → ThereTranslates (if_rule left) text n word scope row code r scope' row' code'
        → StatementTranslates (unbraced_rule left) text n e scope row code r scope' row' code'
    unfolding unbraced_rule if_rule else_rule
    unbraced-if word h p t ms m us low b es σ scopes sc in_scope x =
        rw (stands text "if" 12 is-if e.at (tokens-of text x on) h)
        (after-word (if_rule left) "if" 12 is-if (λ g. omega (arith, g)) word p t h ms m us low b es σ scopes sc
        in_scope x)

    pub unbraced-while : (word : EmitState) → k ≡ 14 → word ≡ passed_by text e
        → ThereTranslates (while_rule left) text n word scope row code r scope' row' code'
        → StatementTranslates (unbraced_rule left) text n e scope row code r scope' row' code'
    unfolding unbraced_rule while_rule
    unbraced-while word h p t ms m us low b es σ scopes sc in_scope x =
        rw (
          misses text "if" 12 is-if e.at (tokens-of text x on) (λ g. omega (arith, g, h)),
          stands text "while" 14 is-while e.at (tokens-of text x on) h,
        )
        (after-word (while_rule left) "while" 14 is-while (λ g. omega (arith, g)) word p t h ms m us low b es σ scopes sc
        in_scope x)

-- it declares nothing, so the tables of variables stay as they are
pub unbraced-simple : (text : List ℕ) (n : ℕ) (e : EmitState) (scope row code : List ℕ) (r : EmitState) (code' : List ℕ)
    (left : ℕ) → e.ok ≡ true → (next_kind text e.at ≡ 12 → ⊥) → (next_kind text e.at ≡ 14 → ⊥)
    → SimpleEmits text scope n e code r code'
    → StatementTranslates (unbraced_rule left) text n e scope row code r scope row code'
unfolding unbraced_rule
unbraced-simple text n e scope row code r code' left on f g t ms m us low b es σ scopes sc in_scope x =
    let w = written_of text x on in
    let room = w.room in
    let slots : n ≤ e.used = (in_scope on).1 in
    rw (
      misses text "if" 12 is-if e.at (tokens-of text x on) f,
      misses text "while" 14 is-while e.at (tokens-of text x on) g,
    )
    (weaker-holds (λ a vs both.
    outcome-same text refl (sym (append-nil es) ∙ ap (λ (l : List Declared). es ++ l) (sym both.1)) both.0)
    (both_hold
    (t ms m on (σ.used + length es) (σ.count + length b) row us low b es σ scopes sc (in_scope on).0 (omega arith) x)
    (simple-declares scopes us)))
