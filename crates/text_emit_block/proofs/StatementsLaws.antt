-- Statements one after the other, up to a closing brace.
use Prim.Native.Nat.{ℕ, ◌+◌}
use native.Mathlib.Omega.{arith}
use mathlib.Core.Path.{◌≡◌, sym, ap, ◌∙◌}
use mathlib.Core.Bool.{Bool, true, false}
use mathlib.Core.List.{List, ◌++◌, append-nil, append_assoc}
use lib.ListN.{length, length-append}
use Rattle.text.specs.Tree.{Declared, Statement, Statements, next, Program}
use Rattle.text.specs.Translation.{Instruction, Scope, within, all_within}
use Rattle.text_parse.specs.Tokens.{Token}
use Rattle.text_parse.specs.Equations.{statement_from, statements_from, statements_rule}
use Rattle.text_parse.proofs.Equations.{grammar}
use Rattle.text_tokens.proofs.KindTests.{is-close-brace}
use Rattle.text_types.specs.SaysCode.{next_kind}
use Rattle.text_scan.proofs.Holding.{holds, after, then-holds}
use Rattle.text_numbering.specs.CodeBy.{place_of}
use Rattle.text_code.specs.OutcomeCode.{Tables, Outcome, all-written, over}
use Rattle.text_code.specs.StatementBy.{statement_by, statements_by}
use Rattle.text_code.proofs.Outcomes.{outcome-stays}
use Rattle.text_code.proofs.Forms.{outcome-same, outcome-lower}
use Rattle.text_emit.specs.Reached.{EmitState}
use Rattle.text_emit.specs.EmitCode.{passed_by, MethodsOf}
use Rattle.lists.proofs.Tests.{never}
use Rattle.text_emit.proofs.SimpleLaws.{step-token}
use Rattle.text_emit_block.specs.BlockCode.{Advance, StatementTranslates, StatementsTranslate}
use Rattle.text_emit_block.proofs.Frames.{Framed, tokens-of, framed, unframed, unframed-off}
use Rattle.text_emit_block.proofs.LevelLaws.{stands, misses, then-any}

-- the statements from here on, seen from where the tables began
abbrev pub StatementsFramed : ℕ → List ℕ → ℕ → EmitState → List ℕ → List ℕ → List ℕ → EmitState → List ℕ → List ℕ → List ℕ
    → Type 0
StatementsFramed left text n e scope row code r scope' row' code' =
    (ms : Program) → MethodsOf text ms
    → Framed (statements_from left) (λ sc i at ss. statements_by place_of ms sc i at ss) all_within text n e scope row code
    r scope' row' code'

module _ (text : List ℕ) (n left : ℕ) (e : EmitState) (scope row code : List ℕ) (r : EmitState) (scope' row' code' : List ℕ) where
  pub statements-stuck : e.ok ≡ false → r.ok ≡ false
      → StatementsTranslate left text n e scope row code r scope' row' code'
  statements-stuck o f ms m =
      unframed-off (statements_from left) (λ sc i at ss. statements_by place_of ms sc i at ss) all_within text n e scope row
      code r scope' row' code' o f

  pub statements-framed : e.ok ≡ true → StatementsFramed left text n e scope row code r scope' row' code'
      → StatementsTranslate left text n e scope row code r scope' row' code'
  statements-framed on f ms m =
      unframed (statements_from left) (λ sc i at ss. statements_by place_of ms sc i at ss) all_within text n e scope row
      code r scope' row' code' on (f ms m)

-- the closing brace
pub statements-end : (text : List ℕ) (n left : ℕ) (e r : EmitState) (scope row code : List ℕ) → e.ok ≡ true
    → next_kind text e.at ≡ 22 → r ≡ passed_by text e
    → StatementsFramed left text n e scope row code r scope row code
unfolding statements_rule statements_by all_within
statements-end text n left e r scope row code on h p ms m us low b es σ scopes sc pl few x =
    let there = stands text "}" 22 is-close-brace e.at (tokens-of text x on) h in
    rw (grammar.statements-is left scopes us, there)
    (holds (outcome-same text (sym (append-nil b)) (sym (append-nil es))
    (step-token text n scope p "}" 22 is-close-brace (λ g. omega (arith, g)) (after there) x)))

-- a statement and those after it
module _ (text : List ℕ) (n left : ℕ) (e s : EmitState) (scope row code scope' row' code' : List ℕ) (on : e.ok ≡ true)
    (more : next_kind text e.at ≡ 22 → ⊥)
    (one : StatementTranslates (statement_from left) text n e scope row code s scope' row' code') where
  next-is : (ms : Program) (sc : Scope) (i at : ℕ) (b : List Instruction) (es : List Declared) (t : Statement)
      (ss : Statements)
      → (b ++ statement_by place_of ms sc (i + length es) (at + length b) t)
      ++ statements_by place_of ms sc (i + length (es ++ within t))
      (at + length (b ++ statement_by place_of ms sc (i + length es) (at + length b) t)) ss
      ≡ b ++ statements_by place_of ms sc (i + length es) (at + length b) (next t ss)
  unfolding statements_by
  next-is ms sc i at b es t ss =
      let S = statement_by place_of ms sc (i + length es) (at + length b) t in
      append_assoc b S _
      ∙ ap (λ (k : ℕ). b ++ (S ++ statements_by place_of ms sc k (at + length (b ++ S)) ss))
      {x = i + length (es ++ within t)} {y = i + length es + length (within t)}
      (let one = length-append es (within t) in omega arith)
      ∙ ap (λ (k : ℕ). b ++ (S ++ statements_by place_of ms sc (i + length es + length (within t)) k ss))
      {x = at + length (b ++ S)} {y = at + length b + length S}
      (let one = length-append b S in omega arith)

  pub statements-on : (r : EmitState) (scope'' row'' code'' : List ℕ)
      → StatementsFramed left text n s scope' row' code' r scope'' row'' code''
      → StatementsFramed left text n e scope row code r scope'' row'' code''
  unfolding statements_rule all_within
  statements-on r scope'' row'' code'' later ms m us low b es σ scopes sc pl few x =
      rw (grammar.statements-is left scopes us, misses text "}" 22 is-close-brace e.at (tokens-of text x on) more)
      (then-holds (framed (statement_from left) (λ sc i at s. statement_by place_of ms sc i at s) within text n e scope row
      code s scope' row' code' (one ms m) us low b es σ scopes sc pl few x) (λ t vs y.
      then-holds (later ms m vs (1 + low) (b ++ statement_by place_of ms sc (σ.used + length es) (σ.count + length b) t)
      (es ++ within t) σ scopes sc pl few y) (λ ss ws z.
      holds (outcome-lower text (1 + low) (1 + (1 + low)) (omega arith)
      (outcome-same text (next-is ms sc σ.used σ.count b es t ss)
      (append_assoc es (within t) (all_within ss)) z)))))

  -- a statement that does not fit; one of a text in the grammar ends further on
  pub statements-fail : (r : EmitState) (scope'' row'' code'' : List ℕ) (goes : Bool)
      → Advance text e.at s.ok s.at goes → goes ≡ false → r.ok ≡ false
      → StatementsFramed left text n e scope row code r scope'' row'' code''
  unfolding statements_rule all_within
  statements-fail r scope'' row'' code'' goes adv stops o ms m us low b es σ scopes sc pl few x =
      rw (grammar.statements-is left scopes us, misses text "}" 22 is-close-brace e.at (tokens-of text x on) more)
      (then-holds (framed (statement_from left) (λ sc i at s. statement_by place_of ms sc i at s) within text n e scope row
      code s scope' row' code' (one ms m) us e.at b es σ scopes sc pl few (from_place x)) (λ t vs y.
      then-any (statements_from left scopes vs) (λ ss ws. holds
      (outcome-same text (next-is ms sc σ.used σ.count b es t ss) (append_assoc es (within t) (all_within ss))
      (outcome-stays text _ _ (es ++ within t) (all_within ss) (not-ok y) o y)))))
    where
      from_place : {low : ℕ} {b : List Instruction} {es : List Declared} {us : List Token} {σ τ : Tables}
          → Outcome text low b es us σ e.ok e.at τ → Outcome text e.at b es us σ e.ok e.at τ
      from_place (all-written p l i u q w) = all-written p (omega arith) i u q w
      from_place (over p v) = over p v

      not-ok : {b : List Instruction} {es : List Declared} {us : List Token} {σ τ : Tables}
          → Outcome text (1 + e.at) b es us σ s.ok s.at τ → s.ok ≡ false
      not-ok (over p v) = p
      not-ok (all-written p l i u q w) = absurd (adv.off stops p (omega arith) i)

-- what does not fit stands nowhere
pub nowhere : (text : List ℕ) (from at : ℕ) → Advance text from false at false
nowhere text from at = record { on = λ e. never e; off = λ e p. absurd (never p) }
