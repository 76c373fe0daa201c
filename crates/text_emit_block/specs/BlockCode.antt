-- Statements that hold others: what is made of any outcome before them. These definitions follow the code.
use Rattle.std.specs.Prelude.{ℕ, ◌+◌, ◌≤◌, ◌<◌, ◌≡◌, Bool, true, false, cond, List, ◌∷◌, ◌++◌, length}
use Rattle.text.specs.Tree.{Expr, Declared, Statement, conditional, alternative, loop, Program}
use Rattle.text.specs.Translation.{Instruction, JUMP, JFALSE, Scope, within, all_within, clear_code}
use Rattle.text_parse.specs.Tokens.{Token}
use Rattle.text_parse.specs.Grammar.{Reading, read, and_then, rest, next?, Scopes}
use Rattle.text_parse.specs.Equations.{condition_rule, body_from, statements_from}
use Rattle.text_scan.proofs.Holding.{Holds}
use Rattle.text_numbering.specs.CodeBy.{place_of}
use Rattle.text_code.specs.OutcomeCode.{Tables, Outcome}
use Rattle.text_code.specs.StatementBy.{statement_by, statements_by}
use Rattle.text_emit.specs.Reached.{EmitState}
use Rattle.text_emit.specs.EmitCode.{tables_of, Puts, Scoped, Translates, MethodsOf}

-- a part of the text is gone over, and all fits
pub record Advance (text : List ℕ) (from : ℕ) (ok : Bool) (at : ℕ) (r : Bool) : Type 0 where
  pub on : r ≡ true → (ok ≡ true) × ((from < at) × (at ≤ length text))
  pub off : r ≡ false → ok ≡ true → from < at → at ≤ length text → ⊥

-- the variables ds, whose slots are those from `from` up to `to`, are emptied
abbrev pub Clears : ℕ → ℕ → EmitState → List ℕ → EmitState → List ℕ → Type 0
Clears from to e code r code' =
    (ds : List Declared) → to ≡ from + length ds → Puts (clear_code ds from) e code r code'

-- a statement, with the methods of the text
abbrev pub StatementTranslates : (Scopes → List Token → Reading Statement) → List ℕ → ℕ → EmitState → List ℕ → List ℕ
    → List ℕ → EmitState → List ℕ → List ℕ → List ℕ → Type 0
StatementTranslates rule text n e scope row code r scope' row' code' =
    (ms : Program) → MethodsOf text ms
    → Translates rule (λ sc i at s. statement_by place_of ms sc i at s) within text n e scope row code r scope' row' code'

-- the same where all fits so far
abbrev pub ThereTranslates : (Scopes → List Token → Reading Statement) → List ℕ → ℕ → EmitState → List ℕ → List ℕ
    → List ℕ → EmitState → List ℕ → List ℕ → List ℕ → Type 0
ThereTranslates rule text n e scope row code r scope' row' code' =
    e.ok ≡ true → StatementTranslates rule text n e scope row code r scope' row' code'

abbrev pub StatementsTranslate : ℕ → List ℕ → ℕ → EmitState → List ℕ → List ℕ → List ℕ → EmitState → List ℕ → List ℕ → List ℕ
    → Type 0
StatementsTranslate left text n e scope row code r scope' row' code' =
    (ms : Program) → MethodsOf text ms
    → Translates (statements_from left) (λ sc i at ss. statements_by place_of ms sc i at ss) all_within text n e scope row
    code r scope' row' code'

-- "if ( expr ) code ( else code)?" and "while ( expr ) code", after the word
unfoldable pub else_rule : ℕ → Scopes → Expr → Statement → List Token → Reading Statement
else_rule left scopes e s ts =
    cond (next? "else" ts)
    (and_then (body_from left scopes (rest ts)) (λ t us. read (alternative e s t) us))
    (read (conditional e s) ts)

unfoldable pub if_rule : ℕ → Scopes → List Token → Reading Statement
if_rule left scopes ts =
    and_then (condition_rule scopes ts) (λ e us. and_then (body_from left scopes us) (λ s vs. else_rule left scopes e s vs))

unfoldable pub while_rule : ℕ → Scopes → List Token → Reading Statement
while_rule left scopes ts =
    and_then (condition_rule scopes ts) (λ e us. and_then (body_from left scopes us) (λ s vs. read (loop e s) vs))

-- the code of an else's body t, after the instructions d of the if's: the JFALSE before them goes to after a JUMP over
-- it
abbrev pub else_from : ℕ → List Instruction → (ℕ → List Instruction) → List Instruction
else_from at d t =
    JFALSE (at + 1 + length d + 1)
    ∷ d ++ (JUMP (at + 1 + length d + 1 + length (t (at + 1 + length d + 1))) ∷ t (at + 1 + length d + 1))

-- The body of an else, where all fits so far: the JFALSE of its if is instruction k, the first after those of b.
abbrev pub OtherwiseTranslates : ℕ → ℕ → List ℕ → ℕ → EmitState → List ℕ → List ℕ → List ℕ → EmitState → List ℕ → List ℕ
    → List ℕ → Type 0
OtherwiseTranslates left k text n e scope row code r scope' row' code' =
    (ms : Program) → MethodsOf text ms → e.ok ≡ true
    → (us : List Token) (low : ℕ) (b d : List Instruction) (es : List Declared) (σ : Tables) (scopes : Scopes)
    (sc : Scope) → Scoped text scope n sc e → k ≡ σ.count + length b
    → Outcome text low (b ++ (JFALSE 0 ∷ d)) es us σ e.ok e.at (tables_of e n scope row code)
    → Holds (λ t vs. Outcome text (1 + low)
    (b ++ else_from (σ.count + length b) d (λ at. statement_by place_of ms sc (σ.used + length es) at t))
    (es ++ within t) vs σ r.ok r.at (tables_of r n scope' row' code'))
    (body_from left scopes us)
