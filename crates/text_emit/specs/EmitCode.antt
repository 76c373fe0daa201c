-- The steps of an emission. These definitions follow the code.
use Rattle.std.specs.Prelude.{ℕ, ◌+◌, ◌≤◌, ◌<◌, ◌≡◌, Bool, true, false, List, [], ◌∷◌, ◌++◌, length}
use Rattle.std.proofs.Math.Seq.{slice}
use Rattle.text.specs.Tree.{Name, Declared, Statement, assign, invoke, give, measure, Program, main_first, method_of}
use Rattle.text.specs.Translation.{Instruction, instruction, GET, PUT, DROP, END, Scope, assign_code}
use Rattle.text_parse.specs.Tokens.{Token, tokens_of}
use Rattle.text_parse.specs.Grammar.{Reading, read, and_then, expect, expect_name, Scopes, measured_name, program_of}
use Rattle.text_parse.specs.Equations.{expr_from, arguments_rule, named_statement_rule, simple_rule}
use Rattle.text_tokens.specs.NextCode.{next_at as token_next}
use Rattle.text_scan.proofs.Holding.{Holds}
use Rattle.text_slots.specs.Placing.{Placing}
use Rattle.text_numbering.specs.CodeBy.{number_fits, place_of}
use Rattle.text_code.specs.OutcomeCode.{Tables, Outcome}
use Rattle.text_code.specs.StatementBy.{invoke_by, statement_by}
use Rattle.text_emit.specs.Reached.{EmitState}

-- the tables with the numbers of e
abbrev pub tables_of : EmitState → ℕ → List ℕ → List ℕ → List ℕ → Tables
tables_of e n scope row code =
    record { n = n; used = e.used; count = e.count; scope = scope; row = row; code = code }

abbrev pub passed_by : List ℕ → EmitState → EmitState
passed_by text e = record { ok = e.ok; at = (token_next text e.at).end; used = e.used; count = e.count }

-- What a step that puts instructions makes of any outcome before it. It does not change the place.
abbrev pub Puts : List Instruction → EmitState → List ℕ → EmitState → List ℕ → Type 0
Puts c e code r code' =
    (text : List ℕ) (us : List Token) (n : ℕ) (scope row : List ℕ) (low : ℕ) (b : List Instruction) (es : List Declared)
    (σ : Tables) → Outcome text low b es us σ e.ok e.at (tables_of e n scope row code)
    → Outcome text low (b ++ c) es us σ r.ok r.at (tables_of r n scope row code')

abbrev pub PutsOne : ℕ → ℕ → EmitState → List ℕ → EmitState → List ℕ → Type 0
PutsOne o a e code r code' = number_fits (instruction o a) ≡ true → Puts (instruction o a ∷ []) e code r code'

-- the argument of instruction k, the first after those of b, becomes v
abbrev pub Patches : EmitState → ℕ → ℕ → List ℕ → List ℕ → Type 0
Patches e k v code code' =
    (text : List ℕ) (us : List Token) (n : ℕ) (scope row : List ℕ) (low : ℕ) (b d : List Instruction) (o a : ℕ)
    (es : List Declared) (σ : Tables) → number_fits (instruction o a) ≡ number_fits (instruction o v)
    → (e.ok ≡ true → k ≡ σ.count + length b)
    → Outcome text low (b ++ (instruction o a ∷ d)) es us σ e.ok e.at (tables_of e n scope row code)
    → Outcome text low (b ++ (instruction o v ∷ d)) es us σ e.ok e.at (tables_of e n scope row code')

-- What is made of any outcome before a part of a text that declares nothing: the part is what the rule reads, and c its
-- code.
abbrev pub Emits : {A : Type 0} → (Scopes → List Token → Reading A) → (Scope → A → List Instruction) → List ℕ → List ℕ
    → ℕ → EmitState → List ℕ → EmitState → List ℕ → Type 0
Emits rule c text scope n e code r code' =
    (row : List ℕ) (us : List Token) (low : ℕ) (b : List Instruction) (es : List Declared) (σ : Tables) (scopes :
    Scopes)
    (sc : Scope) → Placing text scope n sc → n ≤ 16
    → Outcome text low b es us σ e.ok e.at (tables_of e n scope row code)
    → Holds (λ a vs. Outcome text (1 + low) (b ++ c sc a) es vs σ r.ok r.at (tables_of r n scope row code'))
    (rule scopes us)

-- the same of a statement that holds no other; its code does not depend on where it stands
abbrev pub StatementEmits : (Scopes → List Token → Reading Statement) → List ℕ → List ℕ → ℕ → EmitState → List ℕ → EmitState
    → List ℕ → Type 0
StatementEmits rule text scope n e code r code' =
    (ms : Program) (i at : ℕ) → Emits rule (λ sc s. statement_by place_of ms sc i at s) text scope n e code r code'

-- and the same where all fits so far, so that the tokens to come are those of the place
abbrev pub StatementFrom : (Scopes → List Token → Reading Statement) → List ℕ → List ℕ → ℕ → EmitState → List ℕ → EmitState
    → List ℕ → Type 0
StatementFrom rule text scope n e code r code' = e.ok ≡ true → StatementEmits rule text scope n e code r code'

-- "return expr ;" and "measurement ;" after their words
unfoldable pub give_rule : Scopes → List Token → Reading Statement
give_rule scopes ts = and_then (expr_from scopes ts) (λ e us. expect ";" us (λ vs. read (give e) vs))

unfoldable pub measure_rule : Scopes → List Token → Reading Statement
measure_rule scopes ts = and_then (measured_name ts) (λ q us. expect ";" us (λ vs. read (measure q) vs))

-- "variableName = expr ;", and "methodCall ;" or "quantumOp ;"
unfoldable pub assign_rule : Scopes → List Token → Reading Statement
assign_rule scopes ts =
    expect_name ts (λ x us. expect "=" us (λ vs.
    and_then (expr_from scopes vs) (λ e ws. expect ";" ws (λ xs. read (assign x e) xs))))

unfoldable pub invoke_rule : Scopes → List Token → Reading Statement
invoke_rule scopes ts =
    expect_name ts (λ x us. expect "(" us (λ vs.
    and_then (arguments_rule scopes vs) (λ es ws. expect ";" ws (λ xs. read (invoke x es) xs))))

-- the two halves of what stores a channel and its ends
abbrev pub ends_first : ℕ → List Instruction
ends_first i = PUT i ∷ END false ∷ PUT (i + 1) ∷ DROP ∷ []

abbrev pub ends_second : ℕ → List Instruction
ends_second i = GET i ∷ END true ∷ PUT (i + 2) ∷ DROP ∷ []

abbrev pub PutsValue : ℕ → Bool → EmitState → List ℕ → EmitState → List ℕ → Type 0
PutsValue slot ends e code r code' = slot < 65536 → Puts (assign_code ends slot) e code r code'

-- the methods of the text, in the table's order
pub record MethodsOf (text : List ℕ) (ms : Program) : Type 0 where
  pub in_text : Program
  pub after : List Token
  pub reading : program_of (tokens_of text) ≡ read in_text after
  pub ordered : ms ≡ main_first in_text

-- the name x, which stands at start up to end, is called or applied as a gate
abbrev pub PutsInvocation : List ℕ → ℕ → ℕ → EmitState → List ℕ → EmitState → List ℕ → Type 0
PutsInvocation text start end e code r code' =
    (ms : Program) (x : Name) → MethodsOf text ms → x.at ≡ start → x.spelling ≡ slice start end text → start ≤ end
    → end ≤ length text → Puts (invoke_by place_of x (method_of ms x)) e code r code'

abbrev pub InvokeFrom : List ℕ → List ℕ → ℕ → EmitState → List ℕ → EmitState → List ℕ → Type 0
InvokeFrom text scope n e code r code' =
    e.ok ≡ true → (ms : Program) → MethodsOf text ms → (i at : ℕ)
    → Emits invoke_rule (λ sc s. statement_by place_of ms sc i at s) text scope n e code r code'

-- a statement that starts with a name
unfoldable pub name_rule : Scopes → List Token → Reading Statement
name_rule scopes ts = expect_name ts (λ x us. named_statement_rule scopes x us)

abbrev pub NamedEmits : List ℕ → List ℕ → ℕ → EmitState → List ℕ → EmitState → List ℕ → Type 0
NamedEmits text scope n e code r code' =
    (ms : Program) → MethodsOf text ms → e.ok ≡ true → (i at : ℕ)
    → Emits name_rule (λ sc s. statement_by place_of ms sc i at s) text scope n e code r code'

-- any statement that holds no other
abbrev pub SimpleEmits : List ℕ → List ℕ → ℕ → EmitState → List ℕ → EmitState → List ℕ → Type 0
SimpleEmits text scope n e code r code' =
    (ms : Program) → MethodsOf text ms → e.ok ≡ true → (i at : ℕ)
    → Emits simple_rule (λ sc s. statement_by place_of ms sc i at s) text scope n e code r code'

-- where all fits so far, these variables are in scope, each with a slot of its own
abbrev pub Scoped : List ℕ → List ℕ → ℕ → Scope → EmitState → Type 0
Scoped text scope n sc e = e.ok ≡ true → Placing text scope n sc × (n ≤ e.used)

-- What is made of any outcome before a part of a text that may declare variables: the part is what the rule reads, c
-- its code from a slot and an instruction on, and ds what it declares.
abbrev pub Translates : {A : Type 0} → (Scopes → List Token → Reading A) → (Scope → ℕ → ℕ → A → List Instruction)
    → (A → List Declared) → List ℕ → ℕ → EmitState → List ℕ → List ℕ → List ℕ → EmitState → List ℕ → List ℕ → List ℕ → Type 0
Translates rule c ds text n e scope row code r scope' row' code' =
    (us : List Token) (low : ℕ) (b : List Instruction) (es : List Declared) (σ : Tables) (scopes : Scopes) (sc : Scope)
    → Scoped text scope n sc e → Outcome text low b es us σ e.ok e.at (tables_of e n scope row code)
    → Holds (λ a vs. Outcome text (1 + low) (b ++ c sc (σ.used + length es) (σ.count + length b) a) (es ++ ds a) vs σ
    r.ok r.at (tables_of r n scope' row' code'))
    (rule scopes us)
