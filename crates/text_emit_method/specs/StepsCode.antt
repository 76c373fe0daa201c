-- The parts of a method one after the other: its header, its body, and its end. These definitions follow the code.
use Rattle.std.specs.Prelude.{ℕ, ◌+◌, ◌≤◌, ◌<◌, ◌≡◌, ◌⊎◌, Bool, true, false, List, [], ◌∷◌, ◌++◌, map, length, set, replicate}
use Rattle.std.proofs.Math.Option.{Option, none, some}
use Rattle.std.proofs.Math.Seq.{slice}
use Rattle.lists.specs.Lists.{every, put_from}
use Rattle.text.specs.Tree.{Name, NonVoidType, Declared, Parameter, parameter_of, Method, Program, body_variables}
use Rattle.text.specs.Translation.{Instruction, code_words, type_code, return_code, opened, variables_of, closing, hole_type}
use Rattle.text_parse.specs.Tokens.{Token}
use Rattle.text_parse.specs.Grammar.{Reading, read, and_then, expect, expect_name, return_type}
use Rattle.text_parse.specs.Equations.{parameters_rule, method_body_rule}
use Rattle.text_tokens.specs.Places.{tokens_at}
use Rattle.text_scan.proofs.Holding.{Holds}
use Rattle.text_declare.specs.Entered.{tables, typed, Entered, Entering}
use Rattle.text_numbering.specs.CodeBy.{number_fits, place_of}
use Rattle.text_code.specs.StatementBy.{statements_by}
use Rattle.text_code.specs.OutcomeCode.{Tables, Outcome}
use Rattle.text_emit.specs.Reached.{EmitState}
use Rattle.text_emit.specs.EmitCode.{tables_of, MethodsOf}

-- "methodHeader ::= type methodName ( methodDeclParamList? )"
pub record Header : Type 0 where
  pub returns : Option NonVoidType
  pub name : Name
  pub parameters : List Parameter

unfoldable pub header_rule : List Token → Reading Header
header_rule ts =
    and_then (return_type ts) (λ t us. expect_name us (λ x vs. expect "(" vs (λ ws.
    and_then (parameters_rule ws) (λ ps xs. read (record { returns = t; name = x; parameters = ps }) xs))))

-- a row without slot types
unfoldable pub empty_row : ℕ → ℕ → List ℕ
empty_row code count = code ∷ count ∷ replicate 16 0

-- The header h is read, and its parameters are entered into empty tables, the row with the return type and their count.
pub record HeaderEntered (text : List ℕ) (from : ℕ) (scope : List ℕ) (ok : Bool) (at start end code n : ℕ)
    (scope' row' : List ℕ) (h : Header) (us : List Token) : Type 0 where
  pub place : start ≡ h.name.at
  pub spelt : h.name.spelling ≡ slice start end text
  pub type : code ≡ return_code h.returns
  pub left : ok ≡ true → us ≡ tokens_at text at
  pub onward : ok ≡ true → (from < at) × (at ≤ length text)
  pub entering : Entering text (map parameter_of h.parameters)
      (tables scope 0 (empty_row code (length h.parameters)) 0) ok (tables scope' n row' n)

abbrev pub HeaderEnters : List ℕ → ℕ → List ℕ → Bool → ℕ → ℕ → ℕ → ℕ → ℕ → List ℕ → List ℕ → Type 0
HeaderEnters text from scope ok at start end code n scope' row' =
    length scope ≡ 64
    → Holds (HeaderEntered text from scope ok at start end code n scope' row') (header_rule (tokens_at text from))

-- a method with this header
pub record Heads (h : Header) (m : Method) : Type 0 where
  pub returns : m.returns ≡ h.returns
  pub name : m.name ≡ h.name
  pub parameters : m.parameters ≡ h.parameters

-- the code of its body, without its end
unfoldable pub body_by : Program → Method → List Instruction
body_by ms m =
    statements_by place_of ms (opened (body_variables m) 0 []) (length (body_variables m)) 0 m.statements

-- the tables before a method, with its row before its slots are given out
abbrev pub before : List ℕ → List ℕ → Tables
before row code = record { n = 0; used = 0; count = 0; scope = []; row = row; code = code }

-- After the header: what the block declares is entered, and the code of its statements is written.
abbrev pub BodyTranslates : List ℕ → ℕ → ℕ → List ℕ → List ℕ → List ℕ → EmitState → List ℕ → List ℕ → List ℕ → Type 0
BodyTranslates text from n scope row code r scope' row' code' =
    (ms : Program) → MethodsOf text ms → (h : Header) (scope₀ row₀ : List ℕ)
    → Entered text (map parameter_of h.parameters) (tables scope₀ 0 row₀ 0) (tables scope n row n)
    → Holds (λ m vs. Heads h m × Outcome text (1 + from) (body_by ms m) (variables_of m) vs (before row₀ code) r.ok
    r.at (tables_of r 0 scope' row' code'))
    (method_body_rule h.returns h.name h.parameters (tokens_at text from))

-- the row with the type of the slot that is never filled, after k slots
unfoldable pub with_hole : Option NonVoidType → ℕ → List ℕ → List ℕ
with_hole none k row = row
with_hole (some t) k row = set row (2 + k) (type_code t)

-- the code c, and what ends a method of this return type with the variables vs
abbrev pub ended : List Instruction → Option NonVoidType → List Declared → List Instruction
ended c t vs = c ++ closing t (length vs)

pub record AllEnded (text : List ℕ) (low : ℕ) (c : List Instruction) (vs : List Declared) (us : List Token)
    (t : Option NonVoidType) (row₀ code₀ : List ℕ) (at count : ℕ) (row' code' : List ℕ) : Type 0 where
  pub further : low ≤ at
  pub inside : at ≤ length text
  pub left : us ≡ tokens_at text at
  pub numbers : every number_fits c ≡ true
  pub counted : count ≡ length (ended c t vs)
  pub few : count ≤ 4096
  pub slots : length vs + length (hole_type t) ≤ 16
  pub types : row' ≡ with_hole t (length vs) (typed 0 vs row₀)
  pub words : code' ≡ put_from code₀ 0 (code_words (ended c t vs))

abbrev pub TooMuch : List Instruction → Option NonVoidType → List Declared → Type 0
TooMuch c t vs =
    (4096 < length (ended c t vs)) ⊎ ((every number_fits c ≡ false) ⊎ (16 < length vs + length (hole_type t)))

pub data Ending (text : List ℕ) (low : ℕ) (c : List Instruction) (vs : List Declared) (us : List Token)
    (t : Option NonVoidType) (row₀ code₀ : List ℕ) (r : EmitState) (row' code' : List ℕ) : Type 0 where
  all-ended : r.ok ≡ true → AllEnded text low c vs us t row₀ code₀ r.at r.count row' code'
      → Ending text low c vs us t row₀ code₀ r row' code'
  too_much : r.ok ≡ false → TooMuch c t vs → Ending text low c vs us t row₀ code₀ r row' code'

-- What the end of a method of the return type of this code makes of any outcome before it.
abbrev pub Ends : ℕ → EmitState → List ℕ → List ℕ → EmitState → List ℕ → List ℕ → Type 0
Ends type e row code r row' code' =
    (text : List ℕ) (us : List Token) (low : ℕ) (c : List Instruction) (vs : List Declared) (t : Option NonVoidType)
    (scope row₀ code₀ : List ℕ) → type ≡ return_code t
    → Outcome text low c vs us (before row₀ code₀) e.ok e.at (tables_of e 0 scope row code)
    → Ending text low c vs us t row₀ code₀ r row' code'
