-- What is asked of the code of an expression, and of the arguments of a call, in a lent buffer: instruction k stands at
-- words 2 k and 2 k + 1.
use Rattle.std.specs.Prelude.{ℕ, ◌+◌, ◌*◌, ◌≤◌, ◌<◌, ◌≡◌, Bool, true, false, ◌&&◌, List, leb, length, Result, Ok, Err}
use Rattle.lists.specs.Lists.{every, put_from}
use Rattle.text.specs.Tree.{Expr, Exprs}
use Rattle.text.specs.Translation.{Instruction, code_words, Scope}
use Rattle.text.specs.Limits.{expr_numbers, exprs_numbers, is_number}
use Rattle.text_parse.specs.Tokens.{Token}
use Rattle.text_parse.specs.Grammar.{read, Scopes}
use Rattle.text_parse.specs.Equations.{expr_from, method_params_from, arguments_rule}
use Rattle.text_tokens.specs.Places.{tokens_at}
use Rattle.text_slots.specs.Placing.{Placing}
use Rattle.text_numbering.specs.CodeBy.{code_by, arguments_by, place_of}
use Rattle.text_emit_expr.specs.declared.expression.EmitAt.{EmitAt}
use Rattle.text_emit_expr.specs.declared.expression.Unfit.{Unfit}

-- What an answer says: whether the code fits, the place after what is read of it, and the instructions in the buffer.
pub record Said : Type 0 where
  pub ok : Bool
  pub at : ℕ
  pub count : ℕ

abbrev pub said : Result EmitAt Unfit → Said
said (Ok r) = record { ok = true; at = r.at; count = r.count }
said (Err e) = record { ok = false; at = e.at; count = e.count }

-- whether the code fits or not, the place is in the text, not before `from`, and no more instructions are in the buffer
-- than a table has
abbrev pub EndsWithin : List ℕ → ℕ → Result EmitAt Unfit → Type 0
EndsWithin text from (Ok r) = (from ≤ r.at) × (r.at ≤ length text) × (r.count ≤ 4096)
EndsWithin text from (Err e) = (from ≤ e.at) × (e.at ≤ length text) × (e.count ≤ 4096)

-- The code c with these numbers is emitted: ok says that it fits the 4096 instructions of a table and that no number is
-- above 32767. Then the text is read up to the answer's place, and the code stands in the buffer from instruction
-- `count` on.
pub record Emitted (text : List ℕ) (from : ℕ) (code : List ℕ) (count : ℕ) (c : List Instruction) (numbers : List ℕ)
    (us : List Token) (code' : List ℕ) (r : Said) : Type 0 where
  pub judged : r.ok ≡ (leb (count + length c) 4096 && every is_number numbers)
  pub left : r.ok ≡ true → us ≡ tokens_at text r.at
  pub onward : r.ok ≡ true → from < r.at
  pub inside : r.ok ≡ true → r.at ≤ length text
  pub counted : r.ok ≡ true → r.count ≡ count + length c
  pub written : r.ok ≡ true → code' ≡ put_from code (2 * count) (code_words c)

-- Where the text has an expression at `from`. A call's argument is the place of the called name; crate text's code has
-- the method's number there (`resolved` in specs/CodeBy.antt puts it in).
abbrev pub ExpressionEmitted : List ℕ → List ℕ → ℕ → ℕ → List ℕ → ℕ → List ℕ → Said → Type 0
ExpressionEmitted text scope n from code count code' r =
    n ≤ 16 → (scopes : Scopes) (sc : Scope) → Placing text scope n sc → (e : Expr) (us : List Token)
    → expr_from scopes (tokens_at text from) ≡ read e us
    → Emitted text from code count (code_by place_of sc e) (expr_numbers e) us code' r

-- Where it has the arguments of a call, after their opening bracket.
abbrev pub ArgumentsEmitted : List ℕ → List ℕ → ℕ → ℕ → List ℕ → ℕ → List ℕ → Said → Type 0
ArgumentsEmitted text scope n from code count code' r =
    n ≤ 16 → (scopes : Scopes) (sc : Scope) → Placing text scope n sc → (es : Exprs) (us : List Token)
    → arguments_rule scopes (tokens_at text from) ≡ read es us
    → Emitted text from code count (arguments_by place_of sc es) (exprs_numbers es) us code' r

-- The same where there is an argument at least.
abbrev pub ParametersEmitted : List ℕ → List ℕ → ℕ → ℕ → List ℕ → ℕ → List ℕ → Said → Type 0
ParametersEmitted text scope n from code count code' r =
    n ≤ 16 → (scopes : Scopes) (sc : Scope) → Placing text scope n sc → (es : Exprs) (us : List Token)
    → method_params_from scopes (tokens_at text from) ≡ read es us
    → Emitted text from code count (arguments_by place_of sc es) (exprs_numbers es) us code' r
