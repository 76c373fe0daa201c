-- What is asked of the parts of an expression that hold no other, where the text is in the grammar. This follows the
-- code.
use Rattle.std.specs.Prelude.{ℕ, ◌≤◌, ◌<◌, ◌≡◌, List, [], ◌∷◌, length}
use Rattle.std.proofs.Math.Seq.{slice}
use Rattle.text.specs.Tree.{Name, Expr}
use Rattle.text.specs.Translation.{instruction, Scope}
use Rattle.text_parse.specs.Tokens.{Token}
use Rattle.text_parse.specs.Grammar.{read, allocated, allocation, measured_name}
use Rattle.text_tokens.specs.Places.{tokens_at}
use Rattle.text_numbering.specs.CodeBy.{code_by, place_of}

-- the text is read from one place up to another, before the tokens us
pub record UpTo (text : List ℕ) (from at : ℕ) (us : List Token) : Type 0 where
  pub left : us ≡ tokens_at text at
  pub onward : from < at
  pub inside : at ≤ length text

-- a place that is reached from another, in the grammar or not
abbrev pub Reach : List ℕ → ℕ → ℕ → Type 0
Reach text from at = from ≤ length text → (from ≤ at) × (at ≤ length text)

-- "( StdBasis , variableName )" after measure: the name stands at start up to end
abbrev pub MeasuredUpTo : List ℕ → ℕ → ℕ → ℕ → ℕ → Type 0
MeasuredUpTo text from start end at =
    (q : Name) (us : List Token) → measured_name (tokens_at text from) ≡ read q us
    → UpTo text from at us × (q.spelling ≡ slice start end text)

-- "( )" after new T
abbrev pub BracketsUpTo : List ℕ → ℕ → ℕ → Type 0
BracketsUpTo text from at =
    (e x : Expr) (us : List Token) → allocated e (tokens_at text from) ≡ read x us → UpTo text from at us × (x ≡ e)

-- "nonDupType ( )" after new, with its instruction
abbrev pub AllocatedUpTo : List ℕ → ℕ → ℕ → ℕ → ℕ → Type 0
AllocatedUpTo text from op argument at =
    (e : Expr) (us : List Token) → allocation (tokens_at text from) ≡ read e us
    → UpTo text from at us × ((sc : Scope) → code_by place_of sc e ≡ instruction op argument ∷ [])
