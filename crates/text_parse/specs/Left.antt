-- What a reading leaves of its tokens: a tail of them, shorter by those that it has read, which have bytes. So the
-- token that ends a text is never read.
use Rattle.std.specs.Prelude.{ℕ, ◌≤◌, ◌<◌, ◌≡◌, List, [], ◌∷◌, length}
use Rattle.std.proofs.Math.Option.{Option}
use Rattle.text.specs.Tree.{Name, NonVoidType, Expr, Declaration, Parameter}
use Rattle.text_parse.specs.Tokens.{Token, tokens_of}
use Rattle.text_parse.specs.Grammar.{Reading, read, leaves, non_void_type, return_type, Scopes, operator_at, expr, operands, indiv_expr, named, arguments, method_params, more_names, declaration, declarations, simple, condition, statement, body, unbraced, block_of, statements, parameter, more_parameters, parameters, method_body, method, program, program_of}

-- if the reading comes to a tree, P holds of the tokens after it
pub data Leaving (P : List Token → Type 0) {A : Type 0} : Reading A → Type 0 where
  leaving : {a : A} {ts : List Token} → P ts → Leaving P (read a ts)
  not-read : {i : ℕ} → Leaving P (leaves i)

-- there is at least one byte
abbrev pub HasBytes : List ℕ → Type 0
HasBytes [] = ⊥
HasBytes (b ∷ bs) = Unit {0}

-- fewer tokens than these, and not more
abbrev pub Fewer : List Token → List Token → Type 0
Fewer ts us = length us < length ts

abbrev pub NotMore : List Token → List Token → Type 0
NotMore ts us = length us ≤ length ts

-- the tokens left, once some tokens that have bytes, or none, are taken from the front
pub data Tail : List Token → List Token → Type 0 where
  whole : {ts : List Token} → Tail ts ts
  after : {t : Token} {ts us : List Token} → HasBytes t.bytes → Tail ts us → Tail (t ∷ ts) us

-- the last token has no bytes: it ends the text
abbrev pub Ended : List Token → Type 0
Ended [] = ⊥
Ended (t ∷ []) = t.bytes ≡ []
Ended (t ∷ u ∷ ts) = Ended (u ∷ ts)

-- the token that ends a text, at its length in bytes
abbrev pub end_token : List ℕ → Token
end_token text = record { bytes = []; at = length text }

-- what is left of ts once some tokens are read, or none
pub record Within (ts us : List Token) : Type 0 where
  pub not_more : NotMore ts us
  pub tail : Tail ts us
  pub ended : Ended ts → Ended us

-- and once at least one token is read
pub record Onward (ts us : List Token) : Type 0 where
  pub fewer : Fewer ts us
  pub tail : Tail ts us
  pub ended : Ended ts → Ended us

-- A reading that comes to a tree has read at least one token. The exceptions are what follows an expression or a name,
-- and declarations: there may be none.
pub record Progress : Type 0 where
  pub non_void_type-on : (ts : List Token) → Leaving (Onward ts) (non_void_type ts)
  pub return_type-on : (ts : List Token) → Leaving (Onward ts) (return_type ts)
  pub expr-on : (n : ℕ) (scopes : Scopes) (ts : List Token) → Leaving (Onward ts) (expr n scopes ts)
  pub operands-on : (n : ℕ) (scopes : Scopes) (e : Expr) (ts : List Token)
      → Leaving (Within ts) (operands n scopes e (operator_at ts) ts)
  pub indiv_expr-on : (n : ℕ) (scopes : Scopes) (ts : List Token) → Leaving (Onward ts) (indiv_expr n scopes ts)
  pub named-on : (n : ℕ) (scopes : Scopes) (x : Name) (ts : List Token) → Leaving (Within ts) (named n scopes x ts)
  pub arguments-on : (n : ℕ) (scopes : Scopes) (ts : List Token) → Leaving (Onward ts) (arguments n scopes ts)
  pub method_params-on : (n : ℕ) (scopes : Scopes) (ts : List Token) → Leaving (Onward ts) (method_params n scopes ts)
  pub more_names-on : (n : ℕ) (t : NonVoidType) (xs : List Name) (ts : List Token)
      → Leaving (Onward ts) (more_names n t xs ts)
  pub declaration-on : (n : ℕ) (ts : List Token) → Leaving (Onward ts) (declaration n ts)
  pub declarations-on : (n : ℕ) (ds : List Declaration) (ts : List Token) → Leaving (Within ts) (declarations n ds ts)
  pub simple-on : (n : ℕ) (scopes : Scopes) (ts : List Token) → Leaving (Onward ts) (simple n scopes ts)
  pub condition-on : (n : ℕ) (scopes : Scopes) (ts : List Token) → Leaving (Onward ts) (condition n scopes ts)
  pub statement-on : (n left : ℕ) (scopes : Scopes) (ts : List Token) → Leaving (Onward ts) (statement n left scopes ts)
  pub body-on : (n left : ℕ) (scopes : Scopes) (ts : List Token) → Leaving (Onward ts) (body n left scopes ts)
  pub unbraced-on : (n left : ℕ) (scopes : Scopes) (ts : List Token) → Leaving (Onward ts) (unbraced n left scopes ts)
  pub block_of-on : (n left : ℕ) (scopes : Scopes) (ts : List Token) → Leaving (Onward ts) (block_of n left scopes ts)
  pub statements-on : (n left : ℕ) (scopes : Scopes) (ts : List Token)
      → Leaving (Onward ts) (statements n left scopes ts)
  pub parameter-on : (ts : List Token) → Leaving (Onward ts) (parameter ts)
  pub more_parameters-on : (n : ℕ) (ps : List Parameter) (ts : List Token)
      → Leaving (Onward ts) (more_parameters n ps ts)
  pub parameters-on : (n : ℕ) (ts : List Token) → Leaving (Onward ts) (parameters n ts)
  pub method_body-on : (n : ℕ) (t : Option NonVoidType) (x : Name) (ps : List Parameter) (ts : List Token)
      → Leaving (Onward ts) (method_body n t x ps ts)
  pub method-on : (n : ℕ) (ts : List Token) → Leaving (Onward ts) (method n ts)
  pub methods-on : (n : ℕ) (ts : List Token) → Leaving (Onward ts) (program n ts)
  pub program_of-on : (ts : List Token) → Leaving (Onward ts) (program_of ts)

-- The tokens of a text end with one that has no bytes, and where they come to a tree, it is all that is left of them.
pub record WholeText : Type 0 where
  pub text-ended : (text : List ℕ) → Ended (tokens_of text)
  pub all_read : (text : List ℕ) → Leaving (λ us. us ≡ end_token text ∷ []) (program_of (tokens_of text))
