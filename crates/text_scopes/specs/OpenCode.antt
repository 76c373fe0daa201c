-- The blocks that are open around a place of a text, by the places at which their declarations begin. These definitions
-- follow the code.
use Rattle.std.specs.Prelude.{ℕ, suc, ◌≡◌, true, List, [], ◌∷◌, ◌++◌, map, get_or}
use Rattle.text.specs.Tree.{Declaration, Declared, declared_by, Parameter, parameter_of}
use Rattle.text_parse.specs.Tokens.{Token}
use Rattle.text_parse.specs.Grammar.{read, rest, next?, Scopes}
use Rattle.text_parse.specs.Equations.{declarations_from, parameters_rule}
use Rattle.text_tokens.specs.Places.{tokens_at}

-- the declarations that begin at place i declare ds
pub record BlockAt (text : List ℕ) (i : ℕ) (ds : List Declared) : Type 0 where
  pub list : List Declaration
  pub after : List Token
  pub reading : declarations_from [] (tokens_at text i) ≡ read list after
  pub declares : ds ≡ declared_by list

-- the parameters that begin at place i, after their opening bracket, and the declarations of the body after them,
-- declare ds: "parameters stand in the body's block"
pub record BodyAt (text : List ℕ) (i : ℕ) (ds : List Declared) : Type 0 where
  pub ps : List Parameter
  pub between : List Token
  pub list : List Declaration
  pub after : List Token
  pub header : parameters_rule (tokens_at text i) ≡ read ps between
  pub brace : next? "{" between ≡ true
  pub reading : declarations_from [] (rest between) ≡ read list after
  pub declares : ds ≡ map parameter_of ps ++ declared_by list

-- n blocks are open, with these scopes, the innermost first; `starts` has their places, the outermost first
pub data Opened (text starts : List ℕ) : ℕ → Scopes → Type 0 where
  method-body : {ds : List Declared} → BodyAt text (get_or starts 0 0) ds → Opened text starts 1 (ds ∷ [])
  inner_block : {n : ℕ} {ds : List Declared} {scopes : Scopes} → Opened text starts (suc n) scopes
      → BlockAt text (get_or starts (suc n) 0) ds → Opened text starts (suc (suc n)) (ds ∷ scopes)
