-- What is answered of a method in a text of the grammar: it is the first of its name, and its tokens stand from a place
-- on.
use Rattle.std.specs.Prelude.{ℕ, ◌≡◌, List, length}
use Rattle.std.specs.Prelude as P
use Rattle.std.proofs.Math.Option.{none, some}
use Rattle.text.specs.Tree.{Name, Method, Program, main_first, method_of, number_of}
use Rattle.text_parse.specs.Tokens.{Token, tokens_of}
use Rattle.text_parse.specs.Grammar.{read, program_of}
use Rattle.text_parse.specs.Equations.{method_from}
use Rattle.text_tokens.specs.Places.{tokens_at}
use Rattle.text_methods.specs.declared.find.MethodAt.{MethodAt}
use Rattle.text_methods.specs.declared.find.NoSuchMethod.{NoSuchMethod}

-- whether there is a method of the name x; its index in text order, a place from which on its tokens stand, and how
-- many parameters it has; where there is none, how many methods there are
pub data MethodSays (text : List ℕ) (ms : Program) (x : Name) : P.Result MethodAt NoSuchMethod → Type 0 where
  stands : (m : Method) (us : List Token) {a : MethodAt} → method_of (main_first ms) x ≡ some m
      → method_from (tokens_at text a.at) ≡ read m us → a.params ≡ length m.parameters → a.index ≡ number_of ms x
      → MethodSays text ms x (P.Ok a)
  absent : {n : NoSuchMethod} → method_of (main_first ms) x ≡ none → n.methods ≡ length ms
      → MethodSays text ms x (P.Err n)

-- the name is given by its bytes
abbrev pub MethodOf : List ℕ → List ℕ → P.Result MethodAt NoSuchMethod → Type 0
MethodOf text x r =
    (ms : Program) (us : List Token) (p : ℕ) → program_of (tokens_of text) ≡ read ms us
    → MethodSays text ms (record { spelling = x; at = p }) r

abbrev pub MethodCount : List ℕ → ℕ → Type 0
MethodCount text n = (ms : Program) (us : List Token) → program_of (tokens_of text) ≡ read ms us → n ≡ length ms
