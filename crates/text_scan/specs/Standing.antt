-- The methods of a text stand one after another in its tokens.
use Rattle.std.specs.Prelude.{◌≡◌, List, [], ◌∷◌}
use Rattle.text.specs.Tree.{Method, Program}
use Rattle.text_parse.specs.Tokens.{Token}
use Rattle.text_parse.specs.Grammar.{read}
use Rattle.text_parse.specs.Equations.{method_from}

-- the methods from ts on, with the tokens before which each ends
pub data Stand : List Token → Program → List (List Token) → Type 0 where
  none-stand : {ts : List Token} → Stand ts [] []
  stand : {ts us : List Token} {m : Method} {ms : Program} {uss : List (List Token)} → method_from ts ≡ read m us
      → Stand us ms uss → Stand ts (m ∷ ms) (us ∷ uss)
