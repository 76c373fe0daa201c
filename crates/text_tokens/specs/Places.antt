-- The tokens of a text from a byte on, and the token that stands between two places.
use Rattle.std.specs.Prelude.{ℕ, cond, List, [], ltb, length, take, drop}
use Rattle.text_parse.specs.Tokens.{Token, tokens_from}

-- no token is begun at i
unfoldable pub tokens_at : List ℕ → ℕ → List Token
tokens_at text i = tokens_from [] i i (drop i text)

-- the bytes from start up to end
abbrev pub token_of : List ℕ → ℕ → ℕ → Token
token_of text start end = record { bytes = drop start (take end text); at = start }

-- the tokens after it: none, where it ends the text
unfoldable pub tokens_after : List ℕ → ℕ → ℕ → List Token
tokens_after text start end = cond (ltb start (length text)) (tokens_at text end) []
