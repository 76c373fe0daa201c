-- The next token by its places and its kind. These definitions follow the code.
use Rattle.std.specs.Prelude.{ℕ, ◌≤◌, ◌<◌, ◌≡◌, List, ◌∷◌, length}
use Rattle.text_tokens.specs.Places.{tokens_at, token_of, tokens_after}
use Rattle.text_tokens.specs.PlacesCode.{start_at, end_at}
use Rattle.text_tokens.specs.KindsCode.{kind_of}
use Rattle.text_tokens.specs.declared.next.TokenAt.{TokenAt}

abbrev pub placed : List ℕ → ℕ → ℕ → TokenAt
placed text start end = record { start = start; end = end; kind = kind_of (token_of text start end).bytes }

unfoldable pub next_at : List ℕ → ℕ → TokenAt
next_at text i = placed text (start_at text i) (end_at text (start_at text i))

-- What the next token from a place on is
pub record NextToken (text : List ℕ) (i : ℕ) (t : TokenAt) : Type 0 where
  -- it is the first token, and these come after it
  pub reads : tokens_at text i ≡ token_of text t.start t.end ∷ tokens_after text t.start t.end
  pub kind : t.kind ≡ kind_of (token_of text t.start t.end).bytes
  -- a token has bytes, but for the one that ends the text
  pub starts : i ≤ t.start
  pub ends : t.start ≤ t.end
  pub onward : t.start < length text → t.start < t.end
  pub within : i ≤ length text → t.end ≤ length text
  pub same : t ≡ next_at text i
