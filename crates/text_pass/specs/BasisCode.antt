-- The name of the basis at a place. This follows the code.
use Rattle.std.specs.Prelude.{ℕ, ◌≡◌, Bool, true, false, List}
use Rattle.text_parse.specs.Tokens.{is}
use Rattle.text_parse.specs.Grammar.{first}
use Rattle.text_tokens.specs.Places.{tokens_at}
use Rattle.text_types.specs.SaysCode.{next_at, Passed}

-- StdBasis stands at i, and is read up to a place; or the text leaves the grammar there
pub data BasisHere (text : List ℕ) (i : ℕ) (ok : Bool) (at : ℕ) : Type 0 where
  basis : ok ≡ true → is "StdBasis" (first (tokens_at text i)) ≡ true → Passed text i at → BasisHere text i ok at
  other : ok ≡ false → is "StdBasis" (first (tokens_at text i)) ≡ false → at ≡ next_at text i → BasisHere text i ok at
