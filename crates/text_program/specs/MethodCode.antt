-- The header of a method up to its opening bracket. These definitions follow the code.
use Rattle.std.specs.Prelude.{ℕ, suc, Bool, List}
use Rattle.std.proofs.Math.Option.{Option}
use Rattle.text.specs.Tree.{Name, NonVoidType}
use Rattle.text_parse.specs.Tokens.{Token}
use Rattle.text_parse.specs.Grammar.{Reading, read, and_then, expect, expect_name, return_type}
use Rattle.text_tokens.specs.Places.{tokens_at}
use Rattle.text_statements.specs.WithinCode.{Reads}

-- its type and its name
pub record Header : Type 0 where
  pub returns : Option NonVoidType
  pub name : Name

unfoldable pub header_of : List Token → Reading Header
header_of ts =
    and_then (return_type ts) (λ t us. expect_name us (λ x vs.
    expect "(" vs (λ ws. read (record { returns = t; name = x }) ws)))

abbrev pub HeaderEnd : List ℕ → ℕ → Bool → ℕ → Type 0
HeaderEnd text i ok at = Reads text (suc i) ok at (header_of (tokens_at text i))
