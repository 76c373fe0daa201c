-- What a text comes to: "30 when the text leaves the grammar or the nesting, 31 .., 32 ..: all before question 1, in
-- this order, each at its lowest byte index", or its program table.
use Rattle.std.specs.Prelude.{ℕ, List, length}
use Rattle.std.proofs.Math.Option.{Option, none, some}
use Rattle.text.specs.Tree.{Program}
use Rattle.text.specs.Names.{name_refusal}
use Rattle.text.specs.Limits.{limit_refusal}
use Rattle.text.specs.Statement.{text_table}
use Rattle.text_parse.specs.Tokens.{tokens_of}
use Rattle.text_parse.specs.Grammar.{Reading, read, leaves, program_of}

pub data Text : Type 0 where
  refused_text : ℕ → ℕ → Text
  -- the tree of a text that is not refused
  translated_text : Program → Text

unfoldable pub or_else_refused : ℕ → Option ℕ → Text → Text
or_else_refused number none t = t
or_else_refused number (some place) t = refused_text number place

unfoldable pub text_from : ℕ → Reading Program → Text
text_from bytes (leaves place) = refused_text 30 place
text_from bytes (read ms ts) =
    or_else_refused 31 (name_refusal bytes ms) (or_else_refused 32 (limit_refusal ms) (translated_text ms))

-- what the bytes of a text come to
unfoldable pub text_of : List ℕ → Text
text_of text = text_from (length text) (program_of (tokens_of text))
