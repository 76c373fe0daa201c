-- What is known of a text before its table is written: it is refused neither by 30, 31 nor 32, and an earlier pass over
-- it has found how long its methods are and what their rows are, in text order.
use Rattle.std.specs.Prelude.{ℕ, ◌≡◌, List, length, get_or}
use Rattle.std.proofs.Math.Option.{some}
use Rattle.text.specs.Tree.{Method, Program, main_first, method_at}
use Rattle.text.specs.Translation.{method_code, program_code, row_words}
use Rattle.text.specs.Statement.{Translated}
use Rattle.text_parse.specs.Tokens.{Token, tokens_of}
use Rattle.text_parse.specs.Grammar.{read, program_of}
use Rattle.text_put.specs.TableCode.{row_in}

-- the text is ns's, and is given a table
pub record TableText (text : List ℕ) (ns : Program) : Type 0 where
  pub left : List Token
  pub reads : program_of (tokens_of text) ≡ read ns left
  pub kept : Translated (length text) ns

-- the numbers of its methods and instructions, and of each method, by its index in text order, its length and its row
pub record Measures (ns : Program) (methods instructions : ℕ) (lengths rows : List ℕ) : Type 0 where
  pub count : methods ≡ length ns
  pub total : instructions ≡ length (program_code (main_first ns) ns)
  pub long : (i : ℕ) (m : Method) → method_at ns i ≡ some m → get_or lengths i 0 ≡ length (method_code (main_first ns) m)
  pub row : (i : ℕ) (m : Method) → method_at ns i ≡ some m → row_in rows i ≡ row_words m
