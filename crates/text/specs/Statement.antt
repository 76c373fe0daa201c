-- What is claimed of a text's table: it passes questions 1 to 5, and its run has the lines, counts and end of the
-- text's meaning, for every schedule, outcome list and trace.
use Rattle.std.specs.Prelude.{ℕ, ◌≡◌, List}
use Rattle.std.proofs.Math.Option.{none}
use Rattle.text.specs.Tree.{Program, main_first}
use Rattle.text.specs.Translation.{program_table}
use Rattle.text.specs.Names.{name_refusal}
use Rattle.text.specs.Limits.{limit_refusal}

-- the tree of a text of so many bytes is refused neither by 31 nor by 32
pub record Translated (bytes : ℕ) (ms : Program) : Type 0 where
  pub names : name_refusal bytes ms ≡ none
  pub limits : limit_refusal ms ≡ none

-- the table that is given out
unfoldable pub text_table : Program → List ℕ
text_table ms = program_table (main_first ms)
