-- The parts of an answer of a reading by places: the place up to which the text is read or, where it is refused, at
-- which it leaves the grammar; and what is said beside it, 0 where the text is refused.
use Rattle.std.specs.Prelude.{ℕ, Option, Some, None, Result, Ok, Err}
use Rattle.text_types.specs.declared.place.GrammarError.{GrammarError}
use Rattle.text_types.specs.declared.types.TypeAt.{TypeAt}
use Rattle.text_types.specs.declared.found.FoundAt.{FoundAt}
use Rattle.text_types.specs.declared.found.NotAName.{NotAName}
use Rattle.text_types.specs.declared.found.DeclaredAs.{DeclaredAs}
use Rattle.text_types.specs.declared.found.DeclaredAs.TheVariants.{Variable, WithEnds}

abbrev pub place_at : Result ℕ GrammarError → ℕ
place_at (Ok at) = at
place_at (Err e) = e.at

abbrev pub type_place : Result TypeAt GrammarError → ℕ
type_place (Ok t) = t.at
type_place (Err e) = e.at

abbrev pub type_code_in : Result TypeAt GrammarError → ℕ
type_code_in (Ok t) = t.code
type_code_in (Err e) = 0

-- what a name is declared as, by the number that the definitions have for it
abbrev pub declared_number : Option DeclaredAs → ℕ
declared_number None = 0
declared_number (Some Variable) = 1
declared_number (Some WithEnds) = 2

-- of a name that must stand at a place; what is found is said where none stands, too
abbrev pub name_place : Result FoundAt NotAName → ℕ
name_place (Ok d) = d.at
name_place (Err e) = e.at

abbrev pub name_found : Result FoundAt NotAName → ℕ
name_found (Ok d) = declared_number d.found
name_found (Err e) = declared_number e.found

abbrev pub found_place : Result FoundAt GrammarError → ℕ
found_place (Ok d) = d.at
found_place (Err e) = e.at

abbrev pub found_of : Result FoundAt GrammarError → ℕ
found_of (Ok d) = declared_number d.found
found_of (Err e) = 0
