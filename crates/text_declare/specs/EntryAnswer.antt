-- The parts of an answer of a reading that enters what is declared: the places, and how the tables stand after it. Where
-- it is refused nothing is said of the tables.
use Rattle.std.specs.Prelude.{ℕ, List, Result, Ok, Err}
use Rattle.text_types.specs.declared.place.GrammarError.{GrammarError}
use Rattle.text_declare.specs.declared.entry.NameAt.{NameAt}
use Rattle.text_declare.specs.declared.entry.EnteredAt.{EnteredAt}
use Rattle.text_declare.specs.declared.entry.EntryError.{EntryError}
use Rattle.text_declare.specs.declared.entry.EntryError.TheVariants.{Grammar, Full}
use Rattle.text_declare.specs.Entered.{Tables, tables}

-- the place at which the text leaves the grammar, where no name stands
abbrev pub name_start : Result NameAt GrammarError → ℕ
name_start (Ok n) = n.start
name_start (Err e) = e.at

abbrev pub name_end : Result NameAt GrammarError → ℕ
name_end (Ok n) = n.at
name_end (Err e) = e.at

-- the place at which the text leaves the grammar, or after the name for which there is no slot
abbrev pub entered_place : Result EnteredAt EntryError → ℕ
entered_place (Ok d) = d.at
entered_place (Err (Grammar e)) = e.at
entered_place (Err (Full at)) = at

abbrev pub tables_after : List ℕ → List ℕ → Result EnteredAt EntryError → Tables
tables_after scope row (Ok d) = tables scope d.n row d.used
tables_after scope row (Err e) = tables scope 0 row 0
