-- `names_then_table` asks 31, and then for the table.
use Rattle.text_translate.specs.Translate.{answer_numbers}
use Rattle.text_translate.proofs.Answering.{names-say, well-named}
use Rattle.text_translate.proofs.names_then_table.Goals as goal

pub table_of-requires : goal.table_of-requires
table_of-requires c = well-named _ c.requires.1 c.in-None.ensures

pub returns-in-Some : goal.returns-in-Some
unfolding answer_numbers
returns-in-Some c = names-say _ _ c.requires.1 c.in-Some.ensures
