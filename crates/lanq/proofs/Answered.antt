-- The interface's answer for a table, and a run of a table as a run of a text has it.
use mathlib.Core.Path.{◌≡◌, refl}
use Rattle.text_translate.specs.declared.Translation.{Translation}
use Rattle.text_translate.specs.declared.Translation.TheVariants.{Table, Short}
use Rattle.std.specs.Prelude.{Ok}
use Rattle.text_translate.specs.Translate as text
use Rattle.lanq.specs.declared.LanqTable.{LanqTable}
use Rattle.lanq.specs.Answers.{table_answer}

pub table-words : (t : Translation) {r : LanqTable} → r ≡ record { refused = 0; place = 0; words = text.words_of t }
    → r ≡ table_answer (text.answer_numbers (Ok t))
unfolding table_answer text.answer_numbers
table-words (Table n) e = e
table-words (Short n) e = e
