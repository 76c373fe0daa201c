-- The answer of the C interface for the translation's; the crate lanq_answers has those for the check's and the run's.
use Rattle.text_translate.specs.Translate as text
use Rattle.lanq.specs.declared.LanqTable.{LanqTable}

-- refused 0 where the text has a table, with its words, also where the buffer is too short for it
unfoldable pub table_answer : text.Answer → LanqTable
table_answer (text.refused n i) = record { refused = n; place = i; words = 0 }
table_answer (text.table n) = record { refused = 0; place = 0; words = n }
table_answer (text.short n) = record { refused = 0; place = 0; words = n }
