-- The translation's answer on numbers that are all different, by computing.
use mathlib.Core.Path.{◌≡◌, refl}
use Rattle.text_translate.specs.Translate as text
use Rattle.lanq.specs.Answers.{table_answer}

pub table-refused : table_answer (text.refused 31 7) ≡ record { refused = 31; place = 7; words = 0 }
unfolding table_answer
table-refused = refl

pub table-given : table_answer (text.table 86) ≡ record { refused = 0; place = 0; words = 86 }
unfolding table_answer
table-given = refl

pub table-short : table_answer (text.short 86) ≡ record { refused = 0; place = 0; words = 86 }
unfolding table_answer
table-short = refl
