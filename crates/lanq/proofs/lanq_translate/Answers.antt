-- `lanq_translate` gives each case of the translation its numbers.
use mathlib.Core.Path.{◌∙◌, ap}
use Rattle.text_translate.specs.Translate.{answer_numbers}
use Rattle.lanq.specs.Answers.{table_answer}
use Rattle.lanq.proofs.Answered.{table-words}
use Rattle.lanq.proofs.lanq_translate.Goals as goal

pub returns-in-Err : goal.returns-in-Err
unfolding table_answer answer_numbers
returns-in-Err c =
    let e = c.in-Err.ensures in
    ((cc (ap table_answer e.0)), e.1)

pub returns-in-Ok : goal.returns-in-Ok
returns-in-Ok c =
    let e = c.in-Ok.ensures in
    (table-words c.in-Ok.translation (rw c.words.ensures at c.table_numbers-in-Ok.ensures) ∙ ap table_answer e.0, e.1)
