-- `ask` puts the questions of the table first, and then the others.
use Rattle.std.proofs.lemmas.Result.{err_from_is_err_and}
use Rattle.table.specs.Questions.{questions}
use Rattle.check_questions.specs.Check.{verdict_of}
use Rattle.check_questions.specs.AskCode.{input_questions}
use Rattle.check_questions.proofs.Verdicts.{no_first, yes_first}
use Rattle.check_questions.proofs.ask.Goals as goal

pub returns-in_err-ask_table : goal.returns-in_err-ask_table
unfolding verdict_of questions
returns-in_err-ask_table c =
    let p = err_from_is_err_and c.from_residual.result c.from_residual.ensures.1 in
    rw (p.1, p.2) (no_first _ c.in_err-ask_table.ensures)

pub returns : goal.returns
unfolding verdict_of questions input_questions
returns c = yes_first c.in_ok-ask_table.ensures c.ask_inputs.ensures
