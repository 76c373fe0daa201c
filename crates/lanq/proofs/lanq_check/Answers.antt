-- `lanq_check` gives the answer of the check its numbers.
use mathlib.Core.Path.{◌∙◌, ap}
use Rattle.lanq_answers.specs.Answers.{check_answer}
use Rattle.lanq.proofs.lanq_check.Goals as goal

pub returns : goal.returns
returns c = c.check_numbers.ensures ∙ ap check_answer c.ask.ensures
