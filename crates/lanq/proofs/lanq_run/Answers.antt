-- `lanq_run` gives the answer of the run its numbers.
use mathlib.Core.Path.{◌∙◌, ap}
use Rattle.lanq_answers.specs.Answers.{run_answer}
use Rattle.lanq.proofs.lanq_run.Goals as goal

pub returns : goal.returns
returns c =
    let e = c.run.ensures in
    (c.run_numbers.ensures ∙ ap run_answer (c.of_table.ensures ∙ e.0), e.1, e.2)
