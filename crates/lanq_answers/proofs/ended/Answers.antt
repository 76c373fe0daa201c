-- `ended` writes the numbers of a run in their order.
use mathlib.Core.Path.{refl}
use Rattle.lanq_answers.specs.Answers.{run_answer}
use Rattle.lanq_answers.proofs.ended.Goals as goal

pub returns : goal.returns
unfolding run_answer
returns c = refl
