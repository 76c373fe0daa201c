-- `run` runs where no question says no, and touches nothing else.
use mathlib.Core.Path.{sym}
use Rattle.std.proofs.lemmas.Result.{err_from_is_err_and}
use Rattle.check_questions.specs.Check.{verdict_of}
use Rattle.run.proofs.Answering.{refuses, ran-so}
use Rattle.run.specs.Answers.{answer_numbers}
use Rattle.run.proofs.run.Goals as goal

pub returns-in_err-ask : goal.returns-in_err-ask
unfolding answer_numbers verdict_of
returns-in_err-ask c =
    let args = c.args in
    let p = err_from_is_err_and c.from_residual.result c.from_residual.ensures.1 in
    rw (p.1, p.2)
    (refuses args.program.now args.schedule.now args.outcomes.now args.trace.now args.work.now c.in_err-ask.ensures)

pub accepted_run-requires : goal.accepted_run-requires
unfolding verdict_of
accepted_run-requires c = sym c.in_ok-ask.ensures

pub returns : goal.returns
unfolding answer_numbers verdict_of
returns c =
    let args = c.args in
    ran-so args.program.now args.schedule.now args.outcomes.now args.trace.now args.work.now
    c.accepted_run.result (sym c.in_ok-ask.ensures) c.accepted_run.ensures
