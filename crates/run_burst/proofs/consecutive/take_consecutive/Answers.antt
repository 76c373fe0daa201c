-- `take_consecutive` hands on to the loop of one process.
use native.Mathlib.Omega.{arith}
use lib.ListN.{get_or}
use borrow.Author.Tests.{not-false}
use borrow.Author.Rules.{rules}
use Rattle.run_burst.proofs.AtOnce.{taken}
use Rattle.run_burst.proofs.consecutive.take_consecutive.Goals as goal

pub bounds-schedule-k : goal.bounds-schedule-k
bounds-schedule-k c =
    c.names_again.ensures (not-false c.names_again.result
    c.if-not-names_again.false-raw)

pub returns : goal.returns
returns c = rw (← c.words.ensures) (
  taken c.words.result.now c.args.schedule.now c.args.work.now c.requires.0
      (get_or c.args.schedule.now c.args.k 0) (omega (arith, c.if-n-ge8.false)) c.args.known
      (search rules)
      c.stretch.ensures.0 c.stretch.ensures.1,
  c.stretch.ensures.2,
)
