-- `take_turn` goes by how far the entry comes.
use borrow.Author.Rules.{rules}
use Rattle.run_burst.proofs.Returns.{turn-full, turn-taken, turn-goes, turn-ends}
use Rattle.run_burst.proofs.turn.take_turn.Goals as goal

pub returns-in-Full : goal.returns-in-Full
returns-in-Full c =
    let args = c.args in
    turn-full args.p.now args.outcomes.now args.trace.now args.work.now args.room args.t.now
    args.g args.n args.step args.offer args.known c.named_entry-m.ensures c.in-Full.is

pub returns-in-Taken : goal.returns-in-Taken
returns-in-Taken c =
    let args = c.args in
    turn-taken args.p.now args.outcomes.now args.trace.now args.work.now args.room args.t.now
    args.g args.n args.step args.offer args.known c.named_entry-m.ensures c.in-Taken.is (search rules)

pub returns-in-Some : goal.returns-in-Some
returns-in-Some c =
    let args = c.args in
    turn-ends args.p.now args.outcomes.now args.trace.now args.work.now args.room args.t.now
    args.g args.n args.step args.offer args.known c.named_entry-m.ensures c.in-Unable.is c.ending.ensures c.in-Some.is

pub returns-in-None : goal.returns-in-None
returns-in-None c =
    let args = c.args in
    turn-goes args.p.now args.outcomes.now args.trace.now args.work.now args.room args.t.now
    args.g args.n args.step args.offer args.known c.named_entry-m.ensures c.in-Unable.is c.ending.ensures c.in-None.is
    (search rules)
