-- `known_after_entry` keeps what is known only after an entry with one line.
use Rattle.run_burst.proofs.Knowing.{one-entered, more-entered}
use Rattle.run_burst.proofs.turn.known_after_entry.Goals as goal

pub returns-then-one_line : goal.returns-then-one_line
returns-then-one_line c =
    let args = c.args in
    one-entered args.p.now args.work.now args.n args.known args.step c.one_line.ensures
    c.if-one_line.true c.known_after_step.ensures

pub returns : goal.returns
returns c =
    let args = c.args in
    more-entered args.p.now args.work.now args.n args.known args.step c.one_line.ensures
    c.if-one_line.false c.nothing_known.ensures
