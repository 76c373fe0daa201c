-- `named_entry` is the entry of a process that can be.
use mathlib.Core.Path.{refl}
use Rattle.run_burst.proofs.Returns.{names-none, names-one}
use Rattle.run_burst.proofs.turn.named_entry.Goals as goal

pub returns-then-n-ge8 : goal.returns-then-n-ge8
returns-then-n-ge8 c =
    let args = c.args in
    names-none args.p.now args.outcomes.now args.trace.now args.work.now args.room args.g
    args.n args.step args.m c.if-n-ge8.true refl

pub returns : goal.returns
returns c =
    let args = c.args in
    names-one args.p.now args.outcomes.now args.trace.now args.work.now args.room args.g args.n
    args.step args.m c.if-n-ge8.false c.entry.ensures
