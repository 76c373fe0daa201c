-- `try_fork` faults where an argument is emptied or the child would be the ninth process.
use Rattle.run_entry.proofs.Returns.{fork-lacks, fork-beyond, fork-tried}
use Rattle.run_entry.proofs.forking.try_fork.Goals as goal

pub returns-then-lacks_of : goal.returns-then-lacks_of
returns-then-lacks_of c =
    let args = c.args in
    fork-lacks args.p.now args.outcomes.now args.trace.now args.work.now args.room args.g
    args.n.0 args.m args.args c.lacks_of.ensures c.if-lacks_of.true
    c.single.ensures

pub returns-then-made-ge8 : goal.returns-then-made-ge8
returns-then-made-ge8 c =
    let args = c.args in
    fork-beyond args.p.now args.outcomes.now args.trace.now args.work.now args.room args.g
    args.n.0 args.m args.args c.lacks_of.ensures c.if-lacks_of.false c.get-made.ensures
    c.if-made-ge8.true c.single-then-made-ge8.ensures

pub returns : goal.returns
returns c =
    let args = c.args in
    fork-tried args.p.now args.outcomes.now args.trace.now args.work.now args.room args.g
    args.n.0 args.m args.args c.lacks_of.ensures c.if-lacks_of.false c.get-made.ensures
    c.if-made-ge8.false c.start_child.ensures
