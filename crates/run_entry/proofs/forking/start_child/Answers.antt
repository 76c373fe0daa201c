-- `start_child` writes the fork's lines and starts the child, where the lines fit.
use mathlib.Core.Path.{refl}
use Rattle.run_entry.proofs.Returns.{fork-full, fork-starts}
use Rattle.run_entry.proofs.forking.start_child.Goals as goal

pub returns-then-room-g : goal.returns-then-room-g
returns-then-room-g c =
    let args = c.args in
    fork-full args.p.now args.trace.now args.work.now args.room args.g args.n.0 args.child.0
    args.m args.args c.count_things-things.ensures.0 c.if-room-g.true refl

pub returns : goal.returns
returns c =
    let args = c.args in
    fork-starts args.p.now args.trace.now args.work.now args.room args.g args.n.0 args.child.0
    args.m args.args c.count_things-things.ensures.0 c.if-room-g.false
    c.write_fork-next.ensures c.fork.ensures refl
