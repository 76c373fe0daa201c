-- `fork_entry` reads the child's method and how many arguments it takes.
use Rattle.run_entry.proofs.Returns.{fork-read}
use Rattle.run_entry.proofs.forking.fork_entry.Goals as goal

pub returns : goal.returns
returns c =
    let args = c.args in
    fork-read args.p.now args.outcomes.now args.trace.now args.work.now args.room args.g
    args.n.0 c.argument_of-m.ensures c.params-args.ensures c.try_fork.ensures
