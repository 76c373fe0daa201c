-- `write_fork` writes the fork's line, then a line for each thing given.
use Rattle.run_transfer.proofs.Laws.{fork-lines}
use Rattle.run_transfer.proofs.fork_lines.write_fork.Goals as goal

pub returns : goal.returns
returns c =
    let args = c.args in
    fork-lines args.trace.now args.line args.entry args.n.0 args.child.0 args.work.now args.m
    args.args c.fork_line.ensures c.write_line.ensures
    c.write_gifts.ensures
