-- `mark` marks the target of ops 17 and 18 alone.
use Rattle.check_arguments.proofs.Marks.{mark-lands, mark-so}
use Rattle.check_arguments.proofs.mark.Goals as goal

pub bounds-targets-k : goal.bounds-targets-k
bounds-targets-k c =
    mark-lands c.args.op c.args.at c.args.i c.args.targets.now
    c.chosen-k.ensures c.requires.0 c.requires.1

pub bounds-targets-k-2 : goal.bounds-targets-k-2
bounds-targets-k-2 c =
    mark-lands c.args.op c.args.at c.args.i c.args.targets.now
    c.chosen-k.ensures c.requires.0 c.requires.1

pub returns : goal.returns
returns c =
    let args = c.args in
    mark-so args.op args.at args.i args.targets.now c.chosen-k.ensures c.chosen.ensures
