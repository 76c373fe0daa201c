-- `argument` reads the argument at the frame's place.
use Rattle.run_ability.proofs.Returns.{argument-read}
use Rattle.run_ability.proofs.reads.argument.Goals as goal

pub returns : goal.returns
returns c = argument-read c.args.p.now c.args.w.now c.read_head-h.ensures c.argument.ensures
