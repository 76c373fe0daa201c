-- `moves_alone` looks at a process that can be.
use Rattle.run_burst.proofs.Knowing.{beyond-alone, stand-alone}
use Rattle.run_burst.proofs.burst.moves_alone.Goals as goal

pub returns-then-n-ge8 : goal.returns-then-n-ge8
returns-then-n-ge8 c =
    let args = c.args in
    beyond-alone args.p.now args.work.now args.n c.if-n-ge8.true

pub returns : goal.returns
returns c =
    let args = c.args in
    stand-alone args.p.now args.work.now args.n c.if-n-ge8.false c.alone_of.ensures
