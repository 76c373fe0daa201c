-- `begin` writes the status and the head of one frame.
use Rattle.run_giving.proofs.Laws.{begins}
use Rattle.run_giving.proofs.begin.Goals as goal

pub returns : goal.returns
returns c =
    let args = c.args in
    begins args.p.now args.w.now args.m c.read_head.ensures c.offset.ensures.0
    c.start-h.ensures c.put_status.ensures c.put.ensures
    c.put_top.ensures
