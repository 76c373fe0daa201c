-- `discard_two` empties both values and puts the head back once, as two steps would leave it.
use Rattle.run_gates.proofs.Dropped.{two-dropped}
use Rattle.run_gates.proofs.gates.discard_two.Goals as goal

pub returns : goal.returns
returns c =
    let args = c.args in
    two-dropped args.w.now args.h c.pop-deeper.ensures c.top.ensures c.empty.ensures
    c.put_value.ensures c.top-2.ensures c.empty-2.ensures
    c.put_value-2.ensures c.pop.ensures c.step.ensures
    c.put_top.ensures
