-- `offers_nothing` goes by the status, and then by the op.
use Rattle.run_parts.proofs.Returns.{nothing-over, nothing-at}
use Rattle.run_parts.proofs.readiness.offers_nothing.Goals as goal

pub returns-then-get-ne1 : goal.returns-then-get-ne1
returns-then-get-ne1 c =
    let args = c.args in
    nothing-over args.p.now args.w.now c.get.ensures c.if-get-ne1.true

pub returns : goal.returns
returns c =
    nothing-at c.args.p.now c.args.w.now c.get.ensures
    c.if-get-ne1.false c.place_of.ensures c.op-op.ensures
