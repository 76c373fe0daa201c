-- `count_made` counts a qubit, a channel or nothing.
use Rattle.run_single.proofs.Returns.{counts-qubit, counts-channel, counts-nothing}
use Rattle.run_single.proofs.single.count_made.Goals as goal

pub returns-then-kind-eq1 : goal.returns-then-kind-eq1
returns-then-kind-eq1 c =
    let args = c.args in
    counts-qubit args.work.now args.kind c.if-kind-eq1.true c.get-q.ensures c.low.ensures
    c.put.ensures

pub returns-then-kind-eq2 : goal.returns-then-kind-eq2
returns-then-kind-eq2 c =
    let args = c.args in
    counts-channel args.work.now args.kind c.if-kind-eq1.false c.if-kind-eq2.true c.get-c.ensures
    c.low-then-kind-eq2.ensures c.put-then-kind-eq2.ensures

pub returns-else-kind-eq2 : goal.returns-else-kind-eq2
returns-else-kind-eq2 c =
    let args = c.args in
    counts-nothing args.work.now args.kind c.if-kind-eq1.false c.if-kind-eq2.false
