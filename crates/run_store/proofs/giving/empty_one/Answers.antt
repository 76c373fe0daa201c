-- `empty_one` goes by whether the value is lost.
use Rattle.run_store.proofs.Laws.{one-emptied, one_kept}
use Rattle.run_store.proofs.giving.empty_one.Goals as goal

pub returns-then-is_lost : goal.returns-then-is_lost
returns-then-is_lost c =
    let args = c.args in
    one-emptied args.w.now args.t args.i c.value-v.ensures c.is_lost.ensures
    c.if-is_lost.true c.empty.ensures c.put_value.ensures

pub returns-else-is_lost : goal.returns-else-is_lost
returns-else-is_lost c =
    let args = c.args in
    one_kept args.w.now args.t args.i c.value-v.ensures c.is_lost.ensures c.if-is_lost.false
