-- `lose_qubit` looks at the number only where the tag is a qubit's.
use Rattle.run_store.proofs.Laws.{qubit-emptied, other_tag, other-number}
use Rattle.run_store.proofs.giving.lose_qubit.Goals as goal

pub returns-then-w-i : goal.returns-then-w-i
returns-then-w-i c =
    let args = c.args in
    qubit-emptied args.w.now args.number args.i c.if-w-i-eq3.true c.if-w-i.true

pub returns-else-w-i : goal.returns-else-w-i
returns-else-w-i c =
    let args = c.args in
    other-number args.w.now args.number args.i c.if-w-i.false

pub returns-else-w-i-eq3 : goal.returns-else-w-i-eq3
returns-else-w-i-eq3 c =
    let args = c.args in
    other_tag args.w.now args.number args.i c.if-w-i-eq3.false
