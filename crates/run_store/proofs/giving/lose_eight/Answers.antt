-- `lose_eight` goes through the eight values in turn.
use Rattle.run_store.proofs.Laws.{eight-emptied}
use Rattle.run_store.proofs.giving.lose_eight.Goals as goal

pub returns : goal.returns
returns c =
    let args = c.args in
    eight-emptied args.w.now (record { tag = 3; number = args.number }) args.i
    c.lose_qubit.ensures c.lose_qubit-2.ensures c.lose_qubit-3.ensures
    c.lose_qubit-4.ensures c.lose_qubit-5.ensures c.lose_qubit-6.ensures
    c.lose_qubit-7.ensures c.lose_qubit-8.ensures
