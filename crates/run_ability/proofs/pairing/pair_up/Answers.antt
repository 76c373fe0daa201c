-- `pair_up` asks the holder of the opposite end, where the process offers.
use Rattle.run_ability.proofs.Returns.{pairs-none, pairs-asked}
use Rattle.run_ability.proofs.pairing.pair_up.Goals as goal

pub returns-in-Idle : goal.returns-in-Idle
returns-in-Idle c =
    let args = c.args in
    pairs-none args.p.now args.work.now args.t.now args.n.0 args.step c.offer_of-a.ensures c.in-Idle.is

pub returns-in_default : goal.returns-in_default
returns-in_default c =
    let args = c.args in
    pairs-asked args.p.now args.work.now args.t.now args.n.0 args.step c.offer_of-a.ensures c.in_default.not-Idle
    c.in_default.not-Moves c.opposite.ensures.0 c.opposite.ensures.1 c.holder_of.ensures c.pair_with.ensures
