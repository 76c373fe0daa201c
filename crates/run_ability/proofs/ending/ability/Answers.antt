-- `ability` goes by the readiness, and by whether an offer moves it.
use Rattle.run_ability.specs.EndingCode.{ability_number}
use Rattle.run_ability.proofs.Returns.{no-process, no-offer, unmet, met}
use Rattle.run_ability.proofs.ending.ability.Goals as goal

pub returns-in-Idle : goal.returns-in-Idle
unfolding ability_number
returns-in-Idle c =
    let args = c.args in
    no-process args.p.now args.work.now args.t.now args.n.0 c.readiness_of-a.ensures c.in-Idle.is

pub returns-in-Moves : goal.returns-in-Moves
unfolding ability_number
returns-in-Moves c =
    let args = c.args in
    no-offer args.p.now args.work.now args.t.now args.n.0 c.readiness_of-a.ensures c.in-Moves.is

pub returns-in_default : goal.returns-in_default
unfolding ability_number
returns-in_default c =
    let args = c.args in
    met args.p.now args.work.now args.t.now args.n.0 c.readiness_of-a.ensures c.in_default.not-Idle
    c.in_default.not-Moves c.is_moved.ensures c.if-is_moved.true

pub returns-in_default-2 : goal.returns-in_default-2
unfolding ability_number
returns-in_default-2 c =
    let args = c.args in
    unmet args.p.now args.work.now args.t.now args.n.0 c.readiness_of-a.ensures c.in_default.not-Idle
    c.in_default.not-Moves c.is_moved.ensures c.if-is_moved.false
