-- `pair_of` goes by which of the two sends.
use mathlib.Core.Path.{sym, ◌∙◌, ap}
use Rattle.run_ability.specs.PairingCode.{received_of}
use Rattle.run_ability.proofs.Returns.{receives, receives-none}
use Rattle.run_ability.proofs.pairing.pair_of.Goals as goal

pub returns-in_default-Sends : goal.returns-in_default-Sends
unfolding received_of
returns-in_default-Sends c =
    let args = c.args in
    sym (ap (received_of args.n.0 args.q.0) c.in_default-Sends.is-1)
    ∙ receives args.n.0 args.a args.q.0 args.b c.in_default-Sends.not-Sends-0

pub returns-in_default : goal.returns-in_default
returns-in_default c =
    let args = c.args in
    receives-none args.n.0 args.q.0 args.b c.in_default.not-Sends-1
    ∙ receives args.n.0 args.a args.q.0 args.b c.in_default.not-Sends-0
