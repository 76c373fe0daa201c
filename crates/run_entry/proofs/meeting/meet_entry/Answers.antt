-- `meet_entry` goes by what the offer comes to.
use mathlib.Core.Path.{refl, subst}
use Rattle.run_ability.specs.PairingCode.{Near}
use Rattle.run_entry.proofs.Returns.{meet-faults, meet-waits, meet-gone, meet-meets}
use Rattle.run_entry.proofs.meeting.meet_entry.Goals as goal

pub returns-in-NoOffer : goal.returns-in-NoOffer
returns-in-NoOffer c =
    let args = c.args in
    meet-faults args.p.now args.outcomes.now args.trace.now args.work.now args.room args.g
    args.n.0 args.m c.in-NoOffer.is c.single.ensures

pub returns-in-Waits : goal.returns-in-Waits
returns-in-Waits c =
    let args = c.args in
    meet-waits args.p.now args.outcomes.now args.trace.now args.work.now args.room args.g
    args.n.0 args.m c.in-Waits.is refl

pub returns-in-PartnerGone : goal.returns-in-PartnerGone
returns-in-PartnerGone c =
    let args = c.args in
    meet-gone args.p.now args.outcomes.now args.trace.now args.work.now args.room args.g
    args.n.0 args.m c.in-PartnerGone.is c.single-in-PartnerGone.ensures

pub exchange-requires : goal.exchange-requires
exchange-requires c =
    let near = subst Near c.in-Meets.is c.requires.3 in (c.requires.0, near.0, near.1, c.requires.2)

pub returns-in-Meets : goal.returns-in-Meets
returns-in-Meets c =
    let args = c.args in
    meet-meets args.p.now args.outcomes.now args.trace.now args.work.now args.room args.g
    args.n.0 args.m _ c.in-Meets.is c.exchange.ensures
