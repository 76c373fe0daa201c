-- `offer_at` goes by what the step answered.
use mathlib.Core.Path.{refl}
use Rattle.run_entry.proofs.Returns.{offer-over, offer-low, offer-paired, offer-none}
use Rattle.run_entry.proofs.entry.offer_at.Goals as goal

pub returns-then-not_running : goal.returns-then-not_running
returns-then-not_running c =
    let args = c.args in
    offer-over args.p.now args.work.now args.t.now args.n args.step
    c.not_running.ensures
    c.if-not_running.true refl

pub pair_up-requires : goal.pair_up-requires
pair_up-requires c = (c.requires, offer-low c.args.n c.is_offer.result c.if-is_offer-n.true)

pub returns-then-is_offer-n : goal.returns-then-is_offer-n
returns-then-is_offer-n c =
    let args = c.args in
    offer-paired args.p.now args.work.now args.t.now args.n args.step
    c.not_running.ensures
    c.if-not_running.false c.is_offer.ensures c.if-is_offer-n.true c.pair_up.ensures

pub returns : goal.returns
returns c =
    let args = c.args in
    offer-none args.p.now args.work.now args.t.now args.n args.step
    c.not_running.ensures
    c.if-not_running.false c.is_offer.ensures c.if-is_offer-n.false refl
