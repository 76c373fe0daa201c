-- `entry` goes by what the step left of it.
use mathlib.Core.Path.{refl}
use Rattle.run_entry.proofs.Returns.{entry-stays, entry-forks, entry-offers, entry-single}
use Rattle.run_entry.proofs.entry.entry.Goals as goal

pub returns-in-Nothing : goal.returns-in-Nothing
returns-in-Nothing c =
    let args = c.args in
    entry-stays args.p.now args.outcomes.now args.trace.now args.work.now args.room args.g
    args.n.0 args.step args.m c.rest_of.ensures c.in-Nothing.is
    refl

pub returns-in-Fork : goal.returns-in-Fork
returns-in-Fork c =
    let args = c.args in
    entry-forks args.p.now args.outcomes.now args.trace.now args.work.now args.room args.g
    args.n.0 args.step args.m c.rest_of.ensures c.in-Fork.is
    c.fork_entry.ensures

pub returns-in-Offer : goal.returns-in-Offer
returns-in-Offer c =
    let args = c.args in
    entry-offers args.p.now args.outcomes.now args.trace.now args.work.now args.room args.g
    args.n.0 args.step args.m c.rest_of.ensures c.in-Offer.is
    c.meet_entry.ensures

pub returns-in-Line : goal.returns-in-Line
returns-in-Line c =
    let args = c.args in
    entry-single args.p.now args.outcomes.now args.trace.now args.work.now args.room args.g
    args.n.0 args.step args.m c.rest_of.ensures _ c.in-Line.is
    c.single.ensures
