-- `stops_here` looks at the process that the entry before names only where nothing is known.
use Rattle.run_burst.proofs.Steps.{stops-moving, goes-known, goes-seen}
use Rattle.run_burst.proofs.burst.stops_here.Goals as goal

pub returns-in-Waits : goal.returns-in-Waits
returns-in-Waits c =
    let args = c.args in
    goes-known args.p.now args.work.now args.schedule.now args.k args.known c.in-Waits.is c.if-known.true

pub returns-in-Waits-2 : goal.returns-in-Waits-2
returns-in-Waits-2 c =
    let args = c.args in
    goes-seen args.p.now args.work.now args.schedule.now args.k args.known c.in-Waits-2.is c.if-known.false
    c.named_before.ensures c.moves_alone.ensures

pub returns-in_default : goal.returns-in_default
returns-in_default c =
    let args = c.args in
    stops-moving args.p.now args.work.now args.schedule.now args.k args.known c.in_default.not-Waits
