-- `single` writes the line of what was carried out, where it fits.
use mathlib.Core.Path.{refl}
use native.Mathlib.Omega.{arith}
use Rattle.run_single.proofs.Returns.{single-full, single-noted}
use Rattle.run_single.proofs.single.single.Goals as goal

pub returns-then-room-g : goal.returns-then-room-g
returns-then-room-g c =
    let args = c.args in
    single-full args.p.now args.outcomes.now args.trace.now args.work.now args.room args.g
    args.n.0 args.does c.if-room-g.true refl

pub overflow_add-g : goal.overflow_add-g
overflow_add-g c = omega (arith, c.requires.2)

pub returns : goal.returns
returns c =
    let args = c.args in
    single-noted args.p.now args.outcomes.now args.trace.now args.work.now args.room args.g
    args.n.0 args.does c.if-room-g.false c.conclude_at-t.ensures
    c.count_made.ensures c.event_line.ensures c.write_line.ensures
    c.low.ensures refl
