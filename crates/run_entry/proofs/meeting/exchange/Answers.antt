-- `exchange` writes the two lines and moves both processes on, where the lines fit.
use mathlib.Core.Path.{refl}
use Rattle.run_entry.proofs.Returns.{exchange-full, exchanged}
use Rattle.run_entry.proofs.meeting.exchange.Goals as goal

pub returns-then-room-g : goal.returns-then-room-g
returns-then-room-g c =
    let args = c.args in
    exchange-full args.trace.now args.work.now args.room args.g args.m.sender.0 args.m.receiver.0
    args.m.end args.m.value c.if-room-g.true refl

pub returns : goal.returns
returns c =
    let args = c.args in
    exchanged args.trace.now args.work.now args.room args.g args.m.sender.0 args.m.receiver.0
    args.m.end args.m.value c.if-room-g.false c.write_meeting.ensures c.meet.ensures
    refl
