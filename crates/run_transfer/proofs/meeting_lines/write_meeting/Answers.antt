-- `write_meeting` writes who met, then what was sent.
use Rattle.run_transfer.proofs.Laws.{meeting-lines}
use Rattle.run_transfer.proofs.meeting_lines.write_meeting.Goals as goal

pub returns : goal.returns
returns c =
    let args = c.args in
    meeting-lines args.trace.now args.line args.entry args.sender.0 args.receiver.0 args.e
    args.v c.met_line-first.ensures c.value_line-second.ensures c.write_two.ensures
