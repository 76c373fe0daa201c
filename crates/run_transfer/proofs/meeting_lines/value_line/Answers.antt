-- `value_line` goes by whether the value is a thing.
use Rattle.run_transfer.proofs.Laws.{passes, gives}
use Rattle.run_transfer.proofs.meeting_lines.value_line.Goals as goal

pub returns-then-v-lt3 : goal.returns-then-v-lt3
returns-then-v-lt3 c =
    let args = c.args in
    passes args.entry args.sender.0 args.receiver.0 args.v c.if-v-lt3.true c.passed_line.ensures

pub returns : goal.returns
returns c =
    let args = c.args in
    gives args.entry args.sender.0 args.receiver.0 args.v c.if-v-lt3.false c.gift_line.ensures
