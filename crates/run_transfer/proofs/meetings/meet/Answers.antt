-- `meet` changes the sender's part, then the receiver's.
use Rattle.run_transfer.specs.TransferCode.{met_words}
use Rattle.run_transfer.proofs.meetings.meet.Goals as goal

pub returns : goal.returns
unfolding met_words
returns c = cc
