-- `receive` puts the value in place of the end.
use Rattle.run_giving.specs.GivingCode.{received_words}
use Rattle.run_giving.proofs.receive.Goals as goal

pub returns : goal.returns
unfolding received_words
returns c = cc
