-- `send` takes the two operands off, and then gives.
use Rattle.run_giving.specs.GivingCode.{sent_words}
use Rattle.run_giving.proofs.send.Goals as goal

pub returns : goal.returns
unfolding sent_words
returns c = cc
