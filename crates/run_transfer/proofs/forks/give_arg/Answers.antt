-- `give_arg` gives away what stands in the child's slot.
use Rattle.run_transfer.specs.TransferCode.{arg_given}
use Rattle.run_transfer.proofs.forks.give_arg.Goals as goal

pub returns : goal.returns
unfolding arg_given
returns c = cc
