-- `sizes_kept` answers question 1.
use Rattle.table.specs.Table.{methods, instructions}
use Rattle.table.specs.Questions.{sizes_kept}
use Rattle.check_shape.proofs.sizes.sizes_kept.Goals as goal

pub returns : goal.returns
unfolding sizes_kept methods instructions
returns c = cc
