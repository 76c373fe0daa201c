-- `turn_at` takes the turn of the process that the entry names.
use Rattle.run_burst.specs.TurnCode.{turn_at}
use Rattle.run_burst.proofs.turn.turn_at.Goals as goal

pub returns : goal.returns
unfolding turn_at
returns c = c.take_turn.ensures
