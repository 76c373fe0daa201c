-- `stop` writes the status alone.
use Rattle.run_events.specs.EndsCode.{stopped_words}
use Rattle.run_events.proofs.ends.stop.Goals as goal

pub returns : goal.returns
unfolding stopped_words
returns c = cc
