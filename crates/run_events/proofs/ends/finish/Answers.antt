-- `finish` clears the part and writes the status.
use Rattle.run_events.specs.EndsCode.{finished_words}
use Rattle.run_events.proofs.ends.finish.Goals as goal

pub returns : goal.returns
unfolding finished_words
returns c = cc
