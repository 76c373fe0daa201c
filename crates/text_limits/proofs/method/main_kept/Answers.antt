-- `main_kept` looks at the name and at the first two words of the row.
use Rattle.text_limits.proofs.method.main_kept.Goals as goal

pub returns : goal.returns
returns c = cc
