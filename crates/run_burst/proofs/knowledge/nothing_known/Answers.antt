-- `nothing_known` answers what the definition says.
use mathlib.Core.Path.{refl}
use Rattle.run_burst.specs.KnowledgeCode.{nothing_known}
use Rattle.run_burst.proofs.knowledge.nothing_known.Goals as goal

pub returns : goal.returns
unfolding nothing_known
returns c = refl
