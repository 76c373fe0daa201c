-- `begin` has judged nothing.
use mathlib.Core.Path.{refl, ap, ◌∙◌}
use mathlib.Core.Option.{some}
use Rattle.text_judge.proofs.Resuming.{begins-right}
use Rattle.text_judge.proofs.code.begin.Goals as goal

pub returns : goal.returns
returns c = (refl, λ s. ap some c.nothing.ensures ∙ begins-right s)
