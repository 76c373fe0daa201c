-- `dropped` wants exactly one value.
use mathlib.Core.Path.{ap, ◌∙◌}
use mathlib.Core.Option.{some}
use Rattle.check_types.proofs.Packed.{dropped-found, dropped-missing}
use Rattle.check_types.proofs.pending.Pending.dropped.Goals as goal

pub returns-then-self-eq1 : goal.returns-then-self-eq1
returns-then-self-eq1 c = ap some c.nothing.ensures ∙ dropped-found _ _ c.if-self-eq1.true

pub returns : goal.returns
returns c = dropped-missing _ _ c.if-self-eq1.false
