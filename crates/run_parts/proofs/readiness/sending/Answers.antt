-- `sending` goes by whether an operand is emptied.
use mathlib.Core.Path.{refl}
use Rattle.run_parts.specs.ReadinessCode.{send_of}
use Rattle.lists.proofs.Tests.{took, passed-by}
use Rattle.run_parts.proofs.readiness.sending.Goals as goal

pub returns-then-two_empty : goal.returns-then-two_empty
unfolding send_of
returns-then-two_empty c = took _ _ _ c.two_empty.ensures c.if-two_empty.true refl

pub returns : goal.returns
unfolding send_of
returns c = passed-by _ _ _ c.two_empty.ensures c.if-two_empty.false (cc)
