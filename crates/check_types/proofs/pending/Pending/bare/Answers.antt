-- `bare` wants none.
use Rattle.check_types.proofs.Packed.{bare-found, bare-missing}
use Rattle.check_types.proofs.pending.Pending.bare.Goals as goal

pub returns-then-self-eq0 : goal.returns-then-self-eq0
returns-then-self-eq0 c = bare-found _ _ c.if-self-eq0.true

pub returns : goal.returns
returns c = bare-missing _ _ c.if-self-eq0.false
