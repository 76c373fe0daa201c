-- `put`: an instruction where there is room for it.
use mathlib.Core.Path.{refl}
use Rattle.text_emit.specs.Reached.{there}
use Rattle.text_emit.proofs.EmitLaws.{lost, one-over, one-put}
use Rattle.text_emit.proofs.emit.put.Goals as goal

pub returns-then-e-ge4096 : goal.returns-then-e-ge4096
returns-then-e-ge4096 c =
    let g = c.args in
    one-over g.op g.argument (there g.e) _ _ lost refl c.if-e-ge4096.true refl

pub returns : goal.returns
returns c =
    let g = c.args in
    one-put g.op g.argument (there g.e) _ _ refl c.if-e-ge4096.false c.put.ensures
