-- `patch`: an argument that is known later. An instruction that is in the buffer is one of the first 4,096.
use mathlib.Core.Path.{refl}
use Rattle.text_emit.specs.Reached.{there}
use Rattle.text_emit.proofs.EmitLaws.{patch-far, patch-on}
use Rattle.text_emit.proofs.emit.patch.Goals as goal

pub returns-then-k-ge4096 : goal.returns-then-k-ge4096
returns-then-k-ge4096 c =
    let g = c.args in
    patch-far (there g.e) g.k g.argument _ _ refl c.if-k-ge4096.true

pub returns : goal.returns
returns c =
    let g = c.args in
    patch-on (there g.e) g.k g.argument _ _ refl c.put.ensures
