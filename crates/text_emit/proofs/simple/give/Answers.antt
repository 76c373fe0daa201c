-- `give`: its parts one after the other.
use mathlib.Core.Path.{refl}
use Rattle.text_emit.specs.Reached.{there}
use Rattle.text_emit.proofs.EmitLaws.{lost, one-stuck}
use Rattle.text_emit.proofs.SimpleLaws.{give-emits}
use Rattle.text_emit.proofs.simple.give.Goals as goal

pub returns-in_err-x : goal.returns-in_err-x
returns-in_err-x c =
    rw c.from_residual.ensures (give-emits _ _ _ (there c.args.e) lost _ lost _ _ _ c.in_err-x.ensures refl (one-stuck _ _ _ lost _ _ refl refl))

pub returns : goal.returns
returns c = give-emits _ _ _ _ _ _ _ _ _ _ c.in_ok-x.ensures c.pass-end.ensures c.put.ensures
