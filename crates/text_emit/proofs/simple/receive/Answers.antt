-- `receive`: its parts one after the other.
use mathlib.Core.Path.{refl}
use mathlib.Core.List.{[]}
use Rattle.text_emit.specs.Reached.{there}
use Rattle.text_emit.proofs.EmitLaws.{lost, one-stuck}
use Rattle.text_emit.proofs.SimpleLaws.{receive-emits}
use Rattle.text_emit.proofs.simple.receive.Goals as goal

pub returns-in_err-x : goal.returns-in_err-x
returns-in_err-x c =
    rw c.from_residual.ensures (receive-emits _ _ _ (there c.args.e) _ lost _ _ lost lost _ _ [] _ c.pass-open.ensures
    c.in_err-x.ensures refl refl (one-stuck _ _ _ lost _ _ refl refl) (one-stuck _ _ _ lost _ _ refl refl))

pub returns-in_err-received : goal.returns-in_err-received
returns-in_err-received c =
    rw c.from_residual-in_err-received.ensures (receive-emits _ _ _ (there c.args.e) _ _ _ _ lost lost _ _ _ _
    c.pass-open.ensures c.in_ok-x.ensures c.pass-close.ensures c.pass-end.ensures c.in_err-received.ensures (one-stuck _ _ _ lost _ _ refl refl))

pub returns : goal.returns
returns c =
    receive-emits _ _ _ _ _ _ _ _ _ _ _ _ _ _ c.pass-open.ensures c.in_ok-x.ensures c.pass-close.ensures c.pass-end.ensures
    c.in_ok-received.ensures c.put-2.ensures
