-- `fork`: its parts one after the other.
use mathlib.Core.Path.{refl}
use Rattle.text_emit.specs.Reached.{there}
use Rattle.text_emit.proofs.EmitLaws.{lost, one-stuck}
use Rattle.text_emit.proofs.SimpleLaws.{fork-emits}
use Rattle.text_emit.proofs.simple.fork.Goals as goal

pub returns-in_err-xs : goal.returns-in_err-xs
returns-in_err-xs c =
    rw c.from_residual.ensures (fork-emits _ _ _ (there c.args.e) _ _ lost _ lost _ _ _ _ c.next_token-method.ensures
    c.pass_token-name.ensures c.pass-open.ensures c.in_err-xs.ensures refl (one-stuck _ _ _ lost _ _ refl refl))

pub returns : goal.returns
returns c =
    fork-emits _ _ _ _ _ _ _ _ _ _ _ _ _ c.next_token-method.ensures c.pass_token-name.ensures c.pass-open.ensures
    c.in_ok-xs.ensures c.pass-end.ensures c.put.ensures
