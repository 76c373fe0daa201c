-- `invoke`: its parts one after the other.
use mathlib.Core.Path.{refl}
use Rattle.text_emit.specs.Reached.{there}
use Rattle.text_emit.proofs.EmitLaws.{lost, puts-stuck}
use Rattle.text_emit.proofs.SimpleLaws.{invoke-emits}
use Rattle.text_emit.proofs.simple.invoke.Goals as goal

pub returns-in_err-xs : goal.returns-in_err-xs
returns-in_err-xs c =
    rw c.from_residual.ensures (invoke-emits _ _ _ (there c.args.e) _ _ lost _ lost _ _ _ _ c.requires.2
    c.pass_token-name.ensures c.pass-open.ensures c.in_err-xs.ensures refl
    (λ ms x k p s l w. puts-stuck _ _ lost _ _ refl refl))

pub put_invocation-requires : goal.put_invocation-requires
put_invocation-requires c = c.requires.1

pub returns : goal.returns
returns c =
    invoke-emits _ _ _ _ _ _ _ _ _ _ _ _ _ c.requires.2 c.pass_token-name.ensures c.pass-open.ensures c.in_ok-xs.ensures
    c.pass-end.ensures c.put_invocation.ensures
