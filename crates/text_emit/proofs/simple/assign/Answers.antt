-- `assign`: its parts one after the other.
use mathlib.Core.Path.{refl}
use Rattle.text_emit.specs.Reached.{there}
use Rattle.text_emit.proofs.EmitLaws.{lost, puts-stuck}
use Rattle.text_emit.proofs.SimpleLaws.{assign-emits}
use Rattle.text_emit.proofs.simple.assign.Goals as goal

pub returns-in_err-x : goal.returns-in_err-x
returns-in_err-x c =
    rw c.from_residual.ensures (assign-emits _ _ _ (there c.args.e) _ _ lost _ lost _ _ _ _ _ _ c.requires.1
    c.pass_token-name.ensures c.pass-equals.ensures c.in_err-x.ensures refl c.slot_of-s.ensures
    (λ l. puts-stuck _ _ lost _ _ refl refl))

pub returns : goal.returns
returns c =
    assign-emits _ _ _ _ _ _ _ _ _ _ _ _ _ _ _ c.requires.1 c.pass_token-name.ensures c.pass-equals.ensures
    c.in_ok-x.ensures c.pass-end.ensures c.slot_of-s.ensures c.put_value.ensures
