-- `measure`: its parts one after the other.
use mathlib.Core.Path.{refl}
use mathlib.Core.List.{[]}
use Rattle.text_emit.specs.Reached.{there}
use Rattle.text_emit.proofs.EmitLaws.{lost, one-stuck}
use Rattle.text_emit.proofs.SimpleLaws.{measure-emits}
use Rattle.text_emit.proofs.simple.measure.Goals as goal

pub returns-in_err-got : goal.returns-in_err-got
returns-in_err-got c =
    rw c.from_residual.ensures (measure-emits _ _ _ (there c.args.e) _ lost lost lost c.measured-name.result.start c.measured-name.result.end c.measured-name.result.at _ _ _ _ [] _
    c.measured-name.ensures.0 c.slot_of-q.ensures c.pass-end.ensures c.in_err-got.ensures (one-stuck _ _ _ lost _ _ refl refl) (one-stuck _ _ _ lost _ _ refl refl))

pub returns-in_err-measured : goal.returns-in_err-measured
returns-in_err-measured c =
    rw c.from_residual-in_err-measured.ensures (measure-emits _ _ _ (there c.args.e) _ _ lost lost c.measured-name.result.start c.measured-name.result.end c.measured-name.result.at _ _ _ _ _ _
    c.measured-name.ensures.0 c.slot_of-q.ensures c.pass-end.ensures c.in_ok-got.ensures c.in_err-measured.ensures (one-stuck _ _ _ lost _ _ refl refl))

pub returns : goal.returns
returns c =
    measure-emits _ _ _ (there c.args.e) _ _ _ _ c.measured-name.result.start c.measured-name.result.end c.measured-name.result.at _ _ _ _ _ _
    c.measured-name.ensures.0 c.slot_of-q.ensures c.pass-end.ensures c.in_ok-got.ensures c.in_ok-measured.ensures c.put-3.ensures
