-- `send`: its parts one after the other.
use mathlib.Core.Path.{refl}
use mathlib.Core.Path.{◌∙◌}
use mathlib.Core.List.{[]}
use Rattle.text.specs.Limits.{expr_numbers}
use Rattle.text_parse.specs.Equations.{expr_from}
use Rattle.text_numbering.specs.CodeBy.{code_by, place_of}
use Rattle.text_numbering.proofs.CodeLaws.{numbers_fit}
use Rattle.text_emit.proofs.PartLaws.{part-stuck}
use Rattle.text_emit.specs.Reached.{there}
use Rattle.text_emit.proofs.EmitLaws.{lost, one-stuck}
use Rattle.text_emit.proofs.SimpleLaws.{send-emits}
use Rattle.text_emit.proofs.simple.send.Goals as goal

pub shape_of-pending : goal.shape_of-pending
shape_of-pending c = c.expression-2.auto.pending ∙ c.expression.auto.pending

pub returns-in_err-x : goal.returns-in_err-x
returns-in_err-x c =
    rw c.from_residual.ensures (send-emits _ _ _ (there c.args.e) _ lost _ lost _ _ lost _ _ [] _ c.pass-open.ensures
    c.in_err-x.ensures refl (part-stuck _ _ _ expr_from (code_by place_of) expr_numbers (numbers_fit place_of) _ _ _ refl refl) refl refl (one-stuck _ _ _ lost _ _ refl refl))

pub returns-in_err-v : goal.returns-in_err-v
returns-in_err-v c =
    rw c.from_residual-in_err-v.ensures (send-emits _ _ _ (there c.args.e) _ _ _ lost _ _ lost _ _ _ _ c.pass-open.ensures
    c.in_ok-x.ensures c.pass-comma.ensures c.in_err-v.ensures refl refl (one-stuck _ _ _ lost _ _ refl refl))

pub returns : goal.returns
returns c =
    send-emits _ _ _ _ _ _ _ _ _ _ _ _ _ _ _ c.pass-open.ensures c.in_ok-x.ensures c.pass-comma.ensures c.in_ok-v.ensures
    c.pass-close.ensures c.pass-end.ensures c.put.ensures
