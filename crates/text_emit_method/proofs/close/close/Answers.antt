-- `close`: RET, or the hole and RET where there is a slot for it.
use mathlib.Core.Path.{refl}
use Rattle.text_emit.specs.Reached.{there}
use Rattle.text_emit.proofs.EmitLaws.{lost, one-stuck}
use Rattle.text_emit_method.proofs.EndLaws.{ends-void, ends-full, ends-value}
use Rattle.text_emit_method.proofs.close.close.Goals as goal

pub returns-then-returns-eq0 : goal.returns-then-returns-eq0
returns-then-returns-eq0 c =
    let g = c.args in
    ends-void g.returns (there g.e) _ _ _ _ c.if-returns-eq0.true c.put.ensures

pub returns-then-e-gt15 : goal.returns-then-e-gt15
returns-then-e-gt15 c =
    let g = c.args in
    ends-full g.returns (there g.e) _ _ c.if-returns-eq0.false _ _ c.if-e-gt15.true

pub returns-in_err-got : goal.returns-in_err-got
returns-in_err-got c =
    let g = c.args in
    rw c.from_residual.ensures (ends-value g.returns (there g.e) _ _ c.if-returns-eq0.false lost lost _ _ refl
    c.if-e-gt15.false c.in_err-got.ensures (one-stuck _ _ lost lost _ _ refl refl))

pub returns : goal.returns
returns c =
    let g = c.args in
    ends-value g.returns (there g.e) _ _ c.if-returns-eq0.false _ _ _ _ refl c.if-e-gt15.false c.in_ok-got.ensures
    c.put-3.ensures
