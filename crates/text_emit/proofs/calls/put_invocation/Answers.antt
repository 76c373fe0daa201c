-- `put_invocation`: a method or a gate.
use native.Mathlib.Omega.{arith}
use mathlib.Core.List.{[]}
use mathlib.Core.Path.{◌≡◌, refl}
use Rattle.text_types.specs.Answer.{type_code_in}
use Rattle.text_emit.specs.Reached.{there}
use Rattle.text_emit.proofs.PutLaws.{invoke-gate, invoke-stuck, invoke-void, invoke-value}
use Rattle.text_emit.proofs.calls.put_invocation.Goals as goal

pub returns-then-end-start : goal.returns-then-end-start
returns-then-end-start c = λ ms x k place s l w. absurd (omega (arith, l, c.if-end-start.true))

pub returns-then-text-end : goal.returns-then-text-end
returns-then-text-end c = λ ms x k place s l w. absurd (omega (arith, w, c.if-text-end.true))

pub returns-in_default : goal.returns-in_default
returns-in_default c = invoke-gate _ _ _ _ _ _ _ _ c.in_default.ensures c.gate_number-gate.ensures c.put.ensures

pub returns-in_err-called : goal.returns-in_err-called
returns-in_err-called c =
    rw c.from_residual.ensures (invoke-stuck _ _ _ (there c.args.e) _ _ _ c.in-Ok.ensures c.in_err-called.ensures)

pub returns-in-Ok-return_type : goal.returns-in-Ok-return_type
returns-in-Ok-return_type c =
    let value : type_code_in c.return_type.result ≡ 0 → ⊥ = rw c.in-Ok-return_type.is c.if-t-ne0.true in
    invoke-value _ _ _ _ _ _ _ _ c.return_type.result _ _ c.in-Ok.ensures c.return_type.ensures
    c.in_ok-called.ensures value c.put-in-Ok-return_type.ensures

pub returns-in_default-return_type : goal.returns-in_default-return_type
returns-in_default-return_type c =
    let void : type_code_in c.return_type.result ≡ 0 = rw c.in-Ok-return_type.is c.if-t-ne0.false in
    invoke-void _ _ _ _ _ _ _ (there c.args.e) c.return_type.result _ [] c.in-Ok.ensures c.return_type.ensures
    c.in_ok-called.ensures void

pub returns-in_default-return_type-2 : goal.returns-in_default-return_type-2
returns-in_default-return_type-2 c =
    let void : type_code_in c.return_type.result ≡ 0 = rw c.in_default-return_type.is refl in
    invoke-void _ _ _ _ _ _ _ (there c.args.e) c.return_type.result _ [] c.in-Ok.ensures c.return_type.ensures
    c.in_ok-called.ensures void
