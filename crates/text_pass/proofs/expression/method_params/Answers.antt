-- `method_params`: what is answered from each argument on is answered from the first.
use native.Mathlib.Omega.{arith}
use Prim.Native.Nat.{◌≤◌, ◌<◌}
use mathlib.Core.Path.{◌≡◌, refl, ap}
use mathlib.Core.Logic.{◌⊎◌, inl, inr}
use mathlib.Core.Bool.{false}
use Rattle.text_types.specs.Answer.{place_at}
use lib.ListN.{length}
use Rattle.std.specs.Prelude.{is_ok}
use Rattle.text_types.proofs.Answers.{passed_ok, stays}
use Rattle.text_pass.proofs.ArgumentLaws.{params-left, params-on, params-end, params-close}
use Rattle.text_pass.proofs.expression.method_params.Goals.{in_default-via-in-Ok+else-at-comma, in_default-via-in_default}
use Rattle.text_pass.proofs.expression.method_params.Goals as goal

pub loop-e-init : goal.loop-e-init
loop-e-init c = λ scopes o le ok r h. h

pub returns-in_err-e : goal.returns-in_err-e
returns-in_err-e c =
    λ scopes o le.
    rw (stays c.from_residual.ensures)
    (c.loop-e.invariant scopes o le _ _
    (params-left scopes c.args.text.now c.loop-e.at refl (c.in_err-e.ensures scopes o le)))

pub returns-in_default : goal.returns-in_default
returns-in_default c =
    let over : (is_ok c.expect.result ≡ false) ⊎ (place_at c.expect.result ≤ c.loop-e.at) =
    elim c.in_default.branch [
      | in_default-via-in-Ok+else-at-comma w ↦ inr (rw w.in-Ok.is (omega (arith, w.if-at-comma.false)))
      | in_default-via-in_default w ↦ inl (ap is_ok w.in_default.is)
    ] in
    λ scopes o le.
    c.loop-e.invariant scopes o le _ _
    (params-close scopes c.args.text.now c.loop-e.at refl (c.in_ok-e.ensures scopes o le) over c.expect.ensures
    c.expect-in_default.ensures)

pub loop-e-smaller : goal.loop-e-smaller
loop-e-smaller c =
    let p = passed_ok c.args.text.now c.in_ok-e.e 25 (λ g. omega arith) refl c.in-Ok.ensures in
    let further : c.loop-e.at < c.in-Ok.comma = c.if-at-comma.true in
    let within : c.in-Ok.comma ≤ length c.args.text.now = p.within in omega arith

pub loop-e-preserved : goal.loop-e-preserved
loop-e-preserved c =
    λ scopes o le ok r h.
    c.loop-e.invariant scopes o le ok r
    (params-on scopes c.args.text.now c.loop-e.at refl (c.in_ok-e.ensures scopes o le) refl c.in-Ok.ensures h)
