-- `body`: the declarations, and then the statements if all variables have slots.
use native.Mathlib.Omega.{arith}
use mathlib.Core.Path.{refl}
use Rattle.text_emit_method.proofs.BodyLaws.{body-many, body-written}
use Rattle.text_emit_method.proofs.body.body.Goals as goal

pub returns-then-pending-lt12288 : goal.returns-then-pending-lt12288
returns-then-pending-lt12288 c = λ p. absurd (let short = c.if-pending-lt12288.true in omega arith)

pub returns-in_default : goal.returns-in_default
returns-in_default c =
    let brace = c.next_token-open in
    λ p. body-many _ _ _ _ _ _ _ _ brace.result _ _ _ _ brace.ensures c.in_default.ensures _ _ _ refl

pub returns : goal.returns
returns c =
    let brace = c.next_token-open in
    λ p. body-written _ _ _ _ _ _ _ _ brace.result _ _ _ _ brace.ensures c.in-Ok.ensures _ _ _ _ refl
    c.statements.ensures
