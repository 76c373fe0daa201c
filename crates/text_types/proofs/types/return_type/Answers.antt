-- `return_type`: void or a type.
use native.Mathlib.Omega.{arith}
use mathlib.Core.Bool.{true}
use mathlib.Core.Path.{refl, sym, ◌∙◌}
use Rattle.text_types.proofs.Answers.{kind-next, passed-next}
use Rattle.text_types.proofs.TypeLaws.{void-says, other-says}
use Rattle.text_types.proofs.types.return_type.Goals as goal

pub returns-then-t-eq-VOID : goal.returns-then-t-eq-VOID
returns-then-t-eq-VOID c =
    let g = c.args in
    let n = c.next_token-t.ensures in
    let kind = c.if-t-eq-VOID.true in
    void-says g.text.now g.from true _ 0 (kind-next g.text.now g.from _ n ∙ kind) refl
    (passed-next g.text.now g.from _ n (λ e. omega arith)) refl

pub returns : goal.returns
returns c =
    let g = c.args in
    let same = kind-next g.text.now g.from _ c.next_token-t.ensures in
    other-says g.text.now g.from _ _ _ (λ e. c.if-t-eq-VOID.false (sym same ∙ e)) c.non_void_type.ensures
