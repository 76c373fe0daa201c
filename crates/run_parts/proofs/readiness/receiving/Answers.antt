-- `receiving` goes by whether the end is emptied.
use Rattle.run_parts.specs.ReadinessCode.{receive_of}
use Rattle.lists.proofs.Tests.{took, passed-by}
use Rattle.run_store.specs.declared.values.Val.{Val}
use Rattle.run_store.specs.StoreCode.{value_at}
use mathlib.Core.Path.{refl, ◌∙◌, ap}
use lib.Dec.{eqb}
use borrow.Author.Tests.{eq-eqb, ne_eqb}
use Rattle.run_parts.proofs.readiness.receiving.Goals as goal

pub returns-then-end-eq0 : goal.returns-then-end-eq0
unfolding receive_of
returns-then-end-eq0 c =
    let args = c.args in
    took _ _ _
    (ap (λ (v : Val). eqb v.tag 0) (c.value-end.ensures ∙ ap (value_at args.w.now) c.top.ensures))
    (eq-eqb _ 0 c.if-end-eq0.true) refl

pub returns : goal.returns
unfolding receive_of
returns c =
    let args = c.args in
    passed-by _ _ _
    (ap (λ (v : Val). eqb v.tag 0) (c.value-end.ensures ∙ ap (value_at args.w.now) c.top.ensures))
    (ne_eqb _ 0 c.if-end-eq0.false) (cc)
