-- `read_readiness` goes by the status, and then by the op.
use Rattle.run_parts.specs.ReadinessCode.{readiness_op, send_of, receive_of}
use Rattle.run_parts.proofs.Returns.{stands_at}
use Rattle.lists.proofs.Tests.{took, passed-by}
use Rattle.run_store.specs.StoreCode.{head_of}
use Rattle.run_store.specs.declared.head.Head.{Head}
use mathlib.Core.Path.{refl, ◌∙◌, ap}
use borrow.Author.Tests.{eq-eqb, ne_eqb}
use Rattle.run_parts.proofs.readiness.read_readiness.Goals as goal

pub returns-then-h-ne1 : goal.returns-then-h-ne1
unfolding readiness_op
returns-then-h-ne1 c =
    let args = c.args in
    passed-by _ _ _ refl
    (ne_eqb (head_of args.w.now).status 1
    (λ e. c.if-h-ne1.true (ap (λ (h : Head). h.status) c.read_head-h.ensures ∙ e))) refl

pub returns-then-op-eq15 : goal.returns-then-op-eq15
returns-then-op-eq15 c =
    stands_at c.args.p.now c.args.w.now c.read_head-h.ensures
    c.if-h-ne1.false c.op-op.ensures
    (took _ _ _ refl (eq-eqb _ 15 c.if-op-eq15.true)
    (c.sending.ensures ∙ ap (send_of c.args.w.now) c.wait.ensures))

pub returns-then-op-eq16 : goal.returns-then-op-eq16
returns-then-op-eq16 c =
    stands_at c.args.p.now c.args.w.now c.read_head-h.ensures
    c.if-h-ne1.false c.op-op.ensures
    (passed-by _ _ _ refl (ne_eqb _ 15 c.if-op-eq15.false)
    (took _ _ _ refl (eq-eqb _ 16 c.if-op-eq16.true)
    (c.receiving.ensures ∙ ap (receive_of c.args.w.now) c.wait-then-op-eq16.ensures)))

pub returns : goal.returns
returns c =
    stands_at c.args.p.now c.args.w.now c.read_head-h.ensures
    c.if-h-ne1.false c.op-op.ensures
    (passed-by _ _ _ refl (ne_eqb _ 15 c.if-op-eq15.false)
    (passed-by _ _ _ refl (ne_eqb _ 16 c.if-op-eq16.false) refl))
