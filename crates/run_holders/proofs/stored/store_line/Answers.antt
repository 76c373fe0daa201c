-- `store_line` goes by the kind.
use mathlib.Core.Path.{refl}
use borrow.Author.Tests.{eq-eqb, ne_eqb}
use Rattle.run_holders.specs.StoredCode.{stored_after}
use Rattle.lists.proofs.Tests.{took, passed-by}
use Rattle.run_holders.proofs.stored.store_line.Goals as goal

pub returns-then-l-eq6 : goal.returns-then-l-eq6
unfolding stored_after
returns-then-l-eq6 c =
    let kind = c.args.l.kind in
    took _ _ _ refl (eq-eqb kind 6 c.if-l-eq6.true) c.store_gift.ensures

pub returns-then-l-eq2 : goal.returns-then-l-eq2
unfolding stored_after
returns-then-l-eq2 c =
    let kind = c.args.l.kind in
    passed-by _ _ _ refl (ne_eqb kind 6 c.if-l-eq6.false)
    (took _ _ _ refl (eq-eqb kind 2 c.if-l-eq2.true) c.store_channel.ensures)

pub returns-then-l-eq1 : goal.returns-then-l-eq1
unfolding stored_after
returns-then-l-eq1 c =
    let kind = c.args.l.kind in
    passed-by _ _ _ refl (ne_eqb kind 6 c.if-l-eq6.false)
    (passed-by _ _ _ refl (ne_eqb kind 2 c.if-l-eq2.false)
    (took _ _ _ refl (eq-eqb kind 1 c.if-l-eq1.true) c.store_qubit.ensures))

pub returns-else-l-eq1 : goal.returns-else-l-eq1
unfolding stored_after
returns-else-l-eq1 c =
    let kind = c.args.l.kind in
    passed-by _ _ _ refl (ne_eqb kind 6 c.if-l-eq6.false)
    (passed-by _ _ _ refl (ne_eqb kind 2 c.if-l-eq2.false)
    (passed-by _ _ _ refl (ne_eqb kind 1 c.if-l-eq1.false) refl))
