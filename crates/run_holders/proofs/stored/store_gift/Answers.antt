-- `store_gift` goes by the kind of thing.
use mathlib.Core.Path.{refl}
use borrow.Author.Tests.{eq-eqb, ne_eqb}
use Rattle.run_holders.specs.StoredCode.{gift_stored}
use Rattle.lists.proofs.Tests.{took, passed-by}
use Rattle.run_holders.proofs.stored.store_gift.Goals as goal

pub returns-then-l-eq3 : goal.returns-then-l-eq3
unfolding gift_stored
returns-then-l-eq3 c =
    let kind = c.args.l.b in
    took _ _ _ refl (eq-eqb kind 3 c.if-l-eq3.true) c.store_qubit.ensures

pub returns-then-l-eq4 : goal.returns-then-l-eq4
unfolding gift_stored
returns-then-l-eq4 c =
    let kind = c.args.l.b in
    passed-by _ _ _ refl (ne_eqb kind 3 c.if-l-eq3.false)
    (took _ _ _ refl (eq-eqb kind 4 c.if-l-eq4.true) c.store_channel.ensures)

pub returns-then-l-eq5 : goal.returns-then-l-eq5
unfolding gift_stored
returns-then-l-eq5 c =
    let kind = c.args.l.b in
    passed-by _ _ _ refl (ne_eqb kind 3 c.if-l-eq3.false)
    (passed-by _ _ _ refl (ne_eqb kind 4 c.if-l-eq4.false)
    (took _ _ _ refl (eq-eqb kind 5 c.if-l-eq5.true) c.store_end.ensures))

pub returns-then-l-eq6 : goal.returns-then-l-eq6
unfolding gift_stored
returns-then-l-eq6 c =
    let kind = c.args.l.b in
    passed-by _ _ _ refl (ne_eqb kind 3 c.if-l-eq3.false)
    (passed-by _ _ _ refl (ne_eqb kind 4 c.if-l-eq4.false)
    (passed-by _ _ _ refl (ne_eqb kind 5 c.if-l-eq5.false)
    (took _ _ _ refl (eq-eqb kind 6 c.if-l-eq6.true) c.store_end-then-l-eq6.ensures)))

pub returns-else-l-eq6 : goal.returns-else-l-eq6
unfolding gift_stored
returns-else-l-eq6 c =
    let kind = c.args.l.b in
    passed-by _ _ _ refl (ne_eqb kind 3 c.if-l-eq3.false)
    (passed-by _ _ _ refl (ne_eqb kind 4 c.if-l-eq4.false)
    (passed-by _ _ _ refl (ne_eqb kind 5 c.if-l-eq5.false)
    (passed-by _ _ _ refl (ne_eqb kind 6 c.if-l-eq6.false) refl)))
