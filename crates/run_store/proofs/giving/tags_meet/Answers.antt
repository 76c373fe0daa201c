-- `tags_meet` tests in the definition's order.
use mathlib.Core.Path.{refl, sym, ◌∙◌}
use borrow.Author.Tests.{eq-eqb, ne_eqb}
use Rattle.run_store.specs.StoreCode.{tags_meet}
use Rattle.run_store.proofs.Laws.{or-none}
use Rattle.run_store.proofs.giving.tags_meet.Goals as goal

pub returns-then-a-b : goal.returns-then-a-b
unfolding tags_meet
returns-then-a-b c =
    let args = c.args in
    rw (eq-eqb args.a args.b c.if-a-b.true) refl

pub returns-then-a-eq4 : goal.returns-then-a-eq4
unfolding tags_meet
returns-then-a-eq4 c =
    let args = c.args in
    rw (
      ne_eqb args.a args.b c.if-a-b.false,
      eq-eqb args.a 4 c.if-a-eq4.true,
      ne_eqb args.b 4 (λ e. c.if-a-b.false (c.if-a-eq4.true ∙ sym e)),
    )
    (or-none _)

pub returns-then-b-eq4 : goal.returns-then-b-eq4
unfolding tags_meet
returns-then-b-eq4 c =
    let args = c.args in
    rw (
      ne_eqb args.a args.b c.if-a-b.false,
      ne_eqb args.a 4 c.if-a-eq4.false,
      eq-eqb args.b 4 c.if-b-eq4.true,
    )
    refl

pub returns : goal.returns
unfolding tags_meet
returns c =
    let args = c.args in
    rw (
      ne_eqb args.a args.b c.if-a-b.false,
      ne_eqb args.a 4 c.if-a-eq4.false,
      ne_eqb args.b 4 c.if-b-eq4.false,
    )
    refl
