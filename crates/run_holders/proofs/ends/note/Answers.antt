-- `note` tests the kind, then the thing given, in the definition's order.
use borrow.Author.Tests.{eq-eqb, ne_eqb}
use Rattle.run_holders.specs.HoldersCode.{holders_after}
use Rattle.run_holders.proofs.ends.note.Goals as goal

pub returns-then-l-eq2 : goal.returns-then-l-eq2
unfolding holders_after
returns-then-l-eq2 c =
    let l = c.args.l in
    rw (eq-eqb l.kind 2 c.if-l-eq2.true) c.give_channel.ensures

pub returns-then-l-ne6 : goal.returns-then-l-ne6
unfolding holders_after
returns-then-l-ne6 c =
    let l = c.args.l in
    rw (ne_eqb l.kind 2 c.if-l-eq2.false, ne_eqb l.kind 6 c.if-l-ne6.true)

pub returns-then-l-eq4 : goal.returns-then-l-eq4
unfolding holders_after
returns-then-l-eq4 c =
    let l = c.args.l in
    rw (
      ne_eqb l.kind 2 c.if-l-eq2.false,
      eq-eqb l.kind 6 c.if-l-ne6.false,
      eq-eqb l.b 4 c.if-l-eq4.true,
    )
    c.give_channel-then-l-eq4.ensures

pub returns-then-l-eq5 : goal.returns-then-l-eq5
unfolding holders_after
returns-then-l-eq5 c =
    let args = c.args in
    let l = args.l in
    rw (
      ne_eqb l.kind 2 c.if-l-eq2.false,
      eq-eqb l.kind 6 c.if-l-ne6.false,
      ne_eqb l.b 4
          c.if-l-eq4.false,
      eq-eqb l.b 5 c.if-l-eq5.true,
    ) c.give_end.ensures

pub returns-then-l-eq6 : goal.returns-then-l-eq6
unfolding holders_after
returns-then-l-eq6 c =
    let args = c.args in
    let l = args.l in
    rw (
      ne_eqb l.kind 2 c.if-l-eq2.false,
      eq-eqb l.kind 6 c.if-l-ne6.false,
      ne_eqb l.b 4
          c.if-l-eq4.false,
      ne_eqb l.b 5 c.if-l-eq5.false,
      eq-eqb l.b 6 c.if-l-eq6.true,
    )
    c.give_end-then-l-eq6.ensures

pub returns : goal.returns
unfolding holders_after
returns c =
    let args = c.args in
    let l = args.l in
    rw (
      ne_eqb l.kind 2 c.if-l-eq2.false,
      eq-eqb l.kind 6 c.if-l-ne6.false,
      ne_eqb l.b 4
          c.if-l-eq4.false,
      ne_eqb l.b 5 c.if-l-eq5.false,
      ne_eqb l.b 6 c.if-l-eq6.false,
    )
