-- `mode_after` by its tests.
use mathlib.Core.Path.{refl}
use borrow.Author.Tests.{eq-eqb, ne_eqb}
use Rattle.text_scan.specs.ScanCode.{is_none, mode_after}
use Rattle.text_roles.proofs.Tests.{is-none, not_none, is_one, not-one}
use Rattle.text_roles.proofs.scan.mode_after.Goals as goal

pub returns-then-braces-eq0 : goal.returns-then-braces-eq0
unfolding mode_after is_none
returns-then-braces-eq0 c = rw (is-none c.args.braces c.if-braces-eq0.true) c.mode_outside.ensures

pub returns-then-braces-eq1 : goal.returns-then-braces-eq1
unfolding mode_after is_none
returns-then-braces-eq1 c =
    rw (
      not_none c.args.braces c.if-braces-eq0.false,
      eq-eqb c.args.kind 22 c.if-kind-eq-CLOSE_BRACE.true,
      is_one c.args.braces c.if-braces-eq1.true,
    ) refl

pub returns-then-kind-eq-CLOSE_BRACE : goal.returns-then-kind-eq-CLOSE_BRACE
unfolding mode_after is_none
returns-then-kind-eq-CLOSE_BRACE c =
    rw (
      not_none c.args.braces c.if-braces-eq0.false,
      eq-eqb c.args.kind 22 c.if-kind-eq-CLOSE_BRACE.true,
      not-one c.args.braces c.if-braces-eq0.false c.if-braces-eq1.false,
    ) refl

pub returns : goal.returns
unfolding mode_after is_none
returns c =
    rw (not_none c.args.braces c.if-braces-eq0.false, ne_eqb c.args.kind 22 c.if-kind-eq-CLOSE_BRACE.false)
    c.mode_within.ensures
