-- `name_role` by its tests.
use mathlib.Core.Path.{refl}
use borrow.Author.Tests.{eq-eqb, ne_eqb}
use Rattle.text_scan.specs.ScanCode.{name_role}
use Rattle.text_roles.proofs.Tests.{is-none, not_none}
use Rattle.text_roles.proofs.scan.name_role.Goals as goal

pub returns-then-following-eq-OPEN : goal.returns-then-following-eq-OPEN
unfolding name_role
returns-then-following-eq-OPEN c = rw (is-none c.args.braces c.if-braces-eq0.true, eq-eqb c.args.following 19 c.if-following-eq-OPEN.true) refl

pub returns-then-braces-eq0 : goal.returns-then-braces-eq0
unfolding name_role
returns-then-braces-eq0 c = rw (is-none c.args.braces c.if-braces-eq0.true, ne_eqb c.args.following 19 c.if-following-eq-OPEN.false) refl

pub returns-then-mode-eq4 : goal.returns-then-mode-eq4
unfolding name_role
returns-then-mode-eq4 c = rw (not_none c.args.braces c.if-braces-eq0.false, eq-eqb c.args.mode 4 c.if-mode-eq4.true) refl

pub returns-then-mode-eq3 : goal.returns-then-mode-eq3
unfolding name_role
returns-then-mode-eq3 c =
    rw (
      not_none c.args.braces c.if-braces-eq0.false,
      ne_eqb c.args.mode 4 c.if-mode-eq4.false,
      eq-eqb c.args.mode 3 c.if-mode-eq3.true,
    ) refl

pub returns-then-mode-eq1 : goal.returns-then-mode-eq1
unfolding name_role
returns-then-mode-eq1 c =
    rw (
      not_none c.args.braces c.if-braces-eq0.false,
      ne_eqb c.args.mode 4 c.if-mode-eq4.false,
      ne_eqb c.args.mode 3 c.if-mode-eq3.false,
      eq-eqb c.args.following 19 c.if-following-eq-OPEN-2.true,
      eq-eqb c.args.mode 1 c.if-mode-eq1.true,
    ) refl

pub returns-then-following-eq-OPEN-2 : goal.returns-then-following-eq-OPEN-2
unfolding name_role
returns-then-following-eq-OPEN-2 c =
    rw (
      not_none c.args.braces c.if-braces-eq0.false,
      ne_eqb c.args.mode 4 c.if-mode-eq4.false,
      ne_eqb c.args.mode 3 c.if-mode-eq3.false,
      eq-eqb c.args.following 19 c.if-following-eq-OPEN-2.true,
      ne_eqb c.args.mode 1 c.if-mode-eq1.false,
    ) refl

pub returns : goal.returns
unfolding name_role
returns c =
    rw (
      not_none c.args.braces c.if-braces-eq0.false,
      ne_eqb c.args.mode 4 c.if-mode-eq4.false,
      ne_eqb c.args.mode 3 c.if-mode-eq3.false,
      ne_eqb c.args.following 19 c.if-following-eq-OPEN-2.false,
    ) refl
