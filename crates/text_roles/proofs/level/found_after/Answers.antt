-- `found_after` by its tests.
use mathlib.Core.Path.{refl}
use borrow.Author.Tests.{eq-eqb, ne_eqb}
use Rattle.text_roles.specs.FoundCode.{found_after}
use Rattle.text_roles.proofs.Tests.{declared-test}
use Rattle.text_roles.proofs.level.found_after.Goals as goal

pub returns-then-r-eq1 : goal.returns-then-r-eq1
unfolding found_after
returns-then-r-eq1 c = rw (eq-eqb c.args.r 1 c.if-r-eq1.true) refl

pub returns-then-found-least : goal.returns-then-found-least
unfolding found_after
returns-then-found-least c =
    rw (
      ne_eqb c.args.r 1 c.if-r-eq1.false,
      eq-eqb c.args.r 2 c.if-r-eq2.true,
      declared-test c.args.least c.args.braces c.args.found c.args.is _ c.level_of-level.ensures
          c.if-found-least.true,
    ) c.level_of-level.ensures

pub returns-then-r-eq2 : goal.returns-then-r-eq2
unfolding found_after
returns-then-r-eq2 c =
    rw (
      ne_eqb c.args.r 1 c.if-r-eq1.false,
      eq-eqb c.args.r 2 c.if-r-eq2.true,
      declared-test c.args.least c.args.braces c.args.found c.args.is _ c.level_of-level.ensures
          c.if-found-least.false,
    ) refl

pub returns-then-found-braces : goal.returns-then-found-braces
unfolding found_after
returns-then-found-braces c =
    rw (
      ne_eqb c.args.r 1 c.if-r-eq1.false,
      ne_eqb c.args.r 2 c.if-r-eq2.false,
      c.if-r.true,
      eq-eqb c.args.found c.args.braces c.if-found-braces.true,
    ) refl

pub returns-then-r : goal.returns-then-r
unfolding found_after
returns-then-r c =
    rw (
      ne_eqb c.args.r 1 c.if-r-eq1.false,
      ne_eqb c.args.r 2 c.if-r-eq2.false,
      c.if-r.true,
      ne_eqb c.args.found c.args.braces c.if-found-braces.false,
    ) refl

pub returns : goal.returns
unfolding found_after
returns c = rw (ne_eqb c.args.r 1 c.if-r-eq1.false, ne_eqb c.args.r 2 c.if-r-eq2.false, c.if-r.false) refl
