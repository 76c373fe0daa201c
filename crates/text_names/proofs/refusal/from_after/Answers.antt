-- `from_after` by its test.
use mathlib.Core.Path.{refl}
use borrow.Author.Tests.{eq-eqb, ne_eqb}
use Rattle.text_names.proofs.refusal.from_after.Goals as goal

pub returns-then-r-eq1 : goal.returns-then-r-eq1
returns-then-r-eq1 c = rw (eq-eqb c.args.r 1 c.if-r-eq1.true) refl

pub returns : goal.returns
returns c = rw (ne_eqb c.args.r 1 c.if-r-eq1.false) refl
