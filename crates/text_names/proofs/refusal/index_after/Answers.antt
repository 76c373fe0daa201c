-- `index_after` by its test.
use mathlib.Core.Path.{refl}
use borrow.Author.Tests.{eq-eqb, ne_eqb}
use native.Mathlib.Omega.{arith}
use Rattle.text_names.specs.FaultsCode.{index_after}
use Rattle.text_names.proofs.refusal.index_after.Goals as goal

pub returns-then-r-eq1 : goal.returns-then-r-eq1
unfolding index_after
returns-then-r-eq1 c = rw (eq-eqb c.args.r 1 c.if-r-eq1.true) (omega arith)

pub returns : goal.returns
unfolding index_after
returns c = rw (ne_eqb c.args.r 1 c.if-r-eq1.false) refl
