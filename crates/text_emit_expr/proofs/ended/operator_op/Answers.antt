-- `operator_op` by its tests.
use mathlib.Core.Path.{refl}
use native.Mathlib.Omega.{arith}
use borrow.Author.Tests.{eq-eqb, ne_eqb}
use Rattle.text_emit_expr.specs.EndsCode.{operator_word}
use Rattle.text_emit_expr.proofs.ended.operator_op.Goals as goal

pub returns-then-kind-eq-PLUS : goal.returns-then-kind-eq-PLUS
unfolding operator_word
returns-then-kind-eq-PLUS c = (rw (eq-eqb c.args.kind 27 c.if-kind-eq-PLUS.true) refl, λ e. omega (arith, e))

pub returns-then-kind-eq-MINUS : goal.returns-then-kind-eq-MINUS
unfolding operator_word
returns-then-kind-eq-MINUS c = (rw (ne_eqb c.args.kind 27 c.if-kind-eq-PLUS.false, eq-eqb c.args.kind 28 c.if-kind-eq-MINUS.true) refl, λ e. omega (arith, e))

pub returns-then-kind-eq-EQUALS : goal.returns-then-kind-eq-EQUALS
unfolding operator_word
returns-then-kind-eq-EQUALS c = (rw (ne_eqb c.args.kind 27 c.if-kind-eq-PLUS.false, ne_eqb c.args.kind 28 c.if-kind-eq-MINUS.false, eq-eqb c.args.kind 30 c.if-kind-eq-EQUALS.true) refl, λ e. omega (arith, e))

pub returns-then-kind-eq-LESS : goal.returns-then-kind-eq-LESS
unfolding operator_word
returns-then-kind-eq-LESS c = (rw (ne_eqb c.args.kind 27 c.if-kind-eq-PLUS.false, ne_eqb c.args.kind 28 c.if-kind-eq-MINUS.false, ne_eqb c.args.kind 30 c.if-kind-eq-EQUALS.false, eq-eqb c.args.kind 31 c.if-kind-eq-LESS.true) refl, λ e. omega (arith, e))

pub returns : goal.returns
unfolding operator_word
returns c = rw (ne_eqb c.args.kind 27 c.if-kind-eq-PLUS.false, ne_eqb c.args.kind 28 c.if-kind-eq-MINUS.false, ne_eqb c.args.kind 30 c.if-kind-eq-EQUALS.false, ne_eqb c.args.kind 31 c.if-kind-eq-LESS.false) refl
