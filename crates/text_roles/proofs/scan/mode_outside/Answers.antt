-- `mode_outside` by its test.
use mathlib.Core.Path.{refl}
use borrow.Author.Tests.{eq-eqb, ne_eqb}
use Rattle.text_scan.specs.ScanCode.{is_none, mode_after}
use Rattle.text_roles.proofs.scan.mode_outside.Goals as goal

pub returns-then-kind-eq-OPEN_BRACE : goal.returns-then-kind-eq-OPEN_BRACE
unfolding mode_after is_none
returns-then-kind-eq-OPEN_BRACE c = rw (eq-eqb c.args.kind 21 c.if-kind-eq-OPEN_BRACE.true) refl

pub returns : goal.returns
unfolding mode_after is_none
returns c = rw (ne_eqb c.args.kind 21 c.if-kind-eq-OPEN_BRACE.false) refl
