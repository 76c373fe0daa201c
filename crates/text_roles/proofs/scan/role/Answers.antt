-- `role` by its test.
use borrow.Author.Tests.{eq-eqb, ne_eqb}
use Rattle.text_scan.specs.ScanCode.{role}
use Rattle.text_roles.proofs.scan.role.Goals as goal

pub returns-then-kind-eq-NAME : goal.returns-then-kind-eq-NAME
unfolding role
returns-then-kind-eq-NAME c = rw (eq-eqb c.args.kind 33 c.if-kind-eq-NAME.true) c.name_role.ensures

pub returns : goal.returns
unfolding role
returns c = rw (ne_eqb c.args.kind 33 c.if-kind-eq-NAME.false) c.brace_role.ensures
