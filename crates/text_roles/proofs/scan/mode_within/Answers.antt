-- `mode_within` by its tests.
use mathlib.Core.Path.{refl, sym, ◌∙◌}
use borrow.Author.Tests.{eq-eqb, ne_eqb}
use Rattle.text_scan.specs.ScanCode.{is_type_kind, mode_within}
use lib.Dec.{eqb}
use Rattle.text_roles.proofs.Tests.{begins}
use Rattle.text_roles.proofs.scan.mode_within.Goals as goal

pub returns-then-kind-eq-SEMICOLON : goal.returns-then-kind-eq-SEMICOLON
unfolding mode_within is_type_kind
returns-then-kind-eq-SEMICOLON c = rw (eq-eqb c.args.mode 4 c.if-mode-eq4.true, eq-eqb c.args.kind 26 c.if-kind-eq-SEMICOLON.true) refl

pub returns-then-mode-eq4 : goal.returns-then-mode-eq4
unfolding mode_within is_type_kind
returns-then-mode-eq4 c = rw (eq-eqb c.args.mode 4 c.if-mode-eq4.true, ne_eqb c.args.kind 26 c.if-kind-eq-SEMICOLON.false) refl

pub returns-then-mode-eq2 : goal.returns-then-mode-eq2
unfolding mode_within is_type_kind
returns-then-mode-eq2 c = rw (ne_eqb c.args.mode 4 c.if-mode-eq4.false, eq-eqb c.args.mode 2 c.if-mode-eq2.true) refl

pub returns-then-kind-eq-MEASURE : goal.returns-then-kind-eq-MEASURE
unfolding mode_within is_type_kind
returns-then-kind-eq-MEASURE c =
    rw (
      ne_eqb c.args.mode 4 c.if-mode-eq4.false,
      ne_eqb c.args.mode 2 c.if-mode-eq2.false,
      eq-eqb c.args.kind 9 c.if-kind-eq-MEASURE.true,
    ) refl

pub returns-then-ends_part : goal.returns-then-ends_part
unfolding mode_within is_type_kind
returns-then-ends_part c =
    rw (
      ne_eqb c.args.mode 4 c.if-mode-eq4.false,
      ne_eqb c.args.mode 2 c.if-mode-eq2.false,
      ne_eqb c.args.kind 9 c.if-kind-eq-MEASURE.false,
      sym c.ends_part.ensures ∙ c.if-ends_part.true,
    ) refl

pub returns-then-mode-starts_type : goal.returns-then-mode-starts_type
unfolding mode_within is_type_kind
returns-then-mode-starts_type c =
    rw (
      ne_eqb c.args.mode 4 c.if-mode-eq4.false,
      ne_eqb c.args.mode 2 c.if-mode-eq2.false,
      ne_eqb c.args.kind 9 c.if-kind-eq-MEASURE.false,
      sym c.ends_part.ensures ∙ c.if-ends_part.false,
      begins (eqb c.args.mode 1) _ _ c.starts_type.ensures c.if-mode-starts_type.true,
    ) refl

pub returns : goal.returns
unfolding mode_within is_type_kind
returns c =
    rw (
      ne_eqb c.args.mode 4 c.if-mode-eq4.false,
      ne_eqb c.args.mode 2 c.if-mode-eq2.false,
      ne_eqb c.args.kind 9 c.if-kind-eq-MEASURE.false,
      sym c.ends_part.ensures ∙ c.if-ends_part.false,
      begins (eqb c.args.mode 1) _ _ c.starts_type.ensures c.if-mode-starts_type.false,
    ) refl
