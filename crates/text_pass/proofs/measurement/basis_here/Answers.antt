-- `basis_here`: the next token is StdBasis or not.
use mathlib.Core.Path.{sym, ◌∙◌}
use Rattle.text_pass.proofs.MeasurementLaws.{basis-stands, basis-missing}
use Rattle.text_pass.proofs.measurement.basis_here.Goals as goal

pub returns-then-is_std_basis : goal.returns-then-is_std_basis
returns-then-is_std_basis c =
    let g = c.args in
    basis-stands g.text.now g.from _ c.next_token-t.ensures
    (sym c.is_std_basis.ensures ∙ c.if-is_std_basis.true)

pub returns-else-is_std_basis : goal.returns-else-is_std_basis
returns-else-is_std_basis c =
    let g = c.args in
    basis-missing g.text.now g.from _ c.next_token-t.ensures
    (sym c.is_std_basis.ensures ∙ c.if-is_std_basis.false)
