-- `expression`: where all before it fits.
use mathlib.Core.Path.{refl}
use mathlib.Core.Logic.{inl, inr}
use Rattle.text.specs.Limits.{expr_numbers}
use Rattle.text_parse.specs.Equations.{expr_from}
use Rattle.text_numbering.specs.CodeBy.{code_by, place_of}
use Rattle.text_numbering.proofs.CodeLaws.{numbers_fit}
use Rattle.text_emit.specs.Reached.{there}
use Rattle.text_emit.proofs.PartLaws.{part-within, part-fits, part-refused}
use Rattle.text_emit.proofs.parts.expression.Goals as goal

pub returns-then-text-e : goal.returns-then-text-e
returns-then-text-e c =
    part-within _ _ _ expr_from (code_by place_of) expr_numbers (numbers_fit place_of) (there c.args.e) _ _ refl (inl c.if-text-e.true)

pub returns-then-e-gt4096 : goal.returns-then-e-gt4096
returns-then-e-gt4096 c =
    part-within _ _ _ expr_from (code_by place_of) expr_numbers (numbers_fit place_of) (there c.args.e) _ _ refl (inr c.if-e-gt4096.true)

pub returns-in_err-a : goal.returns-in_err-a
returns-in_err-a c =
    rw c.from_residual.ensures
    (part-refused _ _ _ expr_from (code_by place_of) expr_numbers (numbers_fit place_of) (there c.args.e) _ _
    _ c.in_err-a.ensures.value refl c.emit_expression.ensures.0)

pub returns : goal.returns
returns c =
    part-fits _ _ _ expr_from (code_by place_of) expr_numbers (numbers_fit place_of) (there c.args.e) _ _
    _ c.in_ok-a.a c.in_ok-a.ensures.value refl c.emit_expression.ensures.0
