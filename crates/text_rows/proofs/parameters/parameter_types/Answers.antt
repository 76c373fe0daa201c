-- `parameter_types`: none, or one and those after it.
use mathlib.Core.Path.{refl}
use Rattle.text_types.proofs.TypeLaws.{not-both}
use Rattle.text_rows.proofs.ReadingLaws.{none-noted, some-noted}
use Rattle.text_rows.proofs.parameters.parameter_types.Goals as goal

pub returns-in-Ok : goal.returns-in-Ok
returns-in-Ok c = none-noted c.args.text.now c.args.from c.args.row.now refl c.in-Ok.ensures

pub returns-in_default-parameter_type : goal.returns-in_default-parameter_type
returns-in_default-parameter_type c =
    let g = c.args in
    some-noted g.text.now g.from 0 g.row.now g.row.now g.row.now refl c.in_default.ensures
    c.in_default-parameter_type.ensures (λ o. not-both o refl) (λ o. not-both o refl)

pub returns : goal.returns
returns c =
    let g = c.args in
    some-noted g.text.now g.from c.in-Ok-parameter_type.p.code g.row.now c.note.new.row c.more_types.new.row refl
    c.in_default.ensures c.in-Ok-parameter_type.ensures (λ o. c.note.ensures) (λ o. c.more_types.ensures)
