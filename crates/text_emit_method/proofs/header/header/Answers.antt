-- `header`: the return type, the name and the parameters one after the other.
use mathlib.Core.Path.{refl}
use Rattle.text_types.proofs.TypeLaws.{not-both}
use Rattle.text_emit_method.specs.StepsCode.{empty_row}
use Rattle.text_emit_method.proofs.HeaderLaws.{header-refused, header-enters, counted-entering, too-many-rows}
use Rattle.text_emit_method.proofs.header.header.Goals as goal

pub returns-in_default : goal.returns-in_default
returns-in_default c = header-refused c.in_default.field-0 c.in_default.ensures

pub returns-in-Ok-parameters : goal.returns-in-Ok-parameters
unfolding empty_row
returns-in-Ok-parameters c =
    let name = c.next_token-name in
    let paren = c.next_token-open in
    header-enters _ _ _ _ _ _ _ c.in-Ok.t name.result paren.result _ _ _ _ _ _ c.in-Ok.ensures name.ensures
    paren.ensures c.in-Ok-parameters.ensures (λ o. refl)
    (λ long ps. counted-entering _ _ _ _ _ _ _ _ long ps c.as_word.ensures)

pub returns-in-Err : goal.returns-in-Err
unfolding empty_row
returns-in-Err c =
    let name = c.next_token-name in
    let paren = c.next_token-open in
    header-enters _ _ _ _ _ _ _ c.in-Ok.t name.result paren.result _ _ _ _ _ _ c.in-Ok.ensures name.ensures
    paren.ensures c.in-Err.ensures (λ o. not-both o refl) (λ long ps e. too-many-rows ps e)
