-- `carried`: a token of one of the three kinds, or not.
use Rattle.text_types.specs.SaysCode.{is_plain}
use mathlib.Core.Bool.{true, false}
use mathlib.Core.Path.{refl, sym, ap, ◌∙◌}
use Rattle.text_types.proofs.Answers.{kind-next, at_next, passed-next}
use Rattle.text_types.proofs.TypeLaws.{carried-read, carried-left, plain-bytes}
use Rattle.text_types.proofs.types.carried.Goals as goal

pub returns-then-is_plain : goal.returns-then-is_plain
returns-then-is_plain c =
    let g = c.args in
    let n = c.next_token-t.ensures in
    let text = g.text.now in
    let same = kind-next text g.from _ n in
    let test = ap is_plain same ∙ sym c.is_plain.ensures ∙ c.if-is_plain.true in
    carried-read text g.from true _ _ test refl
    (passed-next text g.from _ n (λ e. plain-bytes text g.from test (same ∙ e))) (sym same)

pub returns-else-is_plain : goal.returns-else-is_plain
returns-else-is_plain c =
    let g = c.args in
    let n = c.next_token-t.ensures in
    let text = g.text.now in
    let test = ap is_plain (kind-next text g.from _ n) ∙ sym c.is_plain.ensures ∙ c.if-is_plain.false in
    carried-left text g.from false _ 0 test refl (sym (at_next text g.from _ n))
