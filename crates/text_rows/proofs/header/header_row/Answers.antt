-- `header_row`: the words of the header, where the text has one.
use mathlib.Core.Path.{refl}
use mathlib.Core.List.{◌∷◌}
use lib.ListN.{replicate}
use Rattle.text_types.proofs.Answers.{then, gone}
use Rattle.text_types.proofs.TypeLaws.{not-both}
use Rattle.text_types.proofs.Every.{every-at}
use Rattle.text_rows.proofs.ReadingLaws.{header-noted}
use Rattle.text_rows.proofs.header.header_row.Goals as goal

pub returns-in_default : goal.returns-in_default
returns-in_default c =
    let g = c.args in
    λ m us e. every-at _ m us e
    (header-noted g.text.now g.at 0 (0 ∷ 0 ∷ replicate 16 0) c.in_default.ensures gone gone (λ o. not-both o refl))

pub returns-in_default-expect : goal.returns-in_default-expect
returns-in_default-expect c =
    let g = c.args in
    let t = c.in-Ok.t in
    λ m us e. every-at _ m us e
    (header-noted g.text.now g.at t.code (t.code ∷ 0 ∷ replicate 16 0) c.in-Ok.ensures (then c.in_default-expect.ensures)
    gone (λ o. not-both o refl))

pub returns-in_default-expect-2 : goal.returns-in_default-expect-2
returns-in_default-expect-2 c =
    let g = c.args in
    let t = c.in-Ok.t in
    λ m us e. every-at _ m us e
    (header-noted g.text.now g.at t.code (t.code ∷ 0 ∷ replicate 16 0) c.in-Ok.ensures (then c.in-Ok-expect.ensures)
    (then c.in_default-expect-2.ensures) (λ o. not-both o refl))

pub returns : goal.returns
returns c =
    let g = c.args in
    λ m us e. every-at _ m us e
    (header-noted g.text.now g.at c.in-Ok.t.code c.parameter_types.new.row c.in-Ok.ensures (then c.in-Ok-expect.ensures)
    (then c.in-Ok-expect-2.ensures) (λ o. c.parameter_types.ensures))
