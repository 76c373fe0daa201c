-- `token_from`: a case for each kind of first byte.
use Prim.Native.Nat.{ℕ}
use mathlib.Core.Path.{sym, ap, ◌∙◌}
use mathlib.Core.Bool.{◌&&◌}
use lib.Dec.{eqb}
use lib.ListN.{get_or}
use Rattle.text_tokens.proofs.FirstByte.{token-past, token-word, token-number, token-equals, token-mark}
use Rattle.text_tokens.proofs.next.token_from.Goals as goal

pub returns-then-text-start : goal.returns-then-text-start
returns-then-text-start c =
    let g = c.args in
    c.token.ensures ∙ token-past g.text.now g.start c.if-text-start.true

pub returns-then-is_letter : goal.returns-then-is_letter
returns-then-is_letter c =
    let g = c.args in
    let letter = sym c.is_letter.ensures ∙ c.if-is_letter.true in
    let end = c.word_end-end in
    let kind = c.word_kind in
    c.token-then-is_letter.ensures
    ∙ token-word g.text.now g.start c.if-text-start.false end.result kind.result letter end.ensures
    kind.ensures

pub returns-then-is_digit : goal.returns-then-is_digit
returns-then-is_digit c =
    let g = c.args in
    let letter = sym c.is_letter.ensures ∙ c.if-is_letter.false in
    let digit = sym c.is_digit.ensures ∙ c.if-is_digit.true in
    let end = c.number_end in
    c.token-then-is_digit.ensures
    ∙ token-number g.text.now g.start c.if-text-start.false letter end.result digit end.ensures

pub returns-then-b-byte_at : goal.returns-then-b-byte_at
returns-then-b-byte_at c =
    let g = c.args in
    let letter = sym c.is_letter.ensures ∙ c.if-is_letter.false in
    let digit = sym c.is_digit.ensures ∙ c.if-is_digit.false in
    let next = c.byte_at in
    let second = ap (λ (n : ℕ). eqb (get_or g.text.now g.start 0) 61 && eqb n 61) next.ensures in
    c.token-then-b-byte_at.ensures
    ∙ token-equals g.text.now g.start c.if-text-start.false letter digit (sym second ∙ c.if-b-byte_at.true)

pub returns : goal.returns
returns c =
    let g = c.args in
    let letter = sym c.is_letter.ensures ∙ c.if-is_letter.false in
    let digit = sym c.is_digit.ensures ∙ c.if-is_digit.false in
    let next = c.byte_at in
    let second = ap (λ (n : ℕ). eqb (get_or g.text.now g.start 0) 61 && eqb n 61) next.ensures in
    let mark = c.mark_of_one in
    c.token-2.ensures
    ∙ token-mark g.text.now g.start c.if-text-start.false letter digit mark.result
    (sym second ∙ c.if-b-byte_at.false) mark.ensures
