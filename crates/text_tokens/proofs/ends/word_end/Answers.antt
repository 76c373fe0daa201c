-- `word_end`: from each place reached the search ends at the same place.
use Prim.Native.Nat.{◌-◌}
use mathlib.Core.Path.{refl, sym, ap₂, ◌∙◌}
use mathlib.Core.Bool.{◌||◌}
use borrow.Author.Tests.{not-true, not-false}
use Rattle.text_tokens.specs.PlacesCode.{is_word_byte}
use Rattle.text_tokens.proofs.Passing.{passed_on, passed_here, passed-end}
use Rattle.text_tokens.proofs.ends.word_end.Goals as goal

pub loop-i-init : goal.loop-i-init
loop-i-init c = refl

pub returns-then-not-is_letter-is_digit : goal.returns-then-not-is_letter-is_digit
returns-then-not-is_letter-is_digit c =
    let text = c.args.text.now in
    let at-loop = c.loop-i in
    let letter = c.is_letter in
    let digit = c.is_digit in
    let byte =
    sym (ap₂ ◌||◌ letter.ensures digit.ensures) ∙ not-true (letter.result || digit.result) c.if-not-is_letter-is_digit.true-raw in
    sym (passed_here is_word_byte text at-loop.i c.loop-i-test.true byte)
    ∙ at-loop.invariant

pub loop-i-preserved : goal.loop-i-preserved
loop-i-preserved c =
    let text = c.args.text.now in
    let at-loop = c.loop-i in
    let letter = c.is_letter in
    let digit = c.is_digit in
    let byte =
    sym (ap₂ ◌||◌ letter.ensures digit.ensures) ∙ not-false (letter.result || digit.result) c.if-not-is_letter-is_digit.false-raw in
    sym (passed_on is_word_byte text at-loop.i c.loop-i-test.true byte)
    ∙ at-loop.invariant

pub returns : goal.returns
returns c =
    let at-loop = c.loop-i in
    sym (passed-end is_word_byte c.args.text.now at-loop.i c.loop-i-test.false)
    ∙ at-loop.invariant
