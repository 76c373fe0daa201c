-- `number_end`: from each place reached the search ends at the same place.
use Prim.Native.Nat.{◌-◌}
use mathlib.Core.Path.{refl, sym, ◌∙◌}
use borrow.Author.Tests.{not-true, not-false}
use Rattle.text_parse.specs.Tokens.{is_digit}
use Rattle.text_tokens.proofs.Passing.{passed_on, passed_here, passed-end}
use Rattle.text_tokens.proofs.ends.number_end.Goals as goal

pub loop-i-init : goal.loop-i-init
loop-i-init c = refl

pub returns-then-not-is_digit : goal.returns-then-not-is_digit
returns-then-not-is_digit c =
    let text = c.args.text.now in
    let at-loop = c.loop-i in
    let test = c.is_digit in
    let byte = sym test.ensures ∙ not-true test.result c.if-not-is_digit.true-raw in
    sym (passed_here is_digit text at-loop.i c.loop-i-test.true byte) ∙ at-loop.invariant

pub loop-i-preserved : goal.loop-i-preserved
loop-i-preserved c =
    let text = c.args.text.now in
    let at-loop = c.loop-i in
    let test = c.is_digit in
    let byte = sym test.ensures ∙ not-false test.result c.if-not-is_digit.false-raw in
    sym (passed_on is_digit text at-loop.i c.loop-i-test.true byte) ∙ at-loop.invariant

pub returns : goal.returns
returns c =
    let at-loop = c.loop-i in
    sym (passed-end is_digit c.args.text.now at-loop.i c.loop-i-test.false)
    ∙ at-loop.invariant
