-- `token_start`: from each place reached the search ends at the same place.
use Prim.Native.Nat.{◌-◌}
use mathlib.Core.Path.{refl, sym, ◌∙◌}
use borrow.Author.Tests.{not-true, not-false}
use Rattle.text_parse.specs.Tokens.{is_white}
use Rattle.text_tokens.proofs.Passing.{passed_on, passed_here, passed-end}
use Rattle.text_tokens.proofs.ends.token_start.Goals as goal

pub loop-i-init : goal.loop-i-init
loop-i-init c = refl

pub returns-then-not-is_white : goal.returns-then-not-is_white
returns-then-not-is_white c =
    let text = c.args.text.now in
    let at-loop = c.loop-i in
    let test = c.is_white in
    let byte = sym test.ensures ∙ not-true test.result c.if-not-is_white.true-raw in
    sym (passed_here is_white text at-loop.i c.loop-i-test.true byte) ∙ at-loop.invariant

pub loop-i-preserved : goal.loop-i-preserved
loop-i-preserved c =
    let text = c.args.text.now in
    let at-loop = c.loop-i in
    let test = c.is_white in
    let byte = sym test.ensures ∙ not-false test.result c.if-not-is_white.false-raw in
    sym (passed_on is_white text at-loop.i c.loop-i-test.true byte) ∙ at-loop.invariant

pub returns : goal.returns
returns c =
    let at-loop = c.loop-i in
    sym (passed-end is_white c.args.text.now at-loop.i c.loop-i-test.false)
    ∙ at-loop.invariant
