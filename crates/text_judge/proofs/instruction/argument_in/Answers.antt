-- `argument_in` numbers the method that is named.
use borrow.Author.Tests.{lt-ltb, le-ltb}
use Rattle.text_judge.specs.RowsCode.{argument_in}
use native.Mathlib.Omega.{arith}
use Rattle.text_judge.proofs.instruction.argument_in.Goals as goal

pub returns-then-a-methods : goal.returns-then-a-methods
unfolding argument_in
returns-then-a-methods c =
    let if2 = c.if-a-methods in
    let if1 = c.if-calling in
    let calling = c.calling in
    (rw (← calling.ensures, if1.true, lt-ltb _ _ if2.true), omega arith)

pub returns-then-calling : goal.returns-then-calling
unfolding argument_in
returns-then-calling c =
    let if2 = c.if-a-methods in
    let if1 = c.if-calling in
    let calling = c.calling in
    (rw (← calling.ensures, if1.true, le-ltb _ _ if2.false), omega arith)

pub returns : goal.returns
unfolding argument_in
returns c = (rw (← c.calling.ensures, c.if-calling.false), c.requires)
