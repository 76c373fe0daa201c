-- `give` leaves ints and booleans where they are.
use native.Mathlib.Omega.{arith}
use Rattle.run_giving.proofs.Laws.{thing-given, no-thing}
use Rattle.run_giving.proofs.give.Goals as goal

pub returns-then-v-eq3 : goal.returns-then-v-eq3
returns-then-v-eq3 c =
    let args = c.args in
    thing-given args.w.now args.v (omega (arith, c.if-v-eq3.true)) c.give_held.ensures

pub returns-then-v-lt3 : goal.returns-then-v-lt3
returns-then-v-lt3 c =
    let args = c.args in
    no-thing args.w.now args.v c.if-v-lt3.true

pub returns : goal.returns
returns c =
    let args = c.args in
    thing-given args.w.now args.v c.if-v-lt3.false c.give_thing.ensures
