-- `enter` by its test.
use mathlib.Core.Path.{refl}
use borrow.Author.Tests.{ltb-true}
use lib.Dec.{ltb}
use Rattle.lists.proofs.Tests.{passes, passed, and_right}
use Rattle.text_methods.proofs.index.enter.Goals as goal

pub put_entry-requires : goal.put_entry-requires
put_entry-requires c =
    let i = c.args.i in
    let room = and_right c.args.named (ltb i 32) (passes c.if-named-i.true) in
    (ltb-true i 32 (passed (ltb i 32) room), c.requires)

pub returns-then-named-i : goal.returns-then-named-i
returns-then-named-i c = rw c.if-named-i.true (cc (c.count_arguments-params.ensures, c.put_entry.ensures))

pub returns-else-named-i : goal.returns-else-named-i
returns-else-named-i c = rw c.if-named-i.false refl
