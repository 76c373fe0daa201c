-- `note` by its tests.
use mathlib.Core.Path.{refl}
use borrow.Author.Tests.{lt-ltb}
use lib.ListN.{get_or}
use Rattle.text_rows.specs.NotedCode.{noted}
use Rattle.text_rows.proofs.NotedLaws.{le-ltb}
use Rattle.text_rows.proofs.parameters.note.Goals as goal

pub returns-then-n-gt65534 : goal.returns-then-n-gt65534
unfolding noted
returns-then-n-gt65534 c = rw (lt-ltb 65534 (get_or c.args.row.now 1 0) c.if-n-gt65534.true) refl

pub returns-then-n-gt15 : goal.returns-then-n-gt15
unfolding noted
returns-then-n-gt15 c =
    let n = get_or c.args.row.now 1 0 in
    rw (le-ltb 65534 n c.if-n-gt65534.false, lt-ltb 15 n c.if-n-gt15.true) refl

pub returns : goal.returns
unfolding noted
returns c =
    let n = get_or c.args.row.now 1 0 in
    rw (le-ltb 65534 n c.if-n-gt65534.false, le-ltb 15 n c.if-n-gt15.false) refl
