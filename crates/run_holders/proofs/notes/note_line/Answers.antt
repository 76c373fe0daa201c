-- `note_line` goes by the kind.
use mathlib.Core.Path.{refl}
use Rattle.trace.specs.ReadCode.{as_line}
use Rattle.run_holders.proofs.Noting.{line-none, line-changes, nothing-changed}
use Rattle.run_holders.proofs.notes.note_line.Goals as goal

pub returns-then-l-eq6 : goal.returns-then-l-eq6
returns-then-l-eq6 c = c.note_gift.ensures

pub returns-then-l-ne2 : goal.returns-then-l-ne2
returns-then-l-ne2 c =
    let args = c.args in
    let none = line-none (as_line args.l) c.if-l-eq6.false c.if-l-ne2.true in
    (nothing-changed (as_line args.l) none refl, none)

pub returns : goal.returns
returns c =
    let args = c.args in
    (c.note-u.ensures, line-changes (as_line args.l) c.if-l-eq6.false c.if-l-ne2.false)
