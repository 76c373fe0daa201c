-- `note_gift` goes by the thing.
use mathlib.Core.Path.{refl}
use Rattle.trace.specs.ReadCode.{as_line}
use Rattle.run_holders.proofs.Noting.{gift-none, gift-changes, nothing-changed}
use Rattle.run_holders.proofs.notes.note_gift.Goals as goal

pub returns-then-l-lt4 : goal.returns-then-l-lt4
returns-then-l-lt4 c =
    let none = gift-none (as_line c.args.l) c.requires c.if-l-lt4.true in
    (nothing-changed (as_line c.args.l) none refl, none)

pub returns : goal.returns
returns c = (c.note-u.ensures, gift-changes (as_line c.args.l) c.requires c.if-l-lt4.false)
