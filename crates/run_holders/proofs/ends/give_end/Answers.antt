-- `give_end` writes within the table, and leaves it elsewhere.
use mathlib.Core.Path.{refl}
use Rattle.run_holders.specs.HoldersCode.{end_given}
use Rattle.run_holders.proofs.Rows.{shaped, no-side-given, no-channel-given}
use Rattle.run_holders.proofs.ends.give_end.Goals as goal

pub returns-then-d-lt2 : goal.returns-then-d-lt2
unfolding end_given
returns-then-d-lt2 c = refl

pub returns-else-d-lt2 : goal.returns-else-d-lt2
returns-else-d-lt2 c =
    let e = c.args.e in
    no-side-given (shaped c.well_formed.0) e.0 e.1 c.args.q.0 c.if-c-lt16.true c.if-d-lt2.false

pub returns-else-c-lt16 : goal.returns-else-c-lt16
returns-else-c-lt16 c =
    let e = c.args.e in
    no-channel-given (shaped c.well_formed.0) e.0 e.1 c.args.q.0 c.if-c-lt16.false
