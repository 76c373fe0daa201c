-- `holder_of` reads within the table, and answers nobody elsewhere.
use Rattle.run_holders.proofs.Rows.{holder-read, no-side, no-channel}
use Rattle.run_holders.proofs.ends.holder_of.Goals as goal

pub returns-then-d-lt2 : goal.returns-then-d-lt2
returns-then-d-lt2 c =
    let e = c.args.e in
    holder-read c.args.t.now e.0 e.1 c.if-c-lt16.true c.if-d-lt2.true

pub returns-else-d-lt2 : goal.returns-else-d-lt2
returns-else-d-lt2 c =
    let e = c.args.e in
    no-side c.args.t.now e.0 e.1 c.if-c-lt16.true c.if-d-lt2.false

pub returns-else-c-lt16 : goal.returns-else-c-lt16
returns-else-c-lt16 c =
    let e = c.args.e in
    no-channel c.args.t.now e.0 e.1 c.if-c-lt16.false
