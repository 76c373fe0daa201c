-- `declared_in`: what the declarations say where they are read.
use mathlib.Core.Path.{refl, sym}
use mathlib.Core.List.{[]}
use lib.Seq.{slice}
use Rattle.text_types.proofs.LookupLaws.{past-found, among-read, among-left}
use Rattle.text_types.proofs.lookup.declared_in.Goals as goal

pub returns-then-text-from : goal.returns-then-text-from
returns-then-text-from c =
    let g = c.args in sym (past-found g.text.now (slice g.start g.end g.text.now)
    g.from c.if-text-from.true)

pub returns-in-Ok : goal.returns-in-Ok
returns-in-Ok c =
    let g = c.args in
    among-read g.text.now (slice g.start g.end g.text.now) g.from _ _ _ _ refl
    (c.in-Ok.ensures c.if-text-from.false [])

pub returns-in-Err : goal.returns-in-Err
returns-in-Err c =
    let g = c.args in
    among-left g.text.now (slice g.start g.end g.text.now) g.from _ _ _ _ refl
    (c.in-Err.ensures c.if-text-from.false [])
