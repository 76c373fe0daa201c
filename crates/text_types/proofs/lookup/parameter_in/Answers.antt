-- `parameter_in`: what the parameters say where they are read.
use Prim.Native.Nat.{suc}
use mathlib.Core.Path.{refl}
use lib.Seq.{slice}
use Rattle.text_types.proofs.LookupLaws.{parameter-read, parameter-left}
use Rattle.text_types.proofs.lookup.parameter_in.Goals as goal

pub returns-in-Ok : goal.returns-in-Ok
returns-in-Ok c =
    let g = c.args in
    parameter-read g.text.now (slice g.start g.end g.text.now) (suc g.from) _ _ _ _ refl c.in-Ok.ensures

pub returns-in-Err : goal.returns-in-Err
returns-in-Err c =
    let g = c.args in
    parameter-left g.text.now (slice g.start g.end g.text.now) (suc g.from) _ _ _ _ refl c.in-Err.ensures
