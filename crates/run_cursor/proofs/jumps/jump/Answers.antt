-- `jump` goes to the target.
use mathlib.Core.Path.{refl}
use Rattle.run_cursor.proofs.Shapes.{jumps_to}
use Rattle.run_cursor.proofs.jumps.jump.Goals as goal

pub returns : goal.returns
returns c = jumps_to c.requires.0 c.args.p.now c.args.a c.requires.1 refl
