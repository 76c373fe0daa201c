-- `stops`, effect by effect.
use Rattle.std.proofs.Common.{rules}
use mathlib.Core.Path.{refl}
use Rattle.text_window.specs.WindowCode.{stops_on}
use Rattle.text_window.proofs.window.stops.Goals as goal

pub returns-in-Astray : goal.returns-in-Astray
unfolding stops_on
returns-in-Astray c = rw c.in-Astray.is refl

pub returns-in-Beyond : goal.returns-in-Beyond
unfolding stops_on
returns-in-Beyond c = rw c.in-Beyond.is refl

pub returns-in_default : goal.returns-in_default
unfolding stops_on
returns-in_default c = search rules
