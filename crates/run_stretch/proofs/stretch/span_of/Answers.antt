-- `span_of` reads a method's two words.
use Prim.Native.Nat.{◌+◌, ◌*◌}
use native.Mathlib.Omega.{arith}
use Rattle.run_stretch.proofs.Within.{row-there, span-inside}
use Rattle.run_stretch.proofs.stretch.span_of.Goals as goal

pub bounds-p-at : goal.bounds-p-at
bounds-p-at c = omega (arith, row-there c.requires c.if-p-m.false)

pub bounds-p-at-2 : goal.bounds-p-at-2
bounds-p-at-2 c = omega (arith, row-there c.requires c.if-p-m.false)

pub returns : goal.returns
returns c = (omega (arith, c.type_inv.p (2 + 2 * c.args.m)), span-inside c.requires c.if-p-m.false)
