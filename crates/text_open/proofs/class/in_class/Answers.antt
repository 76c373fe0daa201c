-- `in_class`: all names, or those of the class.
use mathlib.Core.Path.{refl, ap}
use Prim.Native.Nat.{ℕ}
use lib.Dec.{eqb}
use Rattle.text_open.specs.ClassCode.{in_class}
use Rattle.text_open.proofs.class.in_class.Goals as goal

pub returns-then-all : goal.returns-then-all
unfolding in_class
returns-then-all c = rw c.if-all.true refl

pub returns : goal.returns
unfolding in_class
returns c = rw c.if-all.false (ap (λ (j : ℕ). eqb j c.args.class) c.hash-h.ensures)
