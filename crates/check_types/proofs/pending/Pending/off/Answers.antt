-- `off` takes the lowest byte away, where it is t.
use Rattle.check_types.proofs.Packed.{off-some, off-packed, off-found, off-missing}
use native.Mathlib.Omega.{arith}
use Rattle.check_types.proofs.pending.Pending.off.Goals as goal

pub overflow_sub-result : goal.overflow_sub-result
overflow_sub-result c = off-some _ _ _ c.args.self.packed c.requires c.if-self-t.true

pub invariant_of-result : goal.invariant_of-result
invariant_of-result c = record {
  few = omega (arith, c.args.self.few);
  packed = off-packed _ _ _ c.args.self.packed c.requires c.if-self-t.true;
}

pub returns-then-self-t : goal.returns-then-self-t
returns-then-self-t c = off-found _ _ _ c.args.self.packed c.requires c.if-self-t.true

pub returns : goal.returns
returns c = off-missing _ _ _ c.if-self-t.false
