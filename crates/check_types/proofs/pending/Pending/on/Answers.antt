-- `on` puts a byte below the others, where there is room.
use Rattle.check_types.proofs.Packed.{on_fits, on-packed, on-found, on-full}
use native.Mathlib.Omega.{arith}
use Rattle.check_types.proofs.pending.Pending.on.Goals as goal

pub overflow_mul-result : goal.overflow_mul-result
overflow_mul-result c = omega (arith, on_fits _ _ _ c.args.self.packed c.requires c.if-self-lt-MOST.true)

pub overflow_add-result : goal.overflow_add-result
overflow_add-result c = omega (arith, on_fits _ _ _ c.args.self.packed c.requires c.if-self-lt-MOST.true)

pub invariant_of-result : goal.invariant_of-result
invariant_of-result c = record {
  few = omega (arith, c.if-self-lt-MOST.true);
  packed = on-packed _ _ _ c.args.self.packed c.requires;
}

pub returns-then-self-lt-MOST : goal.returns-then-self-lt-MOST
returns-then-self-lt-MOST c = on-found _ _ _ c.args.self.packed c.requires c.if-self-lt-MOST.true

pub returns : goal.returns
returns c = on-full _ _ _ c.if-self-lt-MOST.false
