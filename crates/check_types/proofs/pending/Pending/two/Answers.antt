-- `two` replaces the two lowest bytes by one, where both are 1.
use Rattle.check_types.proofs.Packed.{two-some, two-packed, two-found, two-missing}
use native.Mathlib.Omega.{arith}
use Rattle.check_types.proofs.pending.Pending.two.Goals as goal

pub overflow_sub-result : goal.overflow_sub-result
overflow_sub-result c =
    let q = c.args.self in
    two-some _ _ _ q.few q.packed c.requires c.if-self-eq257.true

pub invariant_of-result : goal.invariant_of-result
invariant_of-result c =
    let q = c.args.self in
    record {
      few = omega (arith, q.few);
      packed = two-packed _ _ _ q.few q.packed c.requires c.if-self-eq257.true;
    }

pub returns-then-self-eq257 : goal.returns-then-self-eq257
returns-then-self-eq257 c =
    let q = c.args.self in
    two-found _ _ _ q.few q.packed c.requires c.if-self-eq257.true

pub returns : goal.returns
returns c =
    let q = c.args.self in
    two-missing _ _ _ q.few q.packed c.requires c.if-self-eq257.false
