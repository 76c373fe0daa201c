-- `one` replaces the lowest byte, where it is t.
use Rattle.check_types.proofs.Packed.{one-packed, one_found, one-missing}
use Rattle.check_types.proofs.pending.Pending.one.Goals as goal

pub invariant_of-result : goal.invariant_of-result
invariant_of-result c =
    let q = c.args.self in
    let pre = c.requires in
    record { few = q.few; packed = one-packed _ _ _ _ q.few q.packed pre.1 pre.0 c.if-self-t.true }

pub returns-then-self-t : goal.returns-then-self-t
returns-then-self-t c =
    let q = c.args.self in
    let pre = c.requires in
    one_found _ _ _ _ q.few q.packed pre.1 pre.0 c.if-self-t.true

pub returns : goal.returns
returns c = one-missing _ _ _ _ c.if-self-t.false
