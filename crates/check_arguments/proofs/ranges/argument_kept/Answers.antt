-- `argument_kept` looks the limits up; they are the op's own rule.
use Prim.Native.Nat.{◌-◌}
use mathlib.Core.Path.{sym}
use Rattle.check_instructions.proofs.Owners.{owner-order, owner-length}
use Rattle.check_arguments.proofs.Limits.{limits-kept, past-listed}
use Rattle.check_arguments.proofs.ranges.argument_kept.Goals as goal

pub returns-then-op-ge24 : goal.returns-then-op-ge24
returns-then-op-ge24 c =
    sym
    (past-listed c.args.p.now c.args.o.method c.args.a
    c.args.op c.if-op-ge24.true)

pub overflow_sub-o : goal.overflow_sub-o
overflow_sub-o c = owner-order _ _ _ c.requires.2

pub returns : goal.returns
returns c =
    limits-kept c.args.p.now c.args.o.method c.args.a c.slot_type-t.result
    c.slot_type-t.ensures c.requires.4 c.args.limits.now c.args.op
    (c.args.o.end - c.args.o.start) c.requires.1 c.if-op-ge24.false
    (owner-length _ _ _ c.requires.2) c.in_limits.ensures
