-- `put_value`: a slot is below 65,536.
use native.Mathlib.Omega.{arith}
use mathlib.Core.Path.{refl}
use Rattle.text_emit.specs.Reached.{there}
use Rattle.text_emit.proofs.EmitLaws.{lost, puts-stuck, one-stuck}
use Rattle.text_emit.proofs.PutLaws.{value-ends, value-plain}
use Rattle.text_emit.proofs.values.put_value.Goals as goal

pub returns-then-slot-ge65536 : goal.returns-then-slot-ge65536
returns-then-slot-ge65536 c = λ l. absurd (omega (arith, l, c.if-slot-ge65536.true))

pub returns-in_err-first : goal.returns-in_err-first
returns-in_err-first c =
    rw c.from_residual.ensures (value-ends _ (there c.args.e) lost lost _ _ _ c.args.ends c.if-ends.true c.in_err-first.ensures
    (puts-stuck _ lost lost _ _ refl refl))

pub returns-then-ends : goal.returns-then-ends
returns-then-ends c = value-ends _ _ _ _ _ _ _ _ c.if-ends.true c.in_ok-first.ensures c.put_second_end.ensures

pub returns-in_err-stored : goal.returns-in_err-stored
returns-in_err-stored c =
    rw c.from_residual-in_err-stored.ensures (value-plain _ (there c.args.e) lost lost _ _ _ c.args.ends c.if-ends.false
    c.in_err-stored.ensures (one-stuck _ _ lost lost _ _ refl refl))

pub returns : goal.returns
returns c = value-plain _ _ _ _ _ _ _ _ c.if-ends.false c.in_ok-stored.ensures c.put-2.ensures
