-- `put_kept`: each way of leaving it out, and the code put.
use Prim.Native.Nat.{◌+◌, ◌*◌, ◌-◌}
use native.Mathlib.Omega.{arith}
use Rattle.text_table.proofs.StepLaws.{left-out, all-put, end_below}
use Rattle.text_table.proofs.code.put_kept.Goals as goal

pub returns-then-leave : goal.returns-then-leave
returns-then-leave c = (left-out _ _ _ _ _ _ _ _ c.if-leave.true, λ l. l)

pub returns-then-from-long-gt4096 : goal.returns-then-from-long-gt4096
returns-then-from-long-gt4096 c = (λ l k. absurd (omega (arith, c.if-from-long-gt4096.true)), λ l. l)

pub returns-then-at-ge20000 : goal.returns-then-at-ge20000
returns-then-at-ge20000 c = (λ l k. absurd (omega (arith, c.if-at-ge20000.true)), λ l. l)

pub returns : goal.returns
returns c =
    let w = c.put_code.ensures in
    let a = c.args in
    let n = 2 * a.from + 2 * a.long - 2 * a.from in (
      all-put a.methods.now.text.now a.main a.kept.now a.from a.long a.table.now a.at n (omega arith) _ _ w
          a.leave c.if-leave.false,
      λ l. end_below a.methods.now.text.now a.main a.kept.now a.from a.long a.table.now a.at n (omega arith)
          _ _ w (omega (arith, c.if-from-long-gt4096.false)) c.if-at-ge20000.false,
    )
