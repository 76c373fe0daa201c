-- `allocated` by the type after new.
use native.Mathlib.Omega.{arith}
use mathlib.Core.Path.{refl}
use Rattle.text_emit_expr.proofs.PartLaws.{qubit-up-to, channel-up-to, end-up-to, bad-up-to, reach_here, reach-next, reach-then, reach-said}
use Rattle.text_emit_expr.proofs.parts.allocated.Goals as goal

pub returns-then-t-eq-QBIT : goal.returns-then-t-eq-QBIT
returns-then-t-eq-QBIT c =
    let text = c.args.text.now in
    let i = c.args.from in (
      qubit-up-to text i _ c.next_token-t.ensures _ c.if-t-eq-QBIT.true c.brackets.ensures.0,
      reach-then text i _ _ (reach-next text i i _ (reach_here text i) c.next_token-t.ensures)
          c.brackets.ensures.1,
      (λ e. omega arith),
    )

pub returns-in_default : goal.returns-in_default
returns-in_default c =
    let text = c.args.text.now in
    let i = c.args.from in (
      bad-up-to text i _ c.next_token-t.ensures _ _ _ _ _ _ c.if-t-eq-QBIT.false
          refl c.in_default.ensures,
      reach-next text i i _ (reach_here text i) c.next_token-t.ensures,
      (λ e. omega arith),
    )

pub returns-then-t-eq-CHANNEL : goal.returns-then-t-eq-CHANNEL
returns-then-t-eq-CHANNEL c =
    let text = c.args.text.now in
    let i = c.args.from in (
      channel-up-to text i _ c.next_token-t.ensures _ _ _ _ c.if-t-eq-CHANNEL.true
          c.in-Ok.ensures c.brackets-end.ensures.0,
      reach-then text i _ _ (reach-next text i i _ (reach_here text i) c.next_token-t.ensures)
          (reach-then text _ _ _ (reach-said text _ _ _ _ _ refl
          c.in-Ok.ensures) c.brackets-end.ensures.1),
      (λ e. omega arith),
    )

pub returns : goal.returns
returns c =
    let text = c.args.text.now in
    let i = c.args.from in (
      end-up-to text i _ c.next_token-t.ensures _ _ _ _ c.if-t-eq-QBIT.false c.if-t-eq-CHANNEL.false
          c.in-Ok.ensures
          c.brackets-end.ensures.0,
      reach-then text i _ _ (reach-next text i i _ (reach_here text i) c.next_token-t.ensures)
          (reach-then text _ _ _ (reach-said text _ _ _ _ _ refl
          c.in-Ok.ensures) c.brackets-end.ensures.1),
      (λ e. omega arith),
    )
