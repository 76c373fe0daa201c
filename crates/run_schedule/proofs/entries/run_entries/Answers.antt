-- `run_entries` goes from one burst to the next: what stands before each is `Before`, and where it has stopped,
-- `BurstState`.
use Prim.Native.Nat.{ℕ}
use mathlib.Core.Path.{refl, sym, ◌∙◌, ap}
use mathlib.Core.List.{List, [], ◌++◌}
use native.Mathlib.Omega.{arith}
use Rattle.machine.specs.State.{start_config}
use Rattle.layout.specs.Layout.{encode}
use Rattle.layout.specs.Holders.{holder_words}
use Rattle.run_schedule.proofs.Turning.{inputs, before-start, going-burst, not_back, few-lines, going-ends, going-over, before-next, near, lines_more, lines_fit}
use Rattle.run_schedule.proofs.entries.run_entries.Goals as goal

pub take_first-k-requires : goal.take_first-k-requires
take_first-k-requires c = let pre = c.requires in (omega (arith, pre.0), rw c.of-p.ensures pre.3)

pub loop-p-init : goal.loop-p-init
loop-p-init c =
    let args = c.args in
    let pre = c.requires in (
      before-start
          (inputs c.of-p.result args.schedule.now args.outcomes.now args.trace.now (rw c.of-p.ensures pre.3)
          (λ i. rw c.of-p.ensures (omega (arith, c.type_inv.program i))) pre.5 pre.1 pre.2)
          (rw c.of-p.ensures
          (pre.4 ∙ ap (λ (l : List ℕ). encode (start_config args.program.now) ++ (holder_words [] ++ l))
          (sym c.take_first-k.ensures.2)))
          c.no_holders-t.ensures c.nothing_known-known.ensures c.take_first-k.ensures.0,
      refl,
      refl,
      c.take_first-k.ensures.1,
    )

pub next_burst-b-requires : goal.next_burst-b-requires
next_burst-b-requires c =
    let pre = c.requires in let inv = c.loop-p.invariant in
    (omega (arith, pre.0, inv.1, c.take_first-k.auto.work), inv.3, rw c.of-p.ensures pre.3)

pub ending-requires : goal.ending-requires
ending-requires c =
    omega (
      arith,
      c.requires.0,
      c.take_first-k.auto.work,
      c.loop-p.invariant.1,
      c.next_burst-b.auto.work,
    )

pub returns-then-schedule-b : goal.returns-then-schedule-b
returns-then-schedule-b c =
    let args = c.args in
    rw (← c.of-p.ensures)
    (going-ends (going-burst c.loop-p.invariant.0 c.next_burst-b.ensures) args.work.now
    c.take_first-k.ensures.2 c.if-schedule-b.true c.ending.ensures c.unwrap_or.ensures)

pub turn_at-turn-requires : goal.turn_at-turn-requires
turn_at-turn-requires c =
    let pre = c.requires in
    let inv = c.loop-p.invariant in
    let g = going-burst inv.0 c.next_burst-b.ensures in (
      omega (arith, pre.0, c.take_first-k.auto.work, inv.1, c.next_burst-b.auto.work),
      omega (arith, c.if-schedule-b.false),
      pre.1,
      few-lines g,
      near g,
    )

pub shape_of-trace-in-Ends : goal.shape_of-trace-in-Ends
shape_of-trace-in-Ends c = c.turn_at-turn.auto.trace ∙ c.loop-p.invariant.2

pub shape_of-work-in-Ends : goal.shape_of-work-in-Ends
shape_of-work-in-Ends c =
    c.turn_at-turn.auto.work ∙ c.next_burst-b.auto.work ∙ c.loop-p.invariant.1 ∙
    c.take_first-k.auto.work

pub returns-in-Ends : goal.returns-in-Ends
returns-in-Ends c =
    let args = c.args in
    rw (← c.of-p.ensures)
    (going-over (going-burst c.loop-p.invariant.0 c.next_burst-b.ensures)
    (omega (arith, c.if-schedule-b.false)) c.turn_at-turn.ensures
    args.work.now c.take_first-k.ensures.2 c.in-Ends.is)

pub update_holders-changed-requires : goal.update_holders-changed-requires
update_holders-changed-requires c =
    let g = going-burst c.loop-p.invariant.0 c.next_burst-b.ensures in
    let fit = lines_fit g (omega (arith, c.if-schedule-b.false)) c.turn_at-turn.ensures c.in-GoesOn.is in (
      lines_more g (omega (arith, c.if-schedule-b.false)) c.turn_at-turn.ensures c.in-GoesOn.is,
      fit.0,
      omega (arith, fit.1, c.turn_at-turn.auto.trace, c.loop-p.invariant.2),
    )

pub overflow_add-k : goal.overflow_add-k
overflow_add-k c = omega (arith, c.if-schedule-b.false, c.requires.1)

pub loop-p-smaller : goal.loop-p-smaller
loop-p-smaller c =
    omega (
      arith,
      c.if-schedule-b.false,
      not_back c.loop-p.invariant.0 c.next_burst-b.ensures,
    )

pub loop-p-preserved : goal.loop-p-preserved
loop-p-preserved c =
    let inv = c.loop-p.invariant in
    let kept = c.turn_at-turn.auto in (
      before-next (going-burst inv.0 c.next_burst-b.ensures) (omega (arith, c.if-schedule-b.false))
          c.turn_at-turn.ensures c.in-GoesOn.is
          c.update_holders-changed.ensures.2 c.unless-known.ensures
          c.update_holders-changed.ensures.0 c.update_holders-changed.ensures.1,
      c.update_holders-changed.auto.work ∙ kept.work ∙
          c.next_burst-b.auto.work ∙ inv.1,
      kept.trace ∙ inv.2,
      omega (arith, c.if-schedule-b.false),
    )
