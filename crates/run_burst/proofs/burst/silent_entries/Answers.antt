-- `silent_entries` goes from entry to entry: what is left of the burst at each is what it was at the first.
use Prim.Native.Nat.{ℕ, ◌-◌}
use mathlib.Core.Path.{◌≡◌, refl, sym, ◌∙◌, subst}
use native.Mathlib.Omega.{arith}
use lib.ListN.{length}
use Rattle.run_ability.specs.declared.pairing.Pairing.TheVariants.{NoOffer}
use Rattle.run_values.specs.declared.steps.StepResult.TheVariants.{WentOn}
use Rattle.run_burst.specs.BurstCode.{stops_at, burst_op}
use Rattle.run_burst.proofs.Steps.{burst-ends, burst-goes, burst-stops, burst-waits}
use Rattle.run_burst.proofs.burst.silent_entries.Goals as goal
use Rattle.run_burst.proofs.burst.silent_entries.Goals.{then-is_done, else-is_done+else-stops_here}

pub loop-k-init : goal.loop-k-init
loop-k-init c = (refl, refl)

pub returns-then-stops_here : goal.returns-then-stops_here
returns-then-stops_here c =
    let args = c.args in
    burst-stops args.p.now args.t.now args.schedule.now c.loop-k.work c.loop-k.k
    c.loop-k.sure c.loop-k-test.true c.step_named-step.ensures
    c.is_done.ensures c.if-is_done.false c.offer_at-m.ensures
    c.stops_here.ensures c.if-stops_here.true
    ∙ sym c.loop-k.invariant.0

pub loop-k-preserved : goal.loop-k-preserved
loop-k-preserved c =
    let args = c.args in (
      c.loop-k.invariant.0
          ∙ (elim c.if-is_done.branch [
            | then-is_done w ↦ burst-goes args.p.now args.t.now args.schedule.now c.loop-k.work c.loop-k.k
                c.loop-k.sure c.loop-k-test.true c.step_named-step.ensures
                c.is_done.ensures w.if-is_done.true (w.sure-is ∙ w.known_after_step-sure.ensures)
            | else-is_done+else-stops_here w ↦ burst-waits args.p.now args.t.now args.schedule.now c.loop-k.work c.loop-k.k
                c.loop-k.sure c.loop-k-test.true c.step_named-step.ensures
                c.is_done.ensures w.if-is_done.false w.offer_at-m.ensures w.stops_here.ensures w.if-stops_here.false
                (w.sure-is ∙ w.with_idle-sure.ensures)
          ]),
      c.step_named-step.auto.work
          ∙ c.loop-k.invariant.1,
    )

pub returns : goal.returns
returns c =
    let args = c.args in
    let loop = c.loop-k in
    let e : loop.k ≡ length args.schedule.now = omega (arith, c.loop-k-test.false, loop.auto.k-end c.requires.1) in
    subst
    (λ (i : ℕ). stops_at (record { at = i; step = WentOn; offer = NoOffer; known = loop.sure }) loop.work
    ≡ burst_op args.p.now args.t.now args.schedule.now loop.work loop.k loop.sure (length args.schedule.now - loop.k)) e
    (burst-ends args.p.now args.t.now args.schedule.now loop.work loop.k loop.sure c.loop-k-test.false refl)
    ∙ sym loop.invariant.0
