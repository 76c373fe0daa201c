-- `run_frame` goes from step to step: those before it are plain.
use mathlib.Core.Path.{refl, sym, ◌∙◌}
use Rattle.run_stretch.specs.StretchCode.{begins}
use Rattle.run_stretch.proofs.Runs.{ran-step}
use Rattle.run_stretch.proofs.stretch.run_frame.Goals as goal

pub loop-at-init : goal.loop-at-init
loop-at-init c = (begins, c.requires.0, refl, c.requires.6)

pub loop-at-preserved : goal.loop-at-preserved
loop-at-preserved c =
    let step = c.in-Some.ensures in (
      ran-step c.loop-at.invariant.0 c.loop-at-test.true c.if-schedule-at.false c.loop-at.invariant.1 step,
      step.steady,
      step.steady.long ∙ sym c.requires.0.long,
      step.onward,
    )
