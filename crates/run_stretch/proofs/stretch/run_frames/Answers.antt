-- `run_frames` goes from frame to frame.
use mathlib.Core.Path.{refl, ◌∙◌}
use native.Mathlib.Omega.{arith}
use Rattle.run_stretch.specs.StretchCode.{begins}
use Rattle.run_stretch.proofs.Runs.{ran_then}
use Rattle.run_stretch.proofs.stretch.run_frames.Goals as goal

pub loop-next-init : goal.loop-next-init
loop-next-init c = (c.requires.2, begins, refl)

pub run_top-requires : goal.run_top-requires
run_top-requires c = (c.requires.0, c.requires.1, c.loop-next.invariant.0, c.loop-next.invariant.2 ∙ c.requires.3)

pub returns-in-Break : goal.returns-in-Break
returns-in-Break c = (ran_then c.loop-next.invariant.1 c.in-Break.ensures.0, c.in-Break.ensures.1)

pub loop-next-smaller : goal.loop-next-smaller
loop-next-smaller c = omega (arith, c.in-Continue.ensures.1, c.in-Continue.ensures.2)

pub loop-next-preserved : goal.loop-next-preserved
loop-next-preserved c = (
  c.in-Continue.ensures.1,
  ran_then c.loop-next.invariant.1 c.in-Continue.ensures.0,
  c.run_top.auto.w ∙ c.loop-next.invariant.2,
)
