-- `stretch` lends the process's part on.
use mathlib.Core.Path.{refl, ◌∙◌}
use Rattle.run_stretch.proofs.Runs.{part_length, stretched}
use Rattle.run_stretch.proofs.stretch.stretch.Goals as goal

pub returns : goal.returns
returns c =
    let frames = c.run_frames in
    let at = c.part_at-first.ensures in
    let pre = c.requires in
    let work = c.args.work.now in
    let n = c.args.n in
    let part = stretched work pre.1 n pre.3 at
    (frames.auto.w ∙ part_length work n pre.3 pre.1 at) frames.ensures.0 refl in
    (part.0, part.1, frames.ensures.1)
