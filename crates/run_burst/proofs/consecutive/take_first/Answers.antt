-- `take_first` hands on to the loop of one process.
use mathlib.Core.Path.{◌∙◌, ap}
use native.Mathlib.Omega.{arith}
use lib.ListN.{drop}
use Rattle.run_parts.specs.PartsCode.{part_of}
use Rattle.run_parts.proofs.Apart.{part-long}
use Rattle.run_burst.specs.KnowledgeCode.{nothing_known}
use Rattle.run_burst.proofs.AtOnce.{taken, nothing-some, beyond-kept, reached-long}
use Rattle.run_burst.proofs.consecutive.take_first.Goals as goal

pub returns : goal.returns
returns c =
    let work = c.args.work.now in
    let long = c.requires.0 in
    let ran = c.stretch.ensures.0 in
    rw (← c.words.ensures) (
      taken c.words.result.now
          c.args.schedule.now work long 0 (omega arith)
          nothing_known nothing-some ran c.stretch.ensures.1,
      c.stretch.ensures.2,
      ap (drop 8256) c.stretch.ensures.1
          ∙ beyond-kept work long 0 (omega arith) (part_of _ 0) (reached-long (part-long work long 0 (omega arith)) ran),
    )
