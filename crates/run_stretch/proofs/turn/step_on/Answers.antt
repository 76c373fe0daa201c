-- `step_on` reads the instruction at the cursor.
use mathlib.Core.Path.{refl}
use native.Mathlib.Omega.{arith}
use Rattle.table.specs.Table.{word}
use Rattle.run_stretch.proofs.Runs.{steps_on}
use Rattle.run_stretch.proofs.Within.{words-there, low-place, at_place, op-kept}
use Rattle.run_stretch.proofs.turn.step_on.Goals as goal

pub overflow_mul-at : goal.overflow_mul-at
overflow_mul-at c = omega (arith, low-place c.requires.5 c.requires.6)

pub overflow_add-at : goal.overflow_add-at
overflow_add-at c = omega (arith, words-there c.requires.5 c.requires.6 c.requires.4)

pub offset_bounds-p-at : goal.offset_bounds-p-at
offset_bounds-p-at c = omega (arith, words-there c.requires.5 c.requires.6 c.requires.4)

pub overflow_add-at-2 : goal.overflow_add-at-2
overflow_add-at-2 c = omega (arith, words-there c.requires.5 c.requires.6 c.requires.4)

pub offset_bounds-p-at-2 : goal.offset_bounds-p-at-2
offset_bounds-p-at-2 c = omega (arith, words-there c.requires.5 c.requires.6 c.requires.4)

pub bounds-p-at : goal.bounds-p-at
bounds-p-at c =
    omega (
      arith,
      words-there c.requires.5
          c.requires.6 c.requires.4,
    )

pub bounds-p-at-2 : goal.bounds-p-at-2
bounds-p-at-2 c =
    omega (
      arith,
      words-there c.requires.5
          c.requires.6
          c.requires.4,
    )

pub act-requires : goal.act-requires
unfolding word
act-requires c =
    let pre = c.requires in (
      pre.0,
      omega (arith, low-place pre.5 pre.6),
      pre.2,
      pre.3,
      pre.5,
      at_place pre.5 pre.6 pre.4,
    )

pub returns : goal.returns
unfolding word
returns c =
    let pre = c.requires in
    steps_on c.args.p.now
    c.args.start pre.0 pre.1
    pre.4 (op-kept pre.5 pre.6 pre.4) refl _ _ c.act.result c.act.ensures
