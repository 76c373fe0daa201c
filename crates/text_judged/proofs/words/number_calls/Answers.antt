-- `number_calls` copies instruction by instruction.
use Prim.Native.Nat.{◌+◌, ◌*◌}
use native.Mathlib.Omega.{arith}
use mathlib.Core.Path.{refl, ◌∙◌}
use lib.ListN.{set, length-set}
use Rattle.text_judged.proofs.Stepping.{none-numbered, one-numbered, all-numbered}
use Rattle.text_judged.proofs.words.number_calls.Goals as goal

pub loop-i-init : goal.loop-i-init
loop-i-init c = (refl, none-numbered _ _)

pub bounds-words-i : goal.bounds-words-i
bounds-words-i c = omega (arith, c.loop-i.invariant.0, c.requires.1)

pub bounds-words-i-in-loop-i : goal.bounds-words-i-in-loop-i
bounds-words-i-in-loop-i c =
    let loop = c.loop-i in
    omega (arith, loop.invariant.0, c.requires.1, length-set loop.words (2 * loop.i) c.as_word.result)

pub loop-i-preserved : goal.loop-i-preserved
loop-i-preserved c =
    let loop = c.loop-i in
    let word = c.as_word in (
      length-set (set loop.words (2 * loop.i) word.result) (2 * loop.i + 1) c.argument_word.result
          ∙ length-set loop.words (2 * loop.i) word.result
          ∙ loop.invariant.0,
      one-numbered _ _ _ _ _ loop.invariant.1 (omega (arith, loop.invariant.0, c.requires.1)) word.ensures
          c.argument_word.ensures,
    )

pub shape_of-words : goal.shape_of-words
shape_of-words c = c.loop-i.invariant.0

pub returns : goal.returns
returns c = all-numbered _ _ _ _ c.loop-i.invariant.1 (omega arith) c.loop-i-test.false
