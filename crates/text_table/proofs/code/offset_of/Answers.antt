-- `offset_of` adds the lengths up.
use native.Mathlib.Omega.{arith}
use mathlib.Core.Path.{ap, ◌∙◌}
use Rattle.text_code.specs.KeptCode.{offset_in}
use Rattle.text_table.proofs.KeptLaws.{offset-none, offset-next}
use Rattle.text_table.proofs.code.offset_of.Goals as goal

pub loop-i-init : goal.loop-i-init
loop-i-init c = (offset-none _, omega arith)

pub overflow_add-n : goal.overflow_add-n
overflow_add-n c = omega (arith, c.loop-i-test.true, c.loop-i.invariant.1, c.word_at-n.ensures.1, c.requires)

pub loop-i-preserved : goal.loop-i-preserved
loop-i-preserved c = (
  offset-next _ _ _ _ c.loop-i.invariant.0 c.word_at-n.ensures.0,
  omega (arith, c.loop-i.invariant.1, c.word_at-n.ensures.1),
)

pub returns : goal.returns
returns c = (
  c.loop-i.invariant.0 ∙ ap (offset_in _) (omega (arith, c.loop-i.auto.i-end, c.loop-i-test.false)),
  omega (arith, c.loop-i.auto.i-end, c.loop-i.invariant.1, c.requires),
)
