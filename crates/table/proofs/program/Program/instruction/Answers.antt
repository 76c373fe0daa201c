-- `instruction` reads both words at once, or each by itself.
use Rattle.table.proofs.Start.{op-there, argument-there}
use Rattle.table.specs.Table.{word}
use mathlib.Core.Path.{refl}
use Rattle.table.proofs.program.Program.instruction.Goals as goal

pub returns-then-at-self : goal.returns-then-at-self
unfolding word
returns-then-at-self c =
    rw (← c.self.view_is)
    (op-there _ _ c.args.i c.self.invariant.0 refl, argument-there _ _ c.args.i c.self.invariant.0 refl)

pub returns : goal.returns
returns c =
    rw (← c.self.view_is) (
      op-there _ _ c.args.i c.self.invariant.0 c.word_at.ensures.0,
      argument-there _ _ c.args.i c.self.invariant.0 c.word_at-2.ensures.0,
    )
