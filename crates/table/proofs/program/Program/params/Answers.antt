-- `params` reads the second word of the method's row.
use Rattle.table.specs.Table.{params_of, row, methods, word}
use mathlib.Core.Path.{◌∙◌, ap}
use Prim.Native.Nat.{ℕ, ◌+◌, ◌*◌}
use Rattle.table.proofs.program.Program.params.Goals as goal

pub returns : goal.returns
unfolding params_of row methods
returns c =
    rw (← c.self.view_is)
    (c.word_at.ensures.0
    ∙ ap (λ (m : ℕ). word c.self.inside.table.now (2 + 2 * m + 18 * c.args.m + 1)) c.word_at-methods.ensures.0)
