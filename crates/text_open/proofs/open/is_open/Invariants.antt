-- `is_open`: the entries that are left to look at answer the same.
use mathlib.Core.Path.{◌≡◌}
use lib.Seq.{slice}
use Rattle.text_open.specs.OpenCode.{open_of, is_open}
use Rattle.text_open.proofs.open.is_open.Given as goal

abbrev pub invariant-loop-j : goal.invariant-loop-j
invariant-loop-j l = is_open l.least (slice l.start l.end l.text) (open_of l.text l.words l.n)
    ≡ is_open l.least (slice l.start l.end l.text) (open_of l.text l.words l.j)
