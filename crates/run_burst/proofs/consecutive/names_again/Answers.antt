-- `names_again` looks at two entries.
use mathlib.Core.Path.{sym}
use mathlib.Core.Bool.{true≢false}
use Rattle.run_burst.proofs.consecutive.names_again.Goals as goal

pub returns-then-schedule-k : goal.returns-then-schedule-k
returns-then-schedule-k c = λ z. absurd (true≢false (sym z))
