-- `next_burst`: what was taken at once leaves the burst as it is.
use mathlib.Core.Path.{sym, ◌∙◌}
use Rattle.run_burst.proofs.consecutive.next_burst.Goals as goal

pub returns : goal.returns
returns c =
    c.silent_entries.ensures ∙ sym
    (c.take_consecutive-k.ensures.0.same
    c.args.t.now)
