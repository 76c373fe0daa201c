-- `update_status` goes by the fault, and by whether the process has finished.
use Rattle.run_events.proofs.Returns.{status-stopped, status-finished, status-as-left}
use mathlib.Core.Path.{◌∙◌, sym}
use Rattle.run_events.proofs.conclude.update_status.Goals as goal

pub returns-then-t-ne0 : goal.returns-then-t-ne0
returns-then-t-ne0 c =
    let args = c.args in
    c.stop.ensures ∙ sym (status-stopped args.w.now args.t c.if-t-ne0.true)

pub returns-then-t-eq9 : goal.returns-then-t-eq9
returns-then-t-eq9 c =
    let args = c.args in
    c.finish.ensures ∙ sym (status-finished args.w.now args.t c.if-t-ne0.false c.if-t-eq9.true)

pub returns-else-t-eq9 : goal.returns-else-t-eq9
returns-else-t-eq9 c =
    let args = c.args in
    sym (status-as-left args.w.now args.t c.if-t-ne0.false c.if-t-eq9.false)
