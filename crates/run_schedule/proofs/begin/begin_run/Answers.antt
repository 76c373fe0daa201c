-- `begin_run` clears, counts one process and begins it, and stores no holder.
use Prim.Native.Nat.{ℕ, ◌≤◌}
use mathlib.Core.Path.{◌∙◌, ap}
use mathlib.Core.List.{List}
use native.Mathlib.Omega.{arith}
use lib.ListN.{set, length}
use Rattle.run_transfer.specs.TransferCode.{began_at}
use Rattle.run_schedule.specs.BeginCode.{none_stored, start_store}
use Rattle.run_schedule.proofs.Began.{none-filled}
use Rattle.run_schedule.proofs.begin.begin_run.Goals as goal

pub returns : goal.returns
unfolding start_store began_at
returns c =
    let args = c.args in
    let begun = c.begin_at.new.work in
    let long : 8256 ≤ length begun =
    omega (arith, c.requires, c.begin_at.auto.work, c.put.auto.w, c.clear.auto.w) in
    rw (← c.of.ensures)
    (none-filled begun long (c.fill.ensures.after (λ y e. e))
    ∙ ap (λ (l : List ℕ). none_stored l 64)
    (c.begin_at.ensures
    ∙ ap (λ (l : List ℕ). began_at c.of.result l 0 0) (c.put.ensures ∙ ap (λ (l : List ℕ). set l 0 1) c.clear.ensures)))
