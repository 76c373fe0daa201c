-- `accepted_run` begins the store anew and runs; what the questions ask for makes the entries' premises.
use Rattle.run_schedule.proofs.Accepting.{table_kept, outcomes-small, schedule-short, store_long}
use Rattle.run_schedule.proofs.Began.{starts_from, leaves-same}
use Rattle.table.specs.Table.{methods}
use Rattle.table.proofs.Accepted.{kept}
use Rattle.machine.specs.Run.{run}
use Prim.Native.Nat.{◌/◌}
use mathlib.Core.Path.{refl, ◌∙◌}
use native.Mathlib.Omega.{arith}
use lib.ListN.{length}
use Rattle.run_schedule.proofs.accepted.accepted_run.Goals as goal

pub begin_run-requires : goal.begin_run-requires
begin_run-requires c =
    store_long c.args.program.now c.args.schedule.now c.args.outcomes.now
    (length c.args.work.now) c.requires

pub run_entries-requires : goal.run_entries-requires
unfolding methods
run_entries-requires c =
    let ok = c.requires in
    let long =
    store_long c.args.program.now c.args.schedule.now c.args.outcomes.now
    (length c.args.work.now) ok in
    let table =
    kept c.args.program.now
    (table_kept c.args.program.now c.args.schedule.now c.args.outcomes.now
    (length c.args.work.now) ok) in (
      omega
          (arith, long, c.begin_run.auto.work),
      schedule-short c.args.program.now
          c.args.schedule.now c.args.outcomes.now (length c.args.work.now) ok,
      refl,
      table,
      starts_from c.args.program.now table c.args.work.now long c.begin_run.ensures,
      outcomes-small c.args.program.now c.args.schedule.now c.args.outcomes.now
          (length c.args.work.now) ok,
    )

pub returns : goal.returns
returns c =
    let ok = c.requires in
    let long =
    store_long c.args.program.now c.args.schedule.now c.args.outcomes.now
    (length c.args.work.now) ok in
    let table =
    kept c.args.program.now
    (table_kept c.args.program.now c.args.schedule.now c.args.outcomes.now
    (length c.args.work.now) ok) in
    c.run_entries.ensures
    ∙ leaves-same c.args.program.now table c.args.work.now long c.begin_run.ensures
    (run c.args.program.now c.args.outcomes.now (length c.args.trace.now / 6)
    c.args.schedule.now) c.args.trace.now
