-- `run_text` hands a refusal on, and runs a table that is given out.
use mathlib.Core.Path.{sym}
use lib.ListN.{replicate}
use lib.Seq.{length-take-le}
use native.Mathlib.Omega.{arith}
use Rattle.std.proofs.lemmas.Result.{err_from_is_err_and}
use Rattle.text_translate.specs.Translate as text
use Rattle.run.specs.Answers as run
use Rattle.run_text.specs.RunText.{answer_numbers}
use Rattle.run_text.proofs.TextLaws.{refused-runs, words-there, table_runs, never-runs}
use Rattle.run_text.proofs.run_text.Goals as goal

pub returns-in_err-n : goal.returns-in_err-n
unfolding answer_numbers text.answer_numbers
returns-in_err-n c =
    let args = c.args in
    let p = err_from_is_err_and c.from_residual.result c.from_residual.ensures.1 in
    rw (p.1, p.2)
    (refused-runs args.text.now (replicate 8834 0) args.schedule.now args.outcomes.now args.trace.now args.work.now
    c.in_err-n.ensures.0)

pub unreachable-requires : goal.unreachable-requires
unfolding text.answer_numbers
unreachable-requires c =
    let t = c.in_ok-n.ensures in
    never-runs c.args.text.now (replicate 8834 0) (omega arith) (rw c.in_default.is at t.0)

pub slice_bounds-table-end : goal.slice_bounds-table-end
unfolding text.answer_numbers
slice_bounds-table-end c =
    let t = c.in_ok-n.ensures in
    words-there c.args.text.now (replicate 8834 0) (rw c.in-Table.is at t.0) t.1

pub slice_bounds-run-end : goal.slice_bounds-run-end
unfolding text.answer_numbers
slice_bounds-run-end c =
    let t = c.in_ok-n.ensures in
    sym (length-take-le _ _ (words-there c.args.text.now (replicate 8834 0) (rw c.in-Table.is at t.0) t.1))

pub returns-in_err-run : goal.returns-in_err-run
unfolding answer_numbers text.answer_numbers run.answer_numbers
returns-in_err-run c =
    let args = c.args in
    let t = c.in_ok-n.ensures in
    let r = c.in_err-run.ensures in
    let p = err_from_is_err_and c.from_residual-in_err-run.result c.from_residual-in_err-run.ensures.1 in
    rw (p.1, p.2)
    (table_runs args.text.now (replicate 8834 0) (rw c.in-Table.is at t.0) t.1 args.schedule.now args.outcomes.now
    args.trace.now args.work.now r.0 r.1 r.2)

pub returns : goal.returns
unfolding answer_numbers text.answer_numbers run.answer_numbers
returns c =
    let args = c.args in
    let t = c.in_ok-n.ensures in
    let r = c.in_ok-run.ensures in
    table_runs args.text.now (replicate 8834 0) (rw c.in-Table.is at t.0) t.1 args.schedule.now args.outcomes.now
    args.trace.now args.work.now r.0 r.1 r.2
