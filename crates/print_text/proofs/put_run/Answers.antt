-- `put_run` puts the answer of a run over a trace and a store of its own.
use Prim.Native.Nat.{ℕ}
use native.Mathlib.Omega.{arith}
use lib.ListN.{replicate, length-replicate}
use Rattle.print_text.proofs.Output.{printable, prints-same}
use Rattle.print_text.proofs.put_run.Goals as goal

pub put_answer-requires : goal.put_answer-requires
put_answer-requires c =
    let args = c.args in
    let t =
    printable args.program.now args.schedule.now args.outcomes.now (replicate 24576 0)
    (replicate 8256 0) (length-replicate {A = ℕ} 24576 0) (length-replicate {A = ℕ} 8256 0)
    c.run-a.ensures.0 c.run-a.ensures.1 in
    (t.held, omega (arith, t.few))

pub returns : goal.returns
returns c =
    let args = c.args in
    let t =
    printable args.program.now args.schedule.now args.outcomes.now (replicate 24576 0)
    (replicate 8256 0) (length-replicate {A = ℕ} 24576 0) (length-replicate {A = ℕ} 8256 0)
    c.run-a.ensures.0 c.run-a.ensures.1 in
    prints-same args.out.now t.text c.put_answer.ensures
