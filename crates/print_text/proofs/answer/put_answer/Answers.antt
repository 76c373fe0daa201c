-- `put_answer` goes by the answer's case.
use mathlib.Core.Path.{sym, ap}
use native.Mathlib.Omega.{arith}
use lib.ListN.{take}
use Rattle.trace.specs.Trace.{lines_of}
use Rattle.print_format.specs.Format.{answer_text}
use Rattle.std.specs.Prelude.{Result}
use Rattle.check_questions.specs.declared.Refusal.{Refusal}
use Rattle.run_schedule.specs.declared.entries.RunSummary.{RunSummary}
use Rattle.run.specs.Answers.{answer_numbers}
use Rattle.run.specs.Answers.{lines_no}
use Rattle.print_text.proofs.Output.{from_start, prints-same}
use Rattle.print_text.proofs.answer.put_answer.Goals as goal

pub put_ended-requires : goal.put_ended-requires
unfolding lines_no answer_numbers
put_ended-requires c =
    let same = ap (λ (a : Result RunSummary Refusal). lines_no (answer_numbers a)) c.in-Ok.is in
    let pre = c.requires in
    (omega (arith, same, pre.0), omega (arith, same, pre.1))

pub returns-in-Err : goal.returns-in-Err
unfolding lines_no answer_numbers answer_text
returns-in-Err c =
    let args = c.args in
    let ls = lines_of args.trace.now in
    prints-same args.out.now
    (ap (λ (a : Result RunSummary Refusal). answer_text (take (lines_no (answer_numbers a)) ls) (answer_numbers a)) (sym c.in-Err.is))
    (from_start args.out.now _ (rw (c.from.ensures, c.number.ensures, c.place.ensures) at c.put_refused.ensures))

pub returns-in-Ok : goal.returns-in-Ok
unfolding lines_no answer_numbers
returns-in-Ok c =
    let args = c.args in
    let ls = lines_of args.trace.now in
    prints-same args.out.now
    (ap (λ (a : Result RunSummary Refusal). answer_text (take (lines_no (answer_numbers a)) ls) (answer_numbers a))
    (sym c.in-Ok.is))
    c.put_ended.ensures
