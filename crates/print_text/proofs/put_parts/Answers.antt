-- `put_parts` puts the text of the run that the parts describe.
use Prim.Native.Nat.{ℕ}
use mathlib.Core.Path.{sym}
use lib.ListN.{replicate, length-replicate}
use lib.Seq.{length-take-le}
use Rattle.print_text.proofs.Output.{prints-same}
use Rattle.print_text.proofs.Built.{built, words-fit, words-read, schedule-read, outcomes-read, in_order, parts-text}
use Rattle.print_text.proofs.put_parts.Goals as goal

pub slice_bounds-words-end : goal.slice_bounds-words-end
slice_bounds-words-end c =
    let file = c.args.file.now in
    let b = built file c.requires in
    words-fit file b (replicate 32768 0) (length-replicate {A = ℕ} 32768 0) c.number_at-from.result
    c.number_at-size.result c.put_words-n.ensures.0 c.put_words-n.ensures.1

pub slice_bounds-put_run-end : goal.slice_bounds-put_run-end
slice_bounds-put_run-end c =
    let file = c.args.file.now in
    let b = built file c.requires in
    sym
    (length-take-le _ _
    (words-fit file b (replicate 32768 0) (length-replicate {A = ℕ} 32768 0) c.number_at-from.result
    c.number_at-size.result c.put_words-n.ensures.0 c.put_words-n.ensures.1))

pub slice_bounds-put_run-count : goal.slice_bounds-put_run-count
slice_bounds-put_run-count c =
    let file = c.args.file.now in
    let b = built file c.requires in
    (in_order file b c.number_at-a.ensures.0 c.number_at-b.ensures.0).0

pub slice_bounds-put_run-start : goal.slice_bounds-put_run-start
slice_bounds-put_run-start c =
    let file = c.args.file.now in
    let b = built file c.requires in
    (in_order file b c.number_at-a.ensures.0 c.number_at-b.ensures.0).0

pub slice_bounds-put_run-end-2 : goal.slice_bounds-put_run-end-2
slice_bounds-put_run-end-2 c =
    let file = c.args.file.now in
    let b = built file c.requires in
    (in_order file b c.number_at-a.ensures.0 c.number_at-b.ensures.0).1

pub slice_bounds-put_run-count-2 : goal.slice_bounds-put_run-count-2
slice_bounds-put_run-count-2 c =
    let file = c.args.file.now in
    let b = built file c.requires in
    (in_order file b c.number_at-a.ensures.0 c.number_at-b.ensures.0).1

pub slice_bounds-put_run-start-2 : goal.slice_bounds-put_run-start-2
slice_bounds-put_run-start-2 c =
    let file = c.args.file.now in
    let b = built file c.requires in
    (in_order file b c.number_at-a.ensures.0 c.number_at-b.ensures.0).1

pub returns : goal.returns
returns c =
    let file = c.args.file.now in
    let b = built file c.requires in
    let number_at = c.number_at-from in
    let number-at2 = c.number_at-size in
    let number-at3 = c.number_at-a in
    let number-at4 = c.number_at-b in
    let put-words = c.put_words-n in
    prints-same c.args.out.now
    (parts-text
    (words-read file b (replicate 32768 0) (length-replicate {A = ℕ} 32768 0) number_at.result number-at2.result
    put-words.ensures.0 put-words.ensures.1 number_at.ensures.0 number-at2.ensures.0)
    (schedule-read file b number-at3.ensures.0 number-at4.ensures.0)
    (outcomes-read file b number-at4.ensures.0)) c.put_run.ensures
