-- `judge_words` marks the targets of the jumps before it judges.
use Rattle.text_judge.proofs.Resuming.{in-method}
use Rattle.text_judged.proofs.method.judge_words.Goals as goal

pub invariant_of-m : goal.invariant_of-m
invariant_of-m c =
    let pre = c.requires in
    record { kept = in-method _ _ _ _ _ pre.0 pre.7.enough pre.7.zeros c.mark_targets.ensures }

pub judge_all-requires : goal.judge_all-requires
judge_all-requires c =
    let pre = c.requires in
    (record { called = pre.1; numbered = pre.2; enough = pre.3; methods = pre.4; known = pre.5 }, pre.6)
