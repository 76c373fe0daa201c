-- `judge_in` puts the tests one after the other, and steps.
use mathlib.Core.Path.{refl, ◌∙◌}
use Rattle.text_judge.proofs.Judging.{two-owner, two-some, two-limits, two_ready, no-argument, no_target, no_end, all-kept}
use Rattle.text_judge.proofs.instruction.judge_in.Goals as goal

pub argument_kept-requires : goal.argument_kept-requires
argument_kept-requires c =
    let h = c.requires.0 in
    (h.sizes, two-limits _ _ h c.limits_for-limits.ensures, two-owner _ _ h, two-some _ _ h, c.requires.1)

pub returns-then-not-argument_kept : goal.returns-then-not-argument_kept
returns-then-not-argument_kept c = no-argument _ _ _ _ _ c.args.q _ c.argument_kept.ensures c.if-not-argument_kept.true-raw

pub returns-then-s-q : goal.returns-then-s-q
returns-then-s-q c = no_target _ _ _ _ _ c.args.q c.if-s-q.true

pub returns-then-s-closes : goal.returns-then-s-closes
returns-then-s-closes c = no_end _ _ _ _ _ c.args.q _ c.closes.ensures c.if-s-closes.true

pub step-requires : goal.step-requires
step-requires c =
    let h = c.requires.0 in
    two_ready _ _ _ _ _ _ h (two-owner _ _ h) refl c.argument_kept.ensures c.if-not-argument_kept.false-raw

pub returns : goal.returns
returns c =
    c.step.ensures
    ∙ all-kept _ _ _ _ _ c.args.q _ _ c.argument_kept.ensures c.if-not-argument_kept.false-raw c.if-s-q.false c.closes.ensures
    c.if-s-closes.false
