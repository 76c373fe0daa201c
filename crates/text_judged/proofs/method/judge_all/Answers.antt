-- `judge_all` goes on from call to call.
use mathlib.Core.Path.{sym, ◌∙◌}
use native.Mathlib.Omega.{arith}
use Rattle.text_judge.proofs.Resuming.{answer-right}
use Rattle.text_judged.proofs.Stepping.{both-tests, not-both}
use Rattle.text_judged.proofs.method.judge_all.Goals as goal

pub past_call-j-requires : goal.past_call-j-requires
past_call-j-requires c =
    let (within, going) = both-tests c.loop-j.j.at c.args.m.now.n.long c.is_some.result c.loop-j-test.true in
    (c.requires.0, c.loop-j.invariant, within, sym c.is_some.ensures ∙ going, c.requires.1)

pub loop-j-smaller : goal.loop-j-smaller
loop-j-smaller c =
    let (within, going) = both-tests c.loop-j.j.at c.args.m.now.n.long c.is_some.result c.loop-j-test.true in
    omega (arith, within, c.past_call-j.ensures.1)

pub returns : goal.returns
returns c =
    λ ns us e. c.is_some-2.ensures
    ∙ answer-right _ _ _ c.loop-j.invariant.within (λ l s. not-both _ _ _ c.loop-j-test.false l (c.is_some.ensures ∙ s))
    (c.loop-j.invariant.right ns us e)
