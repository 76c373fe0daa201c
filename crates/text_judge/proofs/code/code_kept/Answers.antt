-- `code_kept` judges all instructions: no row is wanted.
use mathlib.Core.Path.{◌∙◌}
use lib.ListN.{get_or-replicate}
use Rattle.text_judge.proofs.Resuming.{in-method, none-wanted, answer-right}
use native.Mathlib.Omega.{arith}
use Rattle.text_judge.proofs.code.code_kept.Goals as goal

pub invariant_of-m : goal.invariant_of-m
invariant_of-m c =
    let method = c.requires.0 in
    let short = method.short in
    record {
      kept = in-method _ _ _ _ _ method (omega arith) (λ i l. get_or-replicate 4096 i 0 0 (omega (arith, short)))
          c.mark_targets.ensures;
    }

pub judge-j-requires : goal.judge-j-requires
judge-j-requires c = (c.requires.1, omega (arith, c.begin.ensures.0))

pub returns : goal.returns
returns c =
    let judge = c.judge-j in
    let begin = c.begin in
    let pre = c.requires in
    let on = judge.ensures in
    λ f k. c.is_some.ensures ∙ answer-right _ _ _ on.within (λ l few. none-wanted _ _ _ pre.2 (on.stops l few))
    (on.right f k (begin.ensures.1 _))
