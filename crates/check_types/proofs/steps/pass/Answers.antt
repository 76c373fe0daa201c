-- `pass` takes the arguments off, the last one first: the first `s` are still to be taken.
use mathlib.Core.Path.{sym, ◌∙◌}
use Rattle.check_types.proofs.Rules.{row-low, params-word, pass-begins, argument-some, pass-goes-on, pass-ends, offs-none}
use native.Mathlib.Omega.{arith}
use Rattle.check_types.proofs.steps.pass.Goals as goal

pub overflow_add-at : goal.overflow_add-at
overflow_add-at c = omega (arith, row-low _ _ _ c.requires)

pub loop-s-init : goal.loop-s-init
loop-s-init c = pass-begins _ _ _ c.requires _ (params-word _ _ _ c.requires c.word_at-s.ensures.0)

pub overflow_add-at-in-loop-s : goal.overflow_add-at-in-loop-s
overflow_add-at-in-loop-s c = omega (arith, row-low _ _ _ c.requires)

pub overflow_add-at-in-loop-s-2 : goal.overflow_add-at-in-loop-s-2
overflow_add-at-in-loop-s-2 c = omega (arith, row-low _ _ _ c.requires, c.loop-s.auto.s, c.word_at-s.ensures.1)

pub off-requires : goal.off-requires
off-requires c =
    let pre = c.requires in
    let all = params-word _ _ _ pre c.word_at-s.ensures.0 in
    argument-some _ _ _ pre _ _ c.word_at.ensures.0 (omega arith)

pub returns-in_err-rest : goal.returns-in_err-rest
returns-in_err-rest c =
    let pre = c.requires in
    let loop = c.loop-s in
    let all = params-word _ _ _ pre c.word_at-s.ensures.0 in
    rw c.from_residual.ensures (sym (offs-none _) ∙ pass-goes-on _ _ _ pre _ _ _ _ _ (omega arith) (omega arith)
    c.word_at.ensures.0 c.in_err-rest.ensures loop.invariant)

pub loop-s-preserved : goal.loop-s-preserved
loop-s-preserved c =
    let pre = c.requires in
    let loop = c.loop-s in
    let all = params-word _ _ _ pre c.word_at-s.ensures.0 in
    pass-goes-on _ _ _ pre _ _ _ _ _ (omega arith) (omega arith) c.word_at.ensures.0 c.in_ok-rest.ensures loop.invariant

pub returns : goal.returns
returns c =
    let pre = c.requires in
    let loop = c.loop-s in
    pass-ends _ _ _ pre _ _ _ c.loop-s-test.false loop.invariant
