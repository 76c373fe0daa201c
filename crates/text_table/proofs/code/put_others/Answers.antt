-- `put_others` goes through the methods in text order.
use native.Mathlib.Omega.{arith}
use mathlib.Core.Path.{refl, ◌∙◌, subst}
use Rattle.text_code.specs.KeptCode.{CodeKept}
use Rattle.text_table.specs.WrittenCode.{OthersPut}
use Rattle.text_table.proofs.KeptLaws.{offset-none, offset-next}
use Rattle.text_table.proofs.StepLaws.{others-start, others-on, others-all}
use Rattle.text_table.proofs.code.put_others.Goals as goal

pub loop-k-init : goal.loop-k-init
loop-k-init c = (c.requires.1, offset-none _, omega arith, refl, λ ns w e d q l. others-start w _ _)

pub put_kept-i-requires : goal.put_kept-i-requires
put_kept-i-requires c = (
  omega (arith, c.loop-k-test.true, c.loop-k.invariant.2, c.requires.0),
  c.word_at-long.ensures.1,
  c.requires.2,
)

pub overflow_add-from : goal.overflow_add-from
overflow_add-from c = omega (arith, c.loop-k-test.true, c.loop-k.invariant.2, c.requires.0, c.word_at-long.ensures.1)

pub loop-k-preserved : goal.loop-k-preserved
loop-k-preserved c =
    let put-kept = c.put_kept-i in
    let long = c.word_at-long.ensures in
    let inv = c.loop-k.invariant in
    let args = c.args in (
      put-kept.ensures.1 inv.0,
      offset-next _ _ _ _ inv.1 long.0,
      omega (arith, inv.2, long.1),
      c.table-1.given ∙ inv.3,
      λ ns w e d q l. others-on w args.lengths.now args.kept.now d
          (subst (λ n. CodeKept ns n args.lengths.now args.kept.now) e q) _ _ _ inv.1 long.0
          (inv.4 ns w e d q l) (omega (arith, c.loop-k-test.true, e)) l put-kept.ensures.0,
    )

pub shape_of-table : goal.shape_of-table
shape_of-table c = c.loop-k.invariant.3

pub returns : goal.returns
returns c =
    let loop = c.loop-k in
    let args = c.args in
    λ ns w e d q l. others-all w
    (subst (λ k. OthersPut ns k args.at args.table.now loop.table loop.i)
    (omega (arith, e, loop.auto.k-end, c.loop-k-test.false)) (loop.invariant.4 ns w e d q l))
