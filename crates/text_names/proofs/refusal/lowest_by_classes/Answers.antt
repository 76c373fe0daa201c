-- `lowest_by_classes`: the lowest fault of the classes that are passed.
use native.Mathlib.Omega.{arith}
use mathlib.Core.Path.{◌≡◌, ◌∙◌, subst}
use mathlib.Core.Bool.{false}
use Rattle.std.specs.Prelude.{IfOk}
use Rattle.text_open.specs.ClassCode.{in_class}
use Rattle.text_names.specs.FaultCode.{lowest_in}
use Rattle.text_names.specs.Answer.{fault_in}
use Rattle.text_names.proofs.Passes.{first-class, next-class, last-class}
use Rattle.text_names.proofs.refusal.lowest_by_classes.Goals as goal

pub loop-class-init : goal.loop-class-init
unfolding fault_in
loop-class-init c = (c.requires, first-class c.args.methods.now.text.now)

pub loop-class-preserved : goal.loop-class-preserved
loop-class-preserved c =
    let o = c.lowest_in.ensures in (
      c.lowest_in.auto.words ∙ c.loop-class.invariant.0,
      next-class c.args.methods.now.text.now c.loop-class.class c.loop-class.invariant.1
          (subst (λ r. IfOk r (λ low. fault_in low ≡ lowest_in (in_class false c.loop-class.class) c.args.methods.now.text.now)) c.unwrap-here.ensures o.0)
          c.lower_place-low.ensures,
    )

pub returns : goal.returns
returns c = c.loop-class.invariant.1 ∙ last-class c.args.methods.now.text.now _
    (omega (arith, c.loop-class-test.false, c.loop-class.auto.class-end))
