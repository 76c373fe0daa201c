-- `judge_call` judges a call by the row that is given; a fault stays one.
use mathlib.Core.Path.{refl, ap, sym, ◌∙◌}
use Rattle.check_types.specs.PendingCode.{result_in}
use Rattle.text_judge.specs.RowsCode.{judged_on}
use Rattle.text_judge.proofs.Resuming.{in_code, wanted-so, call-so, may-call, next-right}
use Rattle.text_judge.proofs.marked.Marked.judge_call.Goals as goal

pub returns-in_default : goal.returns-in_default
unfolding judged_on
returns-in_default c = (refl, λ f e r. next-right _ _ _ (ap result_in (sym c.in_default.is) ∙ r))

pub instruction_at-s-requires : goal.instruction_at-s-requires
instruction_at-s-requires c =
    let pre = c.requires in
    in_code _ _ _ _ c.args.self.now.kept _ pre.1

pub judge_by-requires : goal.judge_by-requires
judge_by-requires c =
    let pre = c.requires in
    let s = c.instruction_at-s.ensures in
    let call = wanted-so _ _ _ _ c.args.self.now.kept _ pre.1 _ s.0 pre.2 in
    may-call _ _ _ _ c.args.self.now.kept _ pre.1 _ _ s.0 s.1 pre.0 call

pub returns : goal.returns
returns c =
    let pre = c.requires in
    let s = c.instruction_at-s.ensures in
    let call = wanted-so _ _ _ _ c.args.self.now.kept _ pre.1 _ s.0 pre.2 in (
      refl,
      λ f e r. c.judge_by.ensures
          ∙ call-so _ _ _ _ c.args.self.now.kept _ pre.1 f _ _ _ s.0 call e
          ∙ next-right _ _ _ (ap result_in (sym c.in-Some.is) ∙ r),
    )
