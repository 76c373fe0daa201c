-- `note_counts`, effect by effect.
use Rattle.std.proofs.Common.{rules}
use mathlib.Core.Path.{ap, ◌∙◌}
use Prim.Native.Nat.{ℕ}
use Rattle.text_window.specs.WindowCode.{put, one_more, counts_after}
use Rattle.text_expr.specs.LevelsCode.{less_one}
use Rattle.text_window.proofs.WindowLaws.{less-one, more-one}
use Rattle.text_window.proofs.window.note_counts.Goals as goal

pub returns-in-Assigns : goal.returns-in-Assigns
unfolding counts_after
returns-in-Assigns c =
    rw c.in-Assigns.is (c.put_count.ensures ∙ ap
    (λ (v : ℕ). put c.args.low c.args.depth v c.args.counts.now)
    (more-one _ c.count_at.type_inv c.saturating_add-more.ensures ∙ ap one_more c.count_at.ensures))

pub returns-in-Unassigns : goal.returns-in-Unassigns
unfolding counts_after
returns-in-Unassigns c =
    rw c.in-Unassigns.is (c.put_count-in-Unassigns.ensures ∙ ap
    (λ (v : ℕ). put c.args.low c.args.depth v c.args.counts.now)
    (less-one _ c.saturating_sub-less.ensures ∙ ap less_one c.count_at-in-Unassigns.ensures))

pub returns-in-OpensBracket : goal.returns-in-OpensBracket
unfolding counts_after
returns-in-OpensBracket c =
    rw c.in-OpensBracket.is (c.put_count-in-OpensBracket.ensures ∙ ap
    (λ (k : ℕ). put c.args.low k 0 c.args.counts.now)
    (more-one _ c.ranges.depth.fits c.saturating_add.ensures))

pub returns-in-OpensCall : goal.returns-in-OpensCall
unfolding counts_after
returns-in-OpensCall c =
    rw c.in-OpensCall.is (c.put_count-in-OpensCall.ensures ∙ ap
    (λ (k : ℕ). put c.args.low k 0 c.args.counts.now)
    (more-one _ c.ranges.depth.fits c.saturating_add-in-OpensCall.ensures))

pub returns-in-NextArgument : goal.returns-in-NextArgument
unfolding counts_after
returns-in-NextArgument c = rw c.in-NextArgument.is c.put_count-in-NextArgument.ensures

pub returns-in_default : goal.returns-in_default
unfolding counts_after
returns-in_default c = search rules
