-- `depth_after`, effect by effect.
use Rattle.std.proofs.Common.{rules}
use Rattle.text_window.specs.WindowCode.{depth_after}
use Rattle.text_window.proofs.WindowLaws.{less-one, more-one}
use Rattle.text_window.proofs.window.depth_after.Goals as goal

pub returns-in-OpensBracket : goal.returns-in-OpensBracket
unfolding depth_after
returns-in-OpensBracket c = rw c.in-OpensBracket.is (more-one _ c.ranges.depth.fits c.saturating_add.ensures)

pub returns-in-OpensCall : goal.returns-in-OpensCall
unfolding depth_after
returns-in-OpensCall c = rw c.in-OpensCall.is (more-one _ c.ranges.depth.fits c.saturating_add-in-OpensCall.ensures)

pub returns-in-Closes : goal.returns-in-Closes
unfolding depth_after
returns-in-Closes c = rw c.in-Closes.is (less-one _ c.saturating_sub.ensures)

pub returns-in_default : goal.returns-in_default
unfolding depth_after
returns-in_default c = search rules
