-- `holds` by its tests.
use borrow.Author.Tests.{ltb-true}
use Rattle.lists.proofs.Tests.{never}
use Rattle.text_window.proofs.WindowLaws.{held_none, held-some}
use Rattle.text_window.proofs.window.holds.Goals as goal

pub returns-then-depth-eq0 : goal.returns-then-depth-eq0
returns-then-depth-eq0 c = let g = c.args in λ e. held_none g.room g.low g.depth c.if-depth-eq0.true e

pub returns-then-depth-low : goal.returns-then-depth-low
returns-then-depth-low c = λ e. never e

pub returns : goal.returns
returns c = let g = c.args in λ e. held-some g.room g.low g.depth c.if-depth-low.false (ltb-true _ g.room e)
