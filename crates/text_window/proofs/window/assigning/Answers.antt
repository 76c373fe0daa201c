-- `assigning` by the cell.
use mathlib.Core.Path.{ap}
use lib.Dec.{ltb}
use Rattle.text_window.proofs.window.assigning.Goals as goal

pub returns : goal.returns
returns c = ap (ltb 0) c.count_at.ensures
