-- `is_type` knows the codes of the types.
use mathlib.Core.Path.{refl}
use Rattle.table.specs.Table.{is_type}
use Rattle.check_shape.proofs.rows.is_type.Goals as goal

pub returns : goal.returns
unfolding is_type
returns c = refl
