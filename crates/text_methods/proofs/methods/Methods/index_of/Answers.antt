-- `index_of`: where no method has the name, all stand before it.
use Rattle.text_methods.proofs.Looking.{some-index, missing-index}
use Rattle.text_methods.proofs.methods.Methods.index_of.Goals as goal

pub returns-in-Ok : goal.returns-in-Ok
returns-in-Ok c = some-index _ _ _ c.in-Ok.ensures

pub returns-in-Err : goal.returns-in-Err
returns-in-Err c = missing-index _ _ _ c.in-Err.ensures
