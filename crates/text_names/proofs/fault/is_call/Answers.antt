-- `is_call`: a method that is found, with its parameters.
use Rattle.text_names.proofs.Calls.{call-found, call-missing}
use Rattle.text_names.proofs.fault.is_call.Goals as goal

pub returns-in-Ok : goal.returns-in-Ok
returns-in-Ok c = call-found _ _ _ _ c.count_arguments-n.ensures _ c.in-Ok.ensures

pub returns-in-Err : goal.returns-in-Err
returns-in-Err c = call-missing _ _ _ _ c.count_arguments-n.ensures c.in-Err.ensures
