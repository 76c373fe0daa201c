-- `is_invocation`: a method that is found, or a gate.
use Rattle.text_names.proofs.Calls.{invoke-found, gate-found}
use Rattle.text_names.proofs.fault.is_invocation.Goals as goal

pub returns-in-Ok : goal.returns-in-Ok
returns-in-Ok c = invoke-found _ _ _ _ c.count_arguments-n.ensures _ c.in-Ok.ensures

pub returns-in-Err : goal.returns-in-Err
returns-in-Err c =
    gate-found _ _ _ _ c.count_arguments-n.ensures c.in-Err.ensures c.gate_number.ensures c.gate_takes.ensures
