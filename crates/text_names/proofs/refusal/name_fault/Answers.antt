-- `name_fault`: the lowest fault, or the end of a text without main.
use Rattle.text_names.specs.Answer.{fault_in}
use Rattle.text_names.proofs.Refused.{main-found, main-missing}
use Rattle.text_names.proofs.refusal.name_fault.Goals as goal

pub returns-in-Ok : goal.returns-in-Ok
returns-in-Ok c = main-found _ c.in-Ok.ensures c.lowest_fault-lowest.ensures

pub returns-in-Err : goal.returns-in-Err
unfolding fault_in
returns-in-Err c = main-missing _ c.in-Err.ensures c.lowest_fault-lowest.ensures c.lower_place.ensures
