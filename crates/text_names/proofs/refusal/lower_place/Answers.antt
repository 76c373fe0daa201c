-- `lower_place` by its cases.
use mathlib.Core.Path.{refl, sym}
use Rattle.text_names.specs.Answer.{fault_in}
use Rattle.text_names.specs.FaultsCode.{lower_of}
use Rattle.text_names.proofs.Calls.{lower-min}
use Rattle.text_names.proofs.Lowest.{lower-none}
use Rattle.text_names.proofs.refusal.lower_place.Goals as goal

pub returns-in-Some-Some : goal.returns-in-Some-Some
unfolding fault_in
returns-in-Some-Some c = rw (c.min.ensures, c.in-Some-Some.is-0, c.in-Some-Some.is-1) (lower-min _ _)

pub returns-in-Some-None : goal.returns-in-Some-None
unfolding fault_in
returns-in-Some-None c = rw c.in-Some-None.is-1 (sym (lower-none _))

pub returns-in-None-default : goal.returns-in-None-default
unfolding fault_in lower_of
returns-in-None-default c = rw c.in-None-default.is-0 refl
