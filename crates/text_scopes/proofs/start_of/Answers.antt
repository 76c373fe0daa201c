-- `start_of` reads a place.
use native.Mathlib.Omega.{arith}
use Rattle.text_scopes.proofs.start_of.Goals as goal

pub returns : goal.returns
returns c = λ h. absurd (omega arith)
