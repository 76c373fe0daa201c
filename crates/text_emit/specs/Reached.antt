-- Where an emission stands, as contracts and proofs say it: with whether all fits so far. These definitions follow the
-- code.
use Rattle.std.specs.Prelude.{ℕ, Bool, true, false, Option, Some, None}
use Rattle.text_emit.specs.declared.emit.Emit.{Emit}

-- whether all fits so far, the place in the text, the slots given out, and the instructions in the buffer
pub record EmitState : Type 0 where
  pub ok : Bool
  pub at : ℕ
  pub used : ℕ
  pub count : ℕ

-- all fits so far
abbrev pub there : Emit → EmitState
there e = record { ok = true; at = e.at; used = e.used; count = e.count }

-- what a step answers: none where something does not fit
abbrev pub reached : Option Emit → EmitState
reached None = record { ok = false; at = 0; used = 0; count = 0 }
reached (Some e) = there e
