-- The condition's list of ops as a whole, and what is left of a line without its entry, by computing: no op more and no
-- column less would be noticed by the theorems, which hold of any narrower condition.
use mathlib.Core.Path.{◌≡◌, refl}
use mathlib.Core.Bool.{true, false}
use mathlib.Core.List.{[], ◌∷◌, map}
use Rattle.lists.specs.Lists.{below}
use Rattle.exchange.specs.Exchange.{left_out, without_entry}

-- from op 0 to op 23: "NEWQ, NEWC, MEAS, .. FORK, SEND or RECV" are 7, 8, 11, 14, 15, 16
pub left-out : map left_out (below 24)
    ≡ false ∷ false ∷ false ∷ false ∷ false ∷ false ∷ false ∷ true ∷ true ∷ false ∷ false ∷ true
    ∷ false ∷ false ∷ true ∷ true ∷ true ∷ false ∷ false ∷ false ∷ false ∷ false ∷ false ∷ false ∷ []
unfolding left_out below
left-out = refl

pub without-entry : without_entry (record { entry = 1; process = 2; kind = 3; a = 4; b = 5; c = 6 })
    ≡ record { entry = 0; process = 2; kind = 3; a = 4; b = 5; c = 6 }
without-entry = refl
