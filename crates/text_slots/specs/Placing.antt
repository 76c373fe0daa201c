-- The variables in scope as they stand in a lent array: entry j, 0 being the outermost, at 4 j.
use Rattle.std.specs.Prelude.{ℕ, suc, ◌+◌, ◌*◌, ◌≤◌, ◌<◌, ◌≡◌, Bool, List, [], ◌∷◌, get_or}
use Rattle.std.proofs.Math.Seq.{slice}
use Rattle.text.specs.Tree.{Name}
use Rattle.text.specs.Translation.{Placed, Scope, slot_of, ends_in, truth_word}

-- Entry j is this variable: start and end of its name in the text, 1 if it is a channel with ends and else 0, its slot,
-- which is a word of a table.
pub record PlacedAt (text scope : List ℕ) (j : ℕ) (v : Placed) : Type 0 where
  pub spelt : v.name.spelling ≡ slice (get_or scope (4 * j) 0) (get_or scope (4 * j + 1) 0) text
  pub flag : get_or scope (4 * j + 2) 0 ≡ truth_word v.ends
  pub slot : get_or scope (4 * j + 3) 0 ≡ v.slot
  pub word : v.slot < 65536

-- The first n entries are these variables, the last entry the innermost.
pub data Placing (text scope : List ℕ) : ℕ → Scope → Type 0 where
  nothing_placed : Placing text scope 0 []
  one_placed : {n : ℕ} {v : Placed} {sc : Scope} → PlacedAt text scope n v → Placing text scope n sc
      → Placing text scope (suc n) (v ∷ sc)

-- what is asked of a slot and of whether it is that of a channel with ends, for the name at start up to end
abbrev pub SlotAnswer : List ℕ → List ℕ → ℕ → ℕ → ℕ → ℕ → Bool → Type 0
SlotAnswer text scope n start end slot ends =
    (sc : Scope) (x : Name) → Placing text scope n sc → n ≤ 16 → x.spelling ≡ slice start end text
    → (slot ≡ slot_of sc x) × (ends ≡ ends_in sc x)
