-- The 16 slot types of a method's row.
use Prim.Native.Nat.{ℕ, ◌<◌}
use native.Mathlib.Omega.{arith}
use mathlib.Core.Path.{◌≡◌}
use mathlib.Core.List.{List}
use lib.ListN.{get_or, length, length-take, length-drop}
use lib.Seq.{get_or-take, get_or-drop}
use Rattle.table.specs.Table.{word, methods, row, slot_type, slot_types}
use Rattle.table.proofs.Accepted.{Sizes}

pub slot_types-length : (p : List ℕ) → Sizes p → (m : ℕ) → m < methods p → length (slot_types p m) ≡ 16
unfolding slot_types row
slot_types-length p s m h = simp (length-take, length-drop) (omega arith)

pub slot_types-at : (p : List ℕ) (m s : ℕ) → s < 16 → get_or (slot_types p m) s 0 ≡ slot_type p m s
unfolding slot_types slot_type word
slot_types-at p m s h = rw (get_or-take, get_or-drop)
