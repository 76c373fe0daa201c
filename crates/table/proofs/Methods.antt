-- An accepted table's methods: the laws of owners, and the slot types of a method's row.
use Prim.Native.Nat.{ℕ, ◌≤◌, ◌<◌}
use mathlib.Core.Path.{◌≡◌}
use mathlib.Core.List.{List}
use lib.ListN.{get_or, length}
use Rattle.table.specs.Table.{methods, instructions, offset_of, end_of, slot_type, slot_types, owner_of}
use Rattle.table.proofs.Accepted.{Kept}
use Rattle.table.proofs.Owners
use Rattle.table.proofs.Slots
pub use Rattle.table.proofs.Owners.{Inside}

module _ (p : List ℕ) (k : Kept p) where
  pub end-within : (m : ℕ) → m < methods p → end_of p m ≤ instructions p
  end-within = Owners.end-within p k.sizes k.pairs

  pub inside-bound : {m i : ℕ} → Inside p m i → i < instructions p
  inside-bound = Owners.inside-bound p k.sizes k.pairs

  pub inside-offset : (m : ℕ) → m < methods p → Inside p m (offset_of p m)
  inside-offset = Owners.inside-offset p k.sizes k.pairs

  pub inside-owner : {m i : ℕ} → Inside p m i → owner_of p i ≡ m
  inside-owner = Owners.inside-owner p k.sizes k.pairs

  pub slot_types-length : (m : ℕ) → m < methods p → length (slot_types p m) ≡ 16
  slot_types-length = Slots.slot_types-length p k.sizes

  pub slot_types-at : (m s : ℕ) → s < 16 → get_or (slot_types p m) s 0 ≡ slot_type p m s
  slot_types-at = Slots.slot_types-at p
