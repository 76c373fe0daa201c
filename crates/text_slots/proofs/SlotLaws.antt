-- The slot of a name, one variable in scope after the other.
use Prim.Native.Nat.{ℕ, suc, ◌+◌, ◌*◌}
use native.Mathlib.Omega.{arith}
use mathlib.Core.Path.{◌≡◌, refl, sym, ap, ◌∙◌}
use mathlib.Core.Bool.{Bool, true, false}
use mathlib.Core.List.{List, [], ◌∷◌}
use lib.Dec.{eqb}
use lib.ListN.{get_or}
use lib.Seq.{slice}
use Rattle.lists.specs.Lists.{same}
use Rattle.text.specs.Tree.{Name, spells, index_of}
use Rattle.text.specs.Translation.{Placed, Scope, found_in, slot_of, ends_in, truth_word}
use Rattle.text_slots.specs.Placing.{PlacedAt, nothing_placed, one_placed, SlotAnswer}

-- the words that say whether a channel has ends
word-ends : (b : Bool) → eqb (truth_word b) 1 ≡ b
unfolding truth_word
word-ends true = refl
word-ends false = refl

module _ (v : Placed) (sc : Scope) (x : Name) where
  slot-first : spells x v.name ≡ true → (v.slot ≡ slot_of (v ∷ sc) x) × (v.ends ≡ ends_in (v ∷ sc) x)
  unfolding slot_of ends_in found_in index_of
  slot-first e = (rw e refl, rw e refl)

  slot-later : spells x v.name ≡ false → (slot_of sc x ≡ slot_of (v ∷ sc) x) × (ends_in sc x ≡ ends_in (v ∷ sc) x)
  unfolding slot_of ends_in found_in index_of
  slot-later e = (rw e refl, rw e refl)

module _ (text scope : List ℕ) (start end : ℕ) where
  pub slot-none : SlotAnswer text scope 0 start end 16 false
  unfolding slot_of ends_in found_in index_of
  slot-none sc x nothing_placed le e = (refl, refl)

  module _ (k : ℕ) where
    -- the name of entry k has the bytes of the name that is looked for
    abbrev Matches : Bool → Type 0
    Matches b = b ≡ same (slice start end text) (slice (get_or scope (4 * k) 0) (get_or scope (4 * k + 1) 0) text)

    by-test : (v : Placed) (x : Name) (b : Bool) → Matches b → x.spelling ≡ slice start end text
        → PlacedAt text scope k v → spells x v.name ≡ b
    by-test v x b m e p =
        ap (λ (y : List ℕ). same y v.name.spelling) e ∙ ap (same (slice start end text)) p.spelt ∙ sym m

    pub slot-here : Matches true
        → SlotAnswer text scope (suc k) start end (get_or scope (4 * k + 3) 0) (eqb (get_or scope (4 * k + 2) 0) 1)
    slot-here m [] x h le e = elim h [ ]
    slot-here m (v ∷ sc) x (one_placed p ps) le e =
        let first = slot-first v sc x (by-test v x true m e p) in (
          p.slot ∙ first.0,
          ap (λ (w : ℕ). eqb w 1) p.flag ∙ word-ends v.ends ∙ first.1,
        )

    pub slot-outer : (slot : ℕ) (ends : Bool) → Matches false → SlotAnswer text scope k start end slot ends
        → SlotAnswer text scope (suc k) start end slot ends
    slot-outer slot ends m a [] x h le e = elim h [ ]
    slot-outer slot ends m a (v ∷ sc) x (one_placed p ps) le e =
        let later = slot-later v sc x (by-test v x false m e p) in
        let outer = a sc x ps (omega arith) e in
        (outer.0 ∙ later.0, outer.1 ∙ later.1)
