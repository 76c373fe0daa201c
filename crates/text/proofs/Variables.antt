-- The variables of a text's frame and the slots of a table's: each variable in scope has the value of its slot, every
-- slot in scope is the slot of one variable, and the slot that is never filled is empty.
use Prim.Native.Nat.{ℕ, zero, suc, ◌≤◌, ◌<◌}
use native.Mathlib.Omega.{arith}
use mathlib.Core.Bool.{Bool, true, false, cond}
use mathlib.Core.Logic.{◌≢◌}
use mathlib.Core.Path.{◌≡◌, refl, sym, ap, ap₂, ◌∙◌}
use mathlib.Core.List.{List, [], ◌∷◌, map}
use lib.ListN.{get_or, set, drop, length, length-set, length-map, get_or-eq_default, get_or-map}
use lib.Seq.{set_out, get_or-set_same, get_or-set_other}
use Rattle.lists.specs.Lists.{any}
use Rattle.machine.specs.Value.{Thing, Value, empty}
use Rattle.machine.specs.Entry.{lost_with, without}
use Rattle.text.specs.Tree.{Name, Declared, index_of}
use Rattle.text.specs.Meaning.{Variable, variable_name, value_in, found, value_of, bound_at, has_ends, fresh, variable_without}
use Rattle.text.specs.Translation.{Placed, Scope, placed_name, placed_slot, placed, found_in, slot_of, ends_in}
use Rattle.text.proofs.Scopes.{Below, placed_ends}

pub data Shown (hole : ℕ) (slots : List Value) : Scope → List Variable → Type 0 where
  none-shown : Shown hole slots [] []
  one-shown : {v : Placed} {w : Variable} {sc : Scope} {ws : List Variable} → v.name ≡ w.name → v.ends ≡ w.ends
      → get_or slots v.slot empty ≡ w.value → v.slot < hole → Below v.slot sc → Shown hole slots sc ws
      → Shown hole slots (v ∷ sc) (w ∷ ws)

-- The slots of a frame: sixteen, of which those in scope show the variables.
pub record Slots (hole : ℕ) (slots : List Value) (sc : Scope) (ws : List Variable) : Type 0 where
  pub width : length slots ≡ 16
  pub limit : hole ≤ 16
  pub hole-empty : get_or slots hole empty ≡ empty
  pub shown : Shown hole slots sc ws

-- the names are equal
shown-names : {hole : ℕ} {slots : List Value} {sc : Scope} {ws : List Variable} → Shown hole slots sc ws
    → map placed_name sc ≡ map variable_name ws
shown-names none-shown = refl
shown-names (one-shown n e v b u h) = ap₂ {C = List Name} (λ x xs. x ∷ xs) n (shown-names h)

-- a name means the same variable on both sides
pub same-found : {hole : ℕ} {slots : List Value} {sc : Scope} {ws : List Variable} → Shown hole slots sc ws
    → (x : Name) → found_in x sc ≡ found x ws
unfolding found_in found
same-found h x = ap (index_of x) (shown-names h)

-- so is, at each index, whether a variable has ends
same-ends-at : {hole : ℕ} {slots : List Value} {sc : Scope} {ws : List Variable} → Shown hole slots sc ws → (i : ℕ)
    → get_or (map placed_ends sc) i false ≡ get_or (map (λ (w : Variable). w.ends) ws) i false
same-ends-at none-shown i = refl
same-ends-at (one-shown n e v b u h) zero = e
same-ends-at (one-shown n e v b u h) (suc i) = same-ends-at h i

-- by its name
pub same_ends : {hole : ℕ} {slots : List Value} {sc : Scope} {ws : List Variable} → Shown hole slots sc ws
    → (x : Name) → ends_in sc x ≡ has_ends x ws
unfolding ends_in has_ends
same_ends {hole} {slots} {sc} {ws} h x =
    same-ends-at h (found_in x sc) ∙ ap (λ (i : ℕ). get_or (map (λ (w : Variable). w.ends) ws) i false) (same-found h x)

-- and the value is that of the slot
same-value-at : {hole : ℕ} {slots : List Value} {sc : Scope} {ws : List Variable} → length slots ≡ 16
    → Shown hole slots sc ws → (i : ℕ)
    → get_or slots (get_or (map placed_slot sc) i 16) empty ≡ get_or (map value_in ws) i empty
same-value-at {hole} {slots} w none-shown i = get_or-eq_default slots empty (omega arith)
same-value-at w (one-shown n e v b u h) zero = v
same-value-at w (one-shown n e v b u h) (suc i) = same-value-at w h i

-- the value of a variable is that of its slot
pub same-value : {hole : ℕ} {slots : List Value} {sc : Scope} {ws : List Variable} → Slots hole slots sc ws
    → (x : Name) → get_or slots (slot_of sc x) empty ≡ value_of x ws
unfolding slot_of value_of
same-value {hole} {slots} {sc} {ws} s x =
    same-value-at s.width s.shown (found_in x sc)
    ∙ ap (λ (i : ℕ). get_or (map value_in ws) i empty) (same-found s.shown x)

-- Storing

-- a slot above those in scope
shown-other : {hole : ℕ} {slots : List Value} {sc : Scope} {ws : List Variable} (j : ℕ) (v : Value) → Below j sc
    → Shown hole slots sc ws → Shown hole (set slots j v) sc ws
shown-other j v below none-shown = none-shown
shown-other {hole} {slots} j v below (one-shown {v = p} {w = w} {sc = sc} {ws = ws} n e g b u h) =
    let apart : p.slot < j = below.0 in
    one-shown n e (get_or-set_other slots j p.slot v empty (λ e. absurd (omega arith)) ∙ g) b u
    (shown-other j v below.1 h)

-- a slot in scope is not one above; one that is not in scope is no slot of the frame
slot_apart : (sc : Scope) (j k : ℕ) → Below j sc → j < 16 → get_or (map placed_slot sc) k 16 ≢ j
slot_apart [] j k below l e = absurd (omega arith)
slot_apart (v ∷ sc) j zero below l e = let apart : v.slot < j = below.0 in absurd (omega arith)
slot_apart (v ∷ sc) j (suc k) below l e = slot_apart sc j k below.1 l e

-- the slot of the variable after i others
shown-set : {hole : ℕ} {slots : List Value} {sc : Scope} {ws : List Variable} → length slots ≡ 16 → hole ≤ 16
    → (i : ℕ) (v : Value) → Shown hole slots sc ws
    → Shown hole (set slots (get_or (map placed_slot sc) i 16) v) sc (bound_at i v ws)
unfolding bound_at
shown-set width limit i v none-shown = none-shown
shown-set {hole} {slots} width limit zero v (one-shown {v = p} {w = w} {sc = sc} {ws = ws} n e g b u h) =
    one-shown n e (get_or-set_same slots p.slot v empty (omega arith)) b u (shown-other p.slot v u h)
shown-set {hole} {slots} width limit (suc i) v (one-shown {v = p} {w = w} {sc = sc} {ws = ws} n e g b u h) =
    let apart : get_or (map placed_slot sc) i 16 ≢ p.slot = slot_apart sc p.slot i u (omega arith) in
    one-shown n e
    (get_or-set_other slots (get_or (map placed_slot sc) i 16) p.slot v empty (λ q. apart (sym q)) ∙ g) b u
    (shown-set width limit i v h)

-- the slot that is never filled stays empty
hole-set : {hole : ℕ} {slots : List Value} {sc : Scope} {ws : List Variable} → length slots ≡ 16 → hole ≤ 16
    → (i : ℕ) (v : Value) → Shown hole slots sc ws
    → get_or (set slots (get_or (map placed_slot sc) i 16) v) hole empty ≡ get_or slots hole empty
hole-set {hole} {slots} width limit i v none-shown =
    ap (λ (ss : List Value). get_or ss hole empty) (set_out slots 16 v (omega arith))
hole-set {hole} {slots} width limit zero v (one-shown {v = p} n e g b u h) =
    get_or-set_other slots p.slot hole v empty (λ q. absurd (omega arith))
hole-set width limit (suc i) v (one-shown n e g b u h) = hole-set width limit i v h

-- a value stored
pub slots_set : {hole : ℕ} {slots : List Value} {sc : Scope} {ws : List Variable} → Slots hole slots sc ws
    → (i : ℕ) (v : Value) → Slots hole (set slots (get_or (map placed_slot sc) i 16) v) sc (bound_at i v ws)
slots_set {hole} {slots} {sc} {ws} s i v = record {
  width = length-set slots (get_or (map placed_slot sc) i 16) v ∙ s.width;
  limit = s.limit;
  hole-empty = hole-set s.width s.limit i v s.shown ∙ s.hole-empty;
  shown = shown-set s.width s.limit i v s.shown;
}

-- Declaring, and going out of scope

-- a variable declared
pub slots-declare : {hole : ℕ} {slots : List Value} {sc : Scope} {ws : List Variable} → Slots hole slots sc ws
    → (d : Declared) (j : ℕ) → Below j sc → j < hole
    → Slots hole (set slots j empty) (placed d j ∷ sc) (fresh d empty ∷ ws)
slots-declare {hole} {slots} {sc} {ws} s d j below inside =
    let width : length slots ≡ 16 = s.width in
    let limit : hole ≤ 16 = s.limit in
    record {
      width = length-set slots j empty ∙ s.width;
      limit = s.limit;
      hole-empty = get_or-set_other slots j hole empty empty (λ q. absurd (omega arith)) ∙ s.hole-empty;
      shown =
          one-shown refl refl (get_or-set_same slots j empty empty (omega arith)) inside below
          (shown-other j empty below s.shown);
    }

-- the last k variables out of scope
shown-drop : {hole : ℕ} {slots : List Value} {sc : Scope} {ws : List Variable} (k : ℕ) → Shown hole slots sc ws
    → Shown hole slots (drop k sc) (drop k ws)
shown-drop zero h = h
shown-drop (suc k) none-shown = none-shown
shown-drop (suc k) (one-shown n e g b u h) = shown-drop k h

-- the slots stay as they are
pub slots-drop : {hole : ℕ} {slots : List Value} {sc : Scope} {ws : List Variable} (k : ℕ) → Slots hole slots sc ws
    → Slots hole slots (drop k sc) (drop k ws)
slots-drop k s = record {
  width = s.width;
  limit = s.limit;
  hole-empty = s.hole-empty;
  shown = shown-drop k s.shown;
}

-- Giving away

-- an empty value stays one
pub without-empty : (ts : List Thing) → without ts empty ≡ empty
unfolding without
without-empty ts = both (any (λ t. lost_with t empty) ts)
  where
    both : (b : Bool) → cond b empty empty ≡ empty
    both true = refl
    both false = refl

-- a value by its index
get_d-without : (ts : List Thing) (slots : List Value) (i : ℕ)
    → get_or (map (without ts) slots) i empty ≡ without ts (get_or slots i empty)
get_d-without ts slots i =
    ap (λ (v : Value). get_or (map (without ts) slots) i v) (sym (without-empty ts))
    ∙ get_or-map (without ts) slots i empty

-- the variables lose what the slots lose
shown-without : {hole : ℕ} {slots : List Value} {sc : Scope} {ws : List Variable} (ts : List Thing)
    → Shown hole slots sc ws → Shown hole (map (without ts) slots) sc (map (variable_without ts) ws)
unfolding variable_without
shown-without ts none-shown = none-shown
shown-without {hole} {slots} ts (one-shown {v = p} n e g b u h) =
    one-shown n e (get_d-without ts slots p.slot ∙ ap (without ts) g) b u (shown-without ts h)

-- things given away
pub slots-without : {hole : ℕ} {slots : List Value} {sc : Scope} {ws : List Variable} (ts : List Thing)
    → Slots hole slots sc ws → Slots hole (map (without ts) slots) sc (map (variable_without ts) ws)
slots-without {hole} {slots} ts s = record {
  width = length-map slots (without ts) ∙ s.width;
  limit = s.limit;
  hole-empty = get_d-without ts slots hole ∙ ap (without ts) s.hole-empty ∙ without-empty ts;
  shown = shown-without ts s.shown;
}
