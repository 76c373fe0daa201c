-- Declared variables entered into two tables: the variables in scope, and the types of a method's slots.
use Rattle.std.specs.Prelude.{ℕ, suc, ◌+◌, ◌≤◌, ◌<◌, ◌≡◌, Bool, true, false, List, [], ◌∷◌, length, set}
use Rattle.text.specs.Tree.{Declared}
use Rattle.text.specs.Translation.{Scope, opened, code_of_type}
use Rattle.text_slots.specs.Placing.{Placing}

-- The tables as they stand: n variables are in scope, and so many slots of the method are given out. The row is the
-- method's, "return type, parameter count P, 16 slot types".
pub record Tables : Type 0 where
  pub scope : List ℕ
  pub n : ℕ
  pub row : List ℕ
  pub used : ℕ

abbrev pub tables : List ℕ → ℕ → List ℕ → ℕ → Tables
tables scope n row used = record { scope = scope; n = n; row = row; used = used }

-- each variable in scope has a slot of its own, there are 16, and the table of variables has an entry of four words for
-- each
pub record Fits (σ : Tables) : Type 0 where
  pub slots : σ.n ≤ σ.used
  pub room : σ.used ≤ 16
  pub long : length σ.scope ≡ 64

-- the row with the types of these variables, from slot i on
unfoldable pub typed : ℕ → List Declared → List ℕ → List ℕ
typed i [] row = row
typed i (d ∷ ds) row = typed (suc i) ds (set row (2 + i) (code_of_type d))

-- These variables are entered, and nothing else.
pub record Entered (text : List ℕ) (ds : List Declared) (σ τ : Tables) : Type 0 where
  pub count : τ.n ≡ σ.n + length ds
  pub given : τ.used ≡ σ.used + length ds
  pub fits : Fits τ
  pub types : τ.row ≡ typed σ.used ds σ.row
  pub kept : (m : ℕ) (sc : Scope) → m ≤ σ.n → Placing text σ.scope m sc → Placing text τ.scope m sc
  pub places : (sc : Scope) → Placing text σ.scope σ.n sc
      → Placing text τ.scope τ.n (opened ds σ.used sc)

-- They are, or they are too many for 16 slots.
pub data Entering (text : List ℕ) (ds : List Declared) (σ : Tables) (ok : Bool) (τ : Tables) : Type 0 where
  all-entered : ok ≡ true → Entered text ds σ τ → Entering text ds σ ok τ
  too_many : ok ≡ false → 16 < σ.used + length ds → Entering text ds σ ok τ
