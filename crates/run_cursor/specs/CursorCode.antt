-- A step of a process, with the place and the number of pending values of its top frame in a cursor, apart from its
-- words. These definitions follow the code.
use Rattle.std.specs.Prelude.{ℕ, ◌≤◌, ◌≡◌, ◌⊎◌, List, get_or, length, Option, IfSome, MatchOption}
use Rattle.run_store.specs.declared.values.Val.{Val}
use Rattle.run_store.specs.declared.head.Head.{Head}
use Rattle.run_store.specs.StoreCode.{value_at, head_at, put_top, top_at}
use Rattle.run_values.specs.ValuesCode.{AfterStep, after_step}
use Rattle.run_values.specs.declared.steps.StepResult.TheVariants.{WentOn}
use Rattle.run_cursor.specs.declared.cursor.Cursor.{Cursor}

-- the head with the place and the number of pending values of the cursor, and the words with them put back
unfoldable pub head_with : Head → Cursor → Head
head_with h c = record {
  status = h.status;
  fault = h.fault;
  frames = h.frames;
  method = h.method;
  place = c.place;
  pending = c.pending;
}

unfoldable pub laid : List ℕ → Head → Cursor → List ℕ
laid w h c = put_top w (head_with h c)

abbrev pub cursor : ℕ → ℕ → Cursor
cursor i n = record { place = i; pending = n }

-- what holds of the words, the head and the cursor all the while
pub record HeadFits (h : Head) (w : List ℕ) (c : Cursor) : Type 0 where
  pub long : length w ≡ 512
  pub least : 1 ≤ h.frames
  pub most : h.frames ≤ 8
  pub few : c.pending ≤ 8
  pub status : get_or w 0 0 ≡ h.status
  pub fault : get_or w 1 0 ≡ h.fault
  pub frames : get_or w 2 0 ≡ h.frames
  pub method : get_or w (head_at h.frames) 0 ≡ h.method

-- what d says of the words with the cursor put back was done, and the cursor has come to a place of I
pub record CursorWent (d : AfterStep) (I : ℕ → Type 0) (h : Head) (w' : List ℕ) (r : Cursor) : Type 0 where
  pub done : d ≡ after_step WentOn (laid w' h r)
  pub onward : I r.place
  pub steady : HeadFits h w' r

-- that, or nothing was done
abbrev pub CursorStep : AfterStep → (ℕ → Type 0) → Head → List ℕ → List ℕ → Option Cursor → Type 0
CursorStep d I h w w' r = MatchOption r (w' ≡ w) (CursorWent d I h w')

-- one place, and one of two
abbrev pub Only : ℕ → ℕ → Type 0
Only i x = x ≡ i

abbrev pub OneOf : ℕ → ℕ → ℕ → Type 0
OneOf i j x = (x ≡ i) ⊎ (x ≡ j)

-- the top value was read, and is not emptied; likewise the numbers of the two topmost
abbrev pub TopRead : List ℕ → Head → Cursor → Option Val → Type 0
TopRead w h c r =
    IfSome r (λ v. (1 ≤ c.pending) × (v.tag ≡ 0 → ⊥) × (value_at w (top_at (head_with h c) 1) ≡ v))

abbrev pub TwoRead : List ℕ → Head → Cursor → Option (ℕ × ℕ) → Type 0
TwoRead w h c r =
    IfSome r (λ t. (2 ≤ c.pending) × ((value_at w (top_at (head_with h c) 2)).tag ≡ 0 → ⊥)
    × ((value_at w (top_at (head_with h c) 1)).tag ≡ 0 → ⊥)
    × ((value_at w (top_at (head_with h c) 2)).number ≡ t.0) × ((value_at w (top_at (head_with h c) 1)).number ≡ t.1))
