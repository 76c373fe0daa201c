-- A running process's words as three stretches: its count of frames, the heads, and the values, each padded. Zeros at
-- the end of a stretch belong to its padding, so a frame may be opened or closed there without a word being moved.
use Prim.Native.Nat.{ℕ, suc, ◌+◌, ◌-◌, ◌≤◌, ◌<◌}
use mathlib.Core.Path.{◌≡◌, refl, sym, ◌∙◌, ap, ap₂, subst}
use mathlib.Core.List.{List, [], ◌∷◌, ◌++◌, append_assoc}
use native.Mathlib.Omega.{arith}
use lib.ListN.{get_or, set, length, replicate, length-append, length-set, length-replicate, replicate-append-replicate, get_or-append}
use lib.Seq.{set-append_left}
use Rattle.machine.specs.State.{Frame}
use Rattle.machine.specs.Entry.{runs}
use Rattle.machine.specs.Value.{Value}
use Rattle.layout.specs.Layout.{padded, head_words, frame_values, process_words}
use Rattle.layout.proofs.Groups.{padded-length}
use Rattle.layout.proofs.Padded.{set_after, get_after, padded-get, padded-set}
use Rattle.layout.proofs.Frames.{tag_of, number_of, write}
use Rattle.layout.proofs.Process.{heads_below, values_below, process-part, part}

unfoldable pub whole : ℕ → List ℕ → List ℕ → List ℕ
whole n heads values = padded 8 (1 ∷ 0 ∷ n ∷ []) ++ padded 56 heads ++ padded 448 values

pub process-whole : (f : Frame) (fs : List Frame)
    → process_words (runs (f ∷ fs)) ≡ whole (suc (length fs)) (heads_below fs ++ head_words f)
    (values_below fs ++ frame_values f)
unfolding whole part
process-whole f fs = process-part f fs

-- zeros and padding

pub padded-zeros : (n : ℕ) (ws : List ℕ) (m : ℕ) → length ws + m ≤ n → padded n (ws ++ replicate m 0) ≡ padded n ws
unfolding padded
padded-zeros n ws m h =
    append_assoc ws (replicate m 0) (replicate (n - length (ws ++ replicate m 0)) 0)
    ∙ ap (λ (l : List ℕ). ws ++ l)
    (ap (λ (k : ℕ). replicate m 0 ++ replicate (n - k) 0)
    (length-append ws (replicate m 0) ∙ ap (λ (k : ℕ). length ws + k) (length-replicate m 0))
    ∙ replicate-append-replicate m (n - (length ws + m)) 0
    ∙ ap (λ (k : ℕ). replicate {A = ℕ} k 0) total)
  where
    total : m + (n - (length ws + m)) ≡ n - length ws
    total = omega arith

pub whole-zeros : (n : ℕ) (heads values : List ℕ) (i j : ℕ) → length heads + i ≤ 56 → length values + j ≤ 448
    → whole n (heads ++ replicate i 0) (values ++ replicate j 0) ≡ whole n heads values
unfolding whole
whole-zeros n heads values i j h k =
    ap₂ (λ (a b : List ℕ). padded 8 (1 ∷ 0 ∷ n ∷ []) ++ a ++ b) (padded-zeros 56 heads i h)
    (padded-zeros 448 values j k)

-- reads and writes

module _ (n : ℕ) (heads values : List ℕ) (hs : length heads ≤ 56) (vs : length values ≤ 448) where
  state-long : length (padded 8 (1 ∷ 0 ∷ n ∷ [])) ≡ 8
  state-long = padded-length 8 (1 ∷ 0 ∷ n ∷ []) (omega arith)

  front_long : length (padded 8 (1 ∷ 0 ∷ n ∷ []) ++ padded 56 heads) ≡ 64
  front_long =
      length-append (padded 8 (1 ∷ 0 ∷ n ∷ [])) (padded 56 heads) ∙ ap₂ ◌+◌ state-long (padded-length 56 heads hs)

  pub whole-count : (m : ℕ) → set (whole n heads values) 2 m ≡ whole m heads values
  unfolding whole padded
  whole-count m = refl

  pub whole-head : (i j x : ℕ) → j < length heads → i ≡ 8 + j
      → set (whole n heads values) i x ≡ whole n (set heads j x) values
  unfolding whole
  whole-head i j x h e =
      set-append_left (padded 8 (1 ∷ 0 ∷ n ∷ []) ++ padded 56 heads) (padded 448 values) i x (omega (arith, front_long))
      ∙ ap (λ (l : List ℕ). l ++ padded 448 values)
      (ap (λ (k : ℕ). set (padded 8 (1 ∷ 0 ∷ n ∷ []) ++ padded 56 heads) k x) e
      ∙ set_after (padded 8 (1 ∷ 0 ∷ n ∷ [])) (padded 56 heads) 8 j x state-long
      ∙ ap (λ (l : List ℕ). padded 8 (1 ∷ 0 ∷ n ∷ []) ++ l) (padded-set 56 heads j x h))

  pub whole-value : (i j x : ℕ) → j < length values → i ≡ 64 + j
      → set (whole n heads values) i x ≡ whole n heads (set values j x)
  unfolding whole
  whole-value i j x h e =
      ap (λ (k : ℕ). set (padded 8 (1 ∷ 0 ∷ n ∷ []) ++ padded 56 heads ++ padded 448 values) k x) e
      ∙ set_after (padded 8 (1 ∷ 0 ∷ n ∷ []) ++ padded 56 heads) (padded 448 values) 64 j x front_long
      ∙ ap (λ (l : List ℕ). padded 8 (1 ∷ 0 ∷ n ∷ []) ++ padded 56 heads ++ l) (padded-set 448 values j x h)

  pub whole-get : (i j : ℕ) → j < length values → i ≡ 64 + j → get_or (whole n heads values) i 0 ≡ get_or values j 0
  unfolding whole
  whole-get i j h e =
      ap (λ (k : ℕ). get_or (padded 8 (1 ∷ 0 ∷ n ∷ []) ++ padded 56 heads ++ padded 448 values) k 0) e
      ∙ get_after (padded 8 (1 ∷ 0 ∷ n ∷ []) ++ padded 56 heads) (padded 448 values) 64 j front_long
      ∙ padded-get 448 values j h

  pub whole-head-get : (i j : ℕ) → j < length heads → i ≡ 8 + j → get_or (whole n heads values) i 0 ≡ get_or heads j 0
  unfolding whole
  whole-head-get i j h e =
      get_or-append (padded 8 (1 ∷ 0 ∷ n ∷ []) ++ padded 56 heads) (padded 448 values) 0 i
      (omega (arith, front_long))
      ∙ ap (λ (k : ℕ). get_or (padded 8 (1 ∷ 0 ∷ n ∷ []) ++ padded 56 heads) k 0) e
      ∙ get_after (padded 8 (1 ∷ 0 ∷ n ∷ [])) (padded 56 heads) 8 j state-long
      ∙ padded-get 56 heads j h

-- a value written among the values
pub whole-write : (n : ℕ) (heads values : List ℕ) (i j : ℕ) (v : Value) → length heads ≤ 56 → length values ≤ 448
    → j + 1 < length values
    → i ≡ 64 + j → write (whole n heads values) i v ≡ whole n heads (write values j v)
unfolding write
whole-write n heads values i j v hs vs h e =
    ap (λ (l : List ℕ). set l (i + 1) (number_of v)) (whole-value n heads values hs vs i j (tag_of v) (omega arith) e)
    ∙ whole-value n heads (set values j (tag_of v)) hs
    (subst (λ (k : ℕ). k ≤ 448) (sym (length-set values j (tag_of v))) vs)
    (i + 1) (j + 1) (number_of v) (subst (λ (k : ℕ). j + 1 < k) (sym (length-set values j (tag_of v))) h)
    (omega (arith, e))

-- the last stretch of the heads, and of the values

-- the words of the heads and the values, the last group of each apart
abbrev pub ended_by : ℕ → List ℕ → List ℕ → List ℕ → List ℕ → List ℕ
ended_by n heads head values vs = whole n (heads ++ head) (values ++ vs)

pub last-head-set : (n : ℕ) (heads head values : List ℕ) (i j x : ℕ) → length (heads ++ head) ≤ 56 → length values ≤ 448
    → j < length head
    → i ≡ 8 + (length heads + j) → set (whole n (heads ++ head) values) i x ≡ whole n (heads ++ set head j x) values
last-head-set n heads head values i j x hs vs h e =
    whole-head n (heads ++ head) values hs vs i (length heads + j) x (omega (arith, length-append heads head)) e
    ∙ ap (λ (l : List ℕ). whole n l values) (set_after heads head (length heads) j x refl)

pub last-value-set : (n : ℕ) (heads values vs : List ℕ) (i j x : ℕ) → length heads ≤ 56 → length (values ++ vs) ≤ 448
    → j < length vs
    → i ≡ 64 + (length values + j) → set (whole n heads (values ++ vs)) i x ≡ whole n heads (values ++ set vs j x)
last-value-set n heads values vs i j x hs vl h e =
    whole-value n heads (values ++ vs) hs vl i (length values + j) x (omega (arith, length-append values vs)) e
    ∙ ap (whole n heads) (set_after values vs (length values) j x refl)

-- a write, and a read, in the middle of three stretches

pub mid-set : (xs ys zs : List ℕ) (n j x : ℕ) → length xs ≡ n → j < length ys
    → set ((xs ++ ys) ++ zs) (n + j) x ≡ (xs ++ set ys j x) ++ zs
mid-set xs ys zs n j x e h =
    set-append_left (xs ++ ys) zs (n + j) x (omega (arith, length-append xs ys, e))
    ∙ ap (λ (l : List ℕ). l ++ zs) (set_after xs ys n j x e)

pub mid-get : (xs ys zs : List ℕ) (n j : ℕ) → length xs ≡ n → j < length ys
    → get_or ((xs ++ ys) ++ zs) (n + j) 0 ≡ get_or ys j 0
mid-get xs ys zs n j e h =
    get_or-append (xs ++ ys) zs 0 (n + j) (omega (arith, length-append xs ys, e)) ∙ get_after xs ys n j e
