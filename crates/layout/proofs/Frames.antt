-- The words of a frame under reads and writes of one value: a slot, the top pending value, the one below it, the next
-- free place.
use Prim.Native.Nat.{ℕ, zero, suc, ◌+◌, ◌*◌, ◌-◌, ◌≤◌, ◌<◌}
use mathlib.Core.Path.{◌≡◌, refl, sym, ◌∙◌, ap, ap₂, subst}
use mathlib.Core.List.{List, [], ◌∷◌, ◌++◌, map, reverse, flatten, append_assoc, append-nil, reverse-cons}
use native.Mathlib.Nat.{le_of_suc-le-suc, not-suc-le-zero, add_assoc}
use native.Mathlib.Omega.{arith}
use lib.ListN.{get_or, set, length, length-append, length-reverse, length-set, get_or-append}
use lib.Seq.{set_comm, set-append_left, set-append_seam, get_or-append_seam}
use Rattle.machine.specs.Value.{Value, empty}
use Rattle.machine.specs.State.{Frame, with_slot, with_pending, push}
use Rattle.layout.specs.Layout.{padded, value_words, frame_values}
use Rattle.layout.proofs.Groups.{padded-length}
use Rattle.layout.proofs.Padded.{set_after, get_after, padded-get, padded-set, padded-next, padded-last}
use Rattle.layout.proofs.RoundTrip.{value-length, values-size}

-- a value's two words

unfoldable pub tag_of : Value → ℕ
tag_of v = get_or (value_words v) 0 0

unfoldable pub number_of : Value → ℕ
number_of v = get_or (value_words v) 1 0

pub value-words : (v : Value) → value_words v ≡ tag_of v ∷ number_of v ∷ []
unfolding tag_of number_of
value-words v = two (value_words v) (value-length v)
  where
    two : (ws : List ℕ) → length ws ≡ 2 → ws ≡ get_or ws 0 0 ∷ get_or ws 1 0 ∷ []
    two [] e = absurd (omega arith)
    two (a ∷ []) e = absurd (omega arith)
    two (a ∷ b ∷ []) e = refl
    two (a ∷ b ∷ d ∷ ws) e = absurd (omega arith)

-- a value written over two words
unfoldable pub write : List ℕ → ℕ → Value → List ℕ
write ws i v = set (set ws i (tag_of v)) (i + 1) (number_of v)

-- lists of values

-- the words of values, one after the other
unfoldable pub run_of : List Value → List ℕ
run_of vs = flatten (map value_words vs)

pub run_length : (vs : List Value) → length (run_of vs) ≡ 2 * length vs
unfolding run_of
run_length vs = values-size vs ∙ omega arith

-- a value of a run, read and written
pub run-get : (vs : List Value) (s j : ℕ) → s < length vs → j < 2
    → get_or (run_of vs) (2 * s + j) 0 ≡ get_or (value_words (get_or vs s empty)) j 0
unfolding run_of flatten
run-get [] s j h k = absurd (not-suc-le-zero h)
run-get (v ∷ vs) zero j h k =
    ap (λ (i : ℕ). get_or (value_words v ++ run_of vs) i 0) start
    ∙ get_or-append (value_words v) (run_of vs) 0 j (subst (λ (n : ℕ). j < n) (sym (value-length v)) k)
  where
    start : 2 * 0 + j ≡ j
    start = omega arith
run-get (v ∷ vs) (suc s) j h k =
    ap (λ (i : ℕ). get_or (value_words v ++ run_of vs) i 0) further
    ∙ get_after (value_words v) (run_of vs) 2 (2 * s + j) (value-length v)
    ∙ run-get vs s j (le_of_suc-le-suc h) k
  where
    further : 2 * suc s + j ≡ 2 + (2 * s + j)
    further = omega arith

-- a write after a prefix of n words
write-after : (xs ys : List ℕ) (n i : ℕ) (v : Value) → length xs ≡ n → write (xs ++ ys) (n + i) v ≡ xs ++ write ys i v
unfolding write
write-after xs ys n i v e =
    ap₂ (λ (l : List ℕ) (k : ℕ). set l k (number_of v)) (set_after xs ys n i (tag_of v) e) (add_assoc n i 1)
    ∙ set_after xs (set ys i (tag_of v)) n (i + 1) (number_of v) e

pub run-set : (vs : List Value) (s : ℕ) (v : Value) → s < length vs → write (run_of vs) (2 * s) v ≡ run_of (set vs s v)
unfolding run_of flatten write
run-set [] s v h = absurd (not-suc-le-zero h)
run-set (u ∷ vs) zero v h =
    ap (λ (ws : List ℕ). write (ws ++ run_of vs) 0 v) (value-words u)
    ∙ first
    ∙ ap (λ (ws : List ℕ). ws ++ run_of vs) (sym (value-words v))
  where
    first : write ((tag_of u ∷ number_of u ∷ []) ++ run_of vs) 0 v ≡ (tag_of v ∷ number_of v ∷ []) ++ run_of vs
    first = refl
run-set (u ∷ vs) (suc s) v h =
    ap (λ (i : ℕ). write (value_words u ++ run_of vs) i v) further
    ∙ write-after (value_words u) (run_of vs) 2 (2 * s) v (value-length u)
    ∙ ap (λ (ws : List ℕ). value_words u ++ ws) (run-set vs s v (le_of_suc-le-suc h))
  where
    further : 2 * suc s ≡ 2 + 2 * s
    further = omega arith

pub run-append : (xs ys : List Value) → run_of (xs ++ ys) ≡ run_of xs ++ run_of ys
unfolding run_of flatten
run-append [] ys = refl
run-append (x ∷ xs) ys =
    ap (λ (ws : List ℕ). value_words x ++ ws) (run-append xs ys)
    ∙ sym (append_assoc (value_words x) (run_of xs) (run_of ys))

run-one : (v : Value) → run_of (v ∷ []) ≡ value_words v
unfolding run_of flatten
run-one v = append-nil (value_words v)

-- lists in reverse

pub get_d_reverse : (vs : List Value) (d : ℕ) → d < length vs
    → get_or (reverse vs) (length vs - suc d) empty ≡ get_or vs d empty
get_d_reverse [] d h = absurd (not-suc-le-zero h)
get_d_reverse (v ∷ vs) zero h =
    ap₂ (λ (l : List Value) (i : ℕ). get_or l i empty) (reverse-cons v vs) last ∙ get_or-append_seam (reverse vs) v [] empty
  where
    last : suc (length vs) - 1 ≡ length (reverse vs)
    last = omega (arith, length-reverse vs)
get_d_reverse (v ∷ vs) (suc d) h =
    ap₂ (λ (l : List Value) (i : ℕ). get_or l i empty) (reverse-cons v vs) same
    ∙ get_or-append (reverse vs) (v ∷ []) empty (length vs - suc d) inside
    ∙ get_d_reverse vs d (le_of_suc-le-suc h)
  where
    same : suc (length vs) - suc (suc d) ≡ length vs - suc d
    same = omega arith

    inside : length vs - suc d < length (reverse vs)
    inside = omega (arith, length-reverse vs, h)

set-reverse : (vs : List Value) (d : ℕ) (v : Value) → d < length vs
    → set (reverse vs) (length vs - suc d) v ≡ reverse (set vs d v)
set-reverse [] d v h = absurd (not-suc-le-zero h)
set-reverse (u ∷ vs) zero v h =
    ap₂ (λ (l : List Value) (i : ℕ). set l i v) (reverse-cons u vs) last
    ∙ set-append_seam (reverse vs) u [] v
    ∙ sym (reverse-cons v vs)
  where
    last : suc (length vs) - 1 ≡ length (reverse vs)
    last = omega (arith, length-reverse vs)
set-reverse (u ∷ vs) (suc d) v h =
    ap₂ (λ (l : List Value) (i : ℕ). set l i v) (reverse-cons u vs) same
    ∙ set-append_left (reverse vs) (u ∷ []) (length vs - suc d) v inside
    ∙ ap (λ (l : List Value). l ++ (u ∷ [])) (set-reverse vs d v (le_of_suc-le-suc h))
    ∙ sym (reverse-cons u (set vs d v))
  where
    same : suc (length vs) - suc (suc d) ≡ length vs - suc d
    same = omega arith

    inside : length vs - suc d < length (reverse vs)
    inside = omega (arith, length-reverse vs, h)

-- pending values

-- the words of the pending values of a frame, the lowest first
unfoldable pub pending-run : List Value → List ℕ
pending-run vs = run_of (reverse vs)

pub pending-length : (vs : List Value) → length (pending-run vs) ≡ 2 * length vs
unfolding pending-run
pending-length vs = run_length (reverse vs) ∙ ap (λ (n : ℕ). 2 * n) (length-reverse vs)

pending-cons : (v : Value) (vs : List Value) → pending-run (v ∷ vs) ≡ pending-run vs ++ value_words v
unfolding pending-run
pending-cons v vs =
    ap run_of (reverse-cons v vs)
    ∙ run-append (reverse vs) (v ∷ [])
    ∙ ap (λ (ws : List ℕ). run_of (reverse vs) ++ ws) (run-one v)

-- the value at depth d, read and written
pub pending-get : (vs : List Value) (d j i : ℕ) → d < length vs → j < 2 → i ≡ 2 * (length vs - suc d) + j
    → get_or (padded 16 (pending-run vs)) i 0 ≡ get_or (value_words (get_or vs d empty)) j 0
unfolding pending-run
pending-get vs d j i h k e =
    ap (λ (n : ℕ). get_or (padded 16 (run_of (reverse vs))) n 0) e
    ∙ padded-get 16 (run_of (reverse vs)) (2 * (length vs - suc d) + j) within
    ∙ run-get (reverse vs) (length vs - suc d) j inside k
    ∙ ap (λ (v : Value). get_or (value_words v) j 0) (get_d_reverse vs d h)
  where
    inside : length vs - suc d < length (reverse vs)
    inside = omega (arith, length-reverse vs, h)

    within : 2 * (length vs - suc d) + j < length (run_of (reverse vs))
    within = omega (arith, run_length (reverse vs), length-reverse vs, h, k)

-- a write within a padded list
write-padded : (n : ℕ) (ws : List ℕ) (i : ℕ) (v : Value) → i + 1 < length ws
    → write (padded n ws) i v ≡ padded n (write ws i v)
unfolding write
write-padded n ws i v h =
    ap (λ (l : List ℕ). set l (i + 1) (number_of v)) (padded-set n ws i (tag_of v) (omega arith))
    ∙ padded-set n (set ws i (tag_of v)) (i + 1) (number_of v)
    (subst (λ (k : ℕ). i + 1 < k) (sym (length-set ws i (tag_of v))) h)

pub pending-set : (vs : List Value) (d i : ℕ) (v : Value) → d < length vs → i ≡ 2 * (length vs - suc d)
    → write (padded 16 (pending-run vs)) i v ≡ padded 16 (pending-run (set vs d v))
unfolding pending-run
pending-set vs d i v h e =
    ap (λ (n : ℕ). write (padded 16 (run_of (reverse vs))) n v) e
    ∙ write-padded 16 (run_of (reverse vs)) (2 * (length vs - suc d)) v within
    ∙ ap (padded 16) (run-set (reverse vs) (length vs - suc d) v inside ∙ ap run_of (set-reverse vs d v h))
  where
    inside : length vs - suc d < length (reverse vs)
    inside = omega (arith, length-reverse vs, h)

    within : 2 * (length vs - suc d) + 1 < length (run_of (reverse vs))
    within = omega (arith, run_length (reverse vs), length-reverse vs, h)

-- one more value
pub pending-push : (vs : List Value) (i : ℕ) (v : Value) → length vs < 8 → i ≡ 2 * length vs
    → write (padded 16 (pending-run vs)) i v ≡ padded 16 (pending-run (v ∷ vs))
unfolding write
pending-push vs i v h e =
    ap (λ (l : List ℕ). set l (i + 1) (number_of v))
    (padded-next 16 (pending-run vs) i (tag_of v) (e ∙ sym (pending-length vs)) (omega arith))
    ∙ padded-next 16 (pending-run vs ++ (tag_of v ∷ [])) (i + 1) (number_of v) longer (omega arith)
    ∙ ap (padded 16)
    (append_assoc (pending-run vs) (tag_of v ∷ []) (number_of v ∷ [])
    ∙ ap (λ (ws : List ℕ). pending-run vs ++ ws) (sym (value-words v))
    ∙ sym (pending-cons v vs))
  where
    longer : i + 1 ≡ length (pending-run vs ++ (tag_of v ∷ []))
    longer = omega (arith, length-append (pending-run vs) (tag_of v ∷ []), pending-length vs, e)

-- one value fewer
pub pending-pop : (v : Value) (vs : List Value) (i : ℕ) → length vs < 8 → i ≡ 2 * length vs
    → write (padded 16 (pending-run (v ∷ vs))) i empty ≡ padded 16 (pending-run vs)
unfolding write tag_of number_of value_words
pending-pop v vs i h e =
    set_comm (padded 16 (pending-run (v ∷ vs))) i (i + 1) 0 0 (omega arith)
    ∙ ap (λ (l : List ℕ). set l i 0)
    (ap (λ (ws : List ℕ). set (padded 16 ws) (i + 1) 0)
    (pending-cons v vs ∙ ap (λ (ws : List ℕ). pending-run vs ++ ws) (value-words v)
    ∙ sym (append_assoc (pending-run vs) (tag_of v ∷ []) (number_of v ∷ [])))
    ∙ padded-last 16 (pending-run vs ++ (tag_of v ∷ [])) (number_of v) (i + 1) longer (omega arith))
    ∙ padded-last 16 (pending-run vs) (tag_of v) i (e ∙ sym (pending-length vs)) (omega arith)
  where
    longer : i + 1 ≡ length (pending-run vs ++ (tag_of v ∷ []))
    longer = omega (arith, length-append (pending-run vs) (tag_of v ∷ []), pending-length vs, e)

-- frames

write-left : (xs ys : List ℕ) (i : ℕ) (v : Value) → i + 1 < length xs → write (xs ++ ys) i v ≡ write xs i v ++ ys
unfolding write
write-left xs ys i v h =
    ap (λ (l : List ℕ). set l (i + 1) (number_of v)) (set-append_left xs ys i (tag_of v) (omega arith))
    ∙ set-append_left (set xs i (tag_of v)) ys (i + 1) (number_of v)
    (subst (λ (k : ℕ). i + 1 < k) (sym (length-set xs i (tag_of v))) h)

-- the two stretches of a frame's words
pub frame-parts : (f : Frame) → frame_values f ≡ padded 32 (run_of f.slots) ++ padded 16 (pending-run f.pending)
unfolding frame_values run_of pending-run
frame-parts f = refl

module _ (f : Frame) (wide : length f.slots ≡ 16) where
  slots_length : length (run_of f.slots) ≡ 32
  slots_length = run_length f.slots ∙ omega (arith, wide)

  slots-padded : length (padded 32 (run_of f.slots)) ≡ 32
  slots-padded = padded-length 32 (run_of f.slots) (omega (arith, slots_length))

  pub frame-slot-get : (s j i : ℕ) → s < 16 → j < 2 → i ≡ 2 * s + j
      → get_or (frame_values f) i 0 ≡ get_or (value_words (get_or f.slots s empty)) j 0
  frame-slot-get s j i h k e =
      ap₂ (λ (l : List ℕ) (n : ℕ). get_or l n 0) (frame-parts f) e
      ∙ get_or-append (padded 32 (run_of f.slots)) (padded 16 (pending-run f.pending)) 0 (2 * s + j)
      (omega (arith, slots-padded))
      ∙ padded-get 32 (run_of f.slots) (2 * s + j) (omega (arith, slots_length))
      ∙ run-get f.slots s j (subst (λ (n : ℕ). s < n) (sym wide) h) k

  pub frame-slot-set : (s i : ℕ) (v : Value) → s < 16 → i ≡ 2 * s
      → write (frame_values f) i v ≡ frame_values (with_slot s v f)
  frame-slot-set s i v h e =
      ap₂ (λ (l : List ℕ) (n : ℕ). write l n v) (frame-parts f) e
      ∙ write-left (padded 32 (run_of f.slots)) (padded 16 (pending-run f.pending)) (2 * s) v
      (omega (arith, slots-padded))
      ∙ ap (λ (l : List ℕ). l ++ padded 16 (pending-run f.pending))
      (write-padded 32 (run_of f.slots) (2 * s) v (omega (arith, slots_length))
      ∙ ap (padded 32) (run-set f.slots s v (subst (λ (n : ℕ). s < n) (sym wide) h)))
      ∙ sym (frame-parts (with_slot s v f))

  pub frame-pending-get : (d j i : ℕ) → d < length f.pending → j < 2
      → i ≡ 32 + (2 * (length f.pending - suc d) + j)
      → get_or (frame_values f) i 0 ≡ get_or (value_words (get_or f.pending d empty)) j 0
  frame-pending-get d j i h k e =
      ap₂ (λ (l : List ℕ) (n : ℕ). get_or l n 0) (frame-parts f) e
      ∙ get_after (padded 32 (run_of f.slots)) (padded 16 (pending-run f.pending)) 32
      (2 * (length f.pending - suc d) + j) slots-padded
      ∙ pending-get f.pending d j (2 * (length f.pending - suc d) + j) h k refl

  -- a write among the pending values, by what it makes of them
  frame-pending : (i j : ℕ) (v : Value) (vs : List Value) → i ≡ 32 + j
      → write (padded 16 (pending-run f.pending)) j v ≡ padded 16 (pending-run vs)
      → write (frame_values f) i v ≡ frame_values (with_pending vs f)
  frame-pending i j v vs e h =
      ap₂ (λ (l : List ℕ) (n : ℕ). write l n v) (frame-parts f) e
      ∙ write-after (padded 32 (run_of f.slots)) (padded 16 (pending-run f.pending)) 32 j v slots-padded
      ∙ ap (λ (l : List ℕ). padded 32 (run_of f.slots) ++ l) h
      ∙ sym (frame-parts (with_pending vs f))

  pub frame-pending-set : (d i : ℕ) (v : Value) → d < length f.pending → i ≡ 32 + 2 * (length f.pending - suc d)
      → write (frame_values f) i v ≡ frame_values (with_pending (set f.pending d v) f)
  frame-pending-set d i v h e =
      frame-pending i (2 * (length f.pending - suc d)) v (set f.pending d v) e
      (pending-set f.pending d (2 * (length f.pending - suc d)) v h refl)

  pub frame-push : (i : ℕ) (v : Value) → length f.pending < 8 → i ≡ 32 + 2 * length f.pending
      → write (frame_values f) i v ≡ frame_values (push v f)
  frame-push i v h e =
      frame-pending i (2 * length f.pending) v (v ∷ f.pending) e
      (pending-push f.pending (2 * length f.pending) v h refl)

  pub frame-pop : (i : ℕ) (v : Value) (vs : List Value) → f.pending ≡ v ∷ vs → length vs < 8 → i ≡ 32 + 2 * length vs
      → write (frame_values f) i empty ≡ frame_values (with_pending vs f)
  frame-pop i v vs p h e =
      frame-pending i (2 * length vs) empty vs e
      (ap (λ (l : List Value). write (padded 16 (pending-run l)) (2 * length vs) empty) p
      ∙ pending-pop v vs (2 * length vs) h refl)

-- the words of a frame are 48
pub frame-size : (f : Frame) → length f.slots ≡ 16 → length f.pending ≤ 8 → length (frame_values f) ≡ 48
frame-size f wide high =
    ap length (frame-parts f)
    ∙ length-append (padded 32 (run_of f.slots)) (padded 16 (pending-run f.pending))
    ∙ ap₂ ◌+◌ (slots-padded f wide)
    (padded-length 16 (pending-run f.pending) (omega (arith, pending-length f.pending, high)))
