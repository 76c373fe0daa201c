-- What a giving leaves in one process's part is the words of the process that the definitions leave.
use Prim.Native.Nat.{ℕ, zero, suc, ◌+◌, ◌*◌, ◌-◌, ◌%◌, ◌≤◌, ◌<◌}
use mathlib.Core.Path.{◌≡◌, refl, sym, ◌∙◌, ap, ap₂}
use mathlib.Core.Bool.{Bool, true, false, cond, ◌||◌}
use mathlib.Core.List.{List, [], ◌∷◌, ◌++◌, map, flatten}
use native.Mathlib.Nat.{mod-eq_of_lt, le_of_suc-le-suc, not-suc-le-zero}
use native.Mathlib.Omega.{arith}
use lib.ListN.{get_or, set, take, drop, length, replicate, length-append, length-replicate, length-drop, replicate-append-replicate, get_or-append}
use lib.Seq.{take_at, drop-cons, append_snoc, set-append_seam, get_or-take}
use Rattle.lists.specs.Lists.{any, All}
use Rattle.lists.proofs.Any.{All-drop, All-implies}
use Rattle.table.specs.Table.{offset_of}
use Rattle.table.proofs.Accepted.{Kept}
use Rattle.machine.specs.Value.{Thing, qubit, channel, end, Value, empty, int, bool, ref}
use Rattle.machine.specs.State.{Frame, State, Config, at_place, with_pending, started}
use Rattle.machine.specs.Act.{passed_by}
use Rattle.machine.specs.Entry.{lost_with, without, frame_without, frames_without, things_of, runs}
use Rattle.machine.specs.Sound.{FrameSound}
use Rattle.machine.proofs.Reachable.{Stack, stacked, AtWork}
use Rattle.layout.specs.Layout.{padded, value_words, head_words, frame_values, status_words, process_words}
use Rattle.layout.proofs.Frames.{tag_of}
use Rattle.run_store.specs.declared.head.Head.{Head}
use Rattle.run_store.specs.StoreCode.{value_at, put_value, head_at, head_of, put_top, slot_at, moved_to, stepped, started_head, put_status, emptied_by}
use Rattle.run_store.proofs.Vals.{val_of}
use Rattle.run_store.proofs.Given.{Sized, given-words}
use Rattle.run_values.specs.ValuesCode.{on_top, drop_to}
use Rattle.run_values.proofs.Places.{head_in, head-is, place-small, slot_read, slot-put, drop-to-words, top-words, move-words}
use Rattle.run_gates.specs.GatesCode.{drop_two}
use Rattle.run_gates.proofs.Answers.{dropped-two}
use Rattle.run_giving.specs.GivingCode.{thing_given, given_words, sent_words, received_words, started_words, began_words, popped_once, popped_by, stayed, arguments_popped}

-- giving nothing, and giving one thing after others

map_same : {A : Type 0} (g : A → A) → ((x : A) → g x ≡ x) → (xs : List A) → map g xs ≡ xs
map_same g e [] = refl
map_same {A} g e (x ∷ xs) = ap₂ {C = List A} (λ y l. y ∷ l) (e x) (map_same g e xs)

map-twice : {A : Type 0} (g h k : A → A) → ((x : A) → k x ≡ h (g x)) → (xs : List A) → map k xs ≡ map h (map g xs)
map-twice g h k e [] = refl
map-twice {A} g h k e (x ∷ xs) = ap₂ {C = List A} (λ y l. y ∷ l) (e x) (map-twice g h k e xs)

without-none : (v : Value) → without [] v ≡ v
unfolding without
without-none v = refl

frame-without-none : (f : Frame) → frame_without [] f ≡ f
unfolding frame_without
frame-without-none f = λ i. record {
  method = f.method;
  place = f.place;
  slots = map_same (without []) without-none f.slots i;
  pending = map_same (without []) without-none f.pending i;
}

pub frames-without-none : (fs : List Frame) → frames_without [] fs ≡ fs
unfolding frames_without
frames-without-none fs = map_same (frame_without []) frame-without-none fs

any-more : {A : Type 0} (g : A → Bool) (xs ys : List A) → any g (xs ++ ys) ≡ (any g xs || any g ys)
any-more g [] ys = refl
any-more g (x ∷ xs) ys = ap (λ (b : Bool). g x || b) (any-more g xs ys) ∙ sym (or_assoc (g x) (any g xs) (any g ys))
  where
    or_assoc : (a b c : Bool) → ((a || b) || c) ≡ (a || (b || c))
    or_assoc true b c = refl
    or_assoc false b c = refl

-- an emptied value is lost with nothing
none-lost : (ts : List Thing) → any (λ t. lost_with t empty) ts ≡ false
unfolding lost_with
none-lost [] = refl
none-lost (t ∷ ts) = none-lost ts

without_more : (ts us : List Thing) (v : Value) → without (ts ++ us) v ≡ without us (without ts v)
unfolding without
without_more ts us v =
    ap (λ (b : Bool). cond b empty v) (any-more (λ t. lost_with t v) ts us)
    ∙ first (any (λ t. lost_with t v) ts) refl
  where
    first : (b : Bool) → any (λ t. lost_with t v) ts ≡ b
        → cond (b || any (λ t. lost_with t v) us) empty v ≡ cond (any (λ t. lost_with t (cond b empty v)) us) empty
        (cond b empty v)
    first true e = sym (ap (λ (b : Bool). cond b empty empty) (none-lost us))
    first false e = refl

frame-without-more : (ts us : List Thing) (f : Frame) → frame_without (ts ++ us) f ≡ frame_without us (frame_without ts f)
unfolding frame_without
frame-without-more ts us f = λ i. record {
  method = f.method;
  place = f.place;
  slots = map-twice (without ts) (without us) (without (ts ++ us)) (without_more ts us) f.slots i;
  pending = map-twice (without ts) (without us) (without (ts ++ us)) (without_more ts us) f.pending i;
}

pub frames-without-more : (ts us : List Thing) (fs : List Frame)
    → frames_without (ts ++ us) fs ≡ frames_without us (frames_without ts fs)
unfolding frames_without
frames-without-more ts us fs =
    map-twice (frame_without ts) (frame_without us) (frame_without (ts ++ us)) (frame-without-more ts us) fs

pub things-more : (vs : List Value) (v : Value) → things_of (vs ++ (v ∷ [])) ≡ things_of vs ++ things_of (v ∷ [])
unfolding things_of
things-more [] v = refl
things-more (empty ∷ vs) v = things-more vs v
things-more (int z ∷ vs) v = things-more vs v
things-more (bool b ∷ vs) v = things-more vs v
things-more (ref t ∷ vs) v = ap {B = List Thing} (λ l. t ∷ l) (things-more vs v)

-- the frame's lengths are all that a giving needs
sized : (p : List ℕ) (c : Config) (f : Frame) → FrameSound p c f → Sized f
sized p c f h = record { width = h.width; height = h.height }

module _ {p : List ℕ} {c : Config} {f : Frame} {fs : List Frame} (stack : Stack p c f fs) where
  abbrev words : List ℕ
  words = process_words (runs (f ∷ fs))

  -- a value given away, if it is a thing

  frames-word : (24 * (head_of words).frames) % 65536 ≡ 24 * length (f ∷ fs)
  frames-word = ap (λ (h : Head). (24 * h.frames) % 65536) (head-is stack) ∙ mod-eq_of_lt (omega arith)

  thing-given : (t : Thing)
      → emptied_by words (val_of (ref t)) ((24 * (head_of words).frames) % 65536) ≡ process_words
      (runs (frames_without (t ∷ []) (f ∷ fs)))
  thing-given t =
      ap (emptied_by words (val_of (ref t))) frames-word
      ∙ given-words t (f ∷ fs) (All-implies (FrameSound p c) Sized (sized p c) (f ∷ fs) stack.sound) (omega arith)

  pub value-given : (v : Value)
      → given_words words (val_of v) ≡ process_words (runs (frames_without (things_of (v ∷ [])) (f ∷ fs)))
  unfolding given_words thing_given val_of tag_of value_words things_of
  value-given empty = ap (λ (l : List Frame). process_words (runs l)) (sym (frames-without-none (f ∷ fs)))
  value-given (int z) = ap (λ (l : List Frame). process_words (runs l)) (sym (frames-without-none (f ∷ fs)))
  value-given (bool b) = ap (λ (l : List Frame). process_words (runs l)) (sym (frames-without-none (f ∷ fs)))
  value-given (ref (qubit n)) = thing-given (qubit n)
  value-given (ref (channel n)) = thing-given (channel n)
  value-given (ref (end n true)) = thing-given (end n true)
  value-given (ref (end n false)) = thing-given (end n false)

  -- RECV: the value in place of the end
  pub value_taken : (u v : Value) (us : List Value) → f.pending ≡ u ∷ us
      → received_words words (val_of v) ≡ process_words (runs (at_place (suc f.place) (with_pending (v ∷ us) f) ∷ fs))
  unfolding received_words
  value_taken u v us q =
      ap (λ (h : Head). on_top words h (val_of v)) (head-is stack)
      ∙ top-words stack u v us q

  -- FORK: operands off one by one

  sound-fewer : (j : ℕ) → FrameSound p c (with_pending (drop j f.pending) f)
  sound-fewer j = record {
    method = stack.sound.0.method;
    from-offset = stack.sound.0.from-offset;
    inside = stack.sound.0.inside;
    width = stack.sound.0.width;
    height = omega (arith, stack.sound.0.height, length-drop j f.pending);
    slots = stack.sound.0.slots;
    pending = All-drop _ j f.pending stack.sound.0.pending;
  }

-- a frame with other pending values is the frame
module _ {p : List ℕ} {c : Config} {f : Frame} {fs : List Frame} (stack : Stack p c f fs) where
  abbrev left : ℕ → Frame
  left j = with_pending (drop j f.pending) f

  stack-left : (j : ℕ) → Stack p c (left j) fs
  stack-left j = record { kept = stack.kept; sound = (sound-fewer stack j, stack.sound.1); deep = stack.deep }

  once : (j : ℕ) → j < length f.pending
      → popped_once (process_words (runs (left j ∷ fs))) ≡ process_words (runs (left (suc j) ∷ fs))
  unfolding popped_once
  once j h =
      ap (λ (h : Head). drop_to (process_words (runs (left j ∷ fs))) h h.place) (head-is (stack-left j))
      ∙ drop-to-words (stack-left j) (get_or f.pending j empty) (drop (suc j) f.pending) f.place
      (drop-cons f.pending j empty h)

  popped-by : (j : ℕ) → j ≤ length f.pending
      → popped_by (process_words (runs (f ∷ fs))) j ≡ process_words (runs (left j ∷ fs))
  unfolding popped_by
  popped-by zero h = refl
  popped-by (suc j) h = ap popped_once (popped-by j (omega arith)) ∙ once j h

  stayed-words : (j : ℕ) → stayed (process_words (runs (left j ∷ fs))) ≡ process_words (runs (passed_by j f ∷ fs))
  unfolding stayed passed_by stepped moved_to put_top
  stayed-words j =
      ap (λ (h : Head). put_top (process_words (runs (left j ∷ fs))) (stepped h)) (head-is (stack-left j))
      ∙ ap (λ (k : ℕ). put_top (process_words (runs (left j ∷ fs))) (moved_to (head_in (left j) fs) k))
      (mod-eq_of_lt (omega (arith, place-small stack)) ∙ omega arith)
      ∙ move-words (stack-left j) (suc f.place)

  pub operands-off : (n : ℕ) → n ≤ length f.pending
      → arguments_popped (process_words (runs (f ∷ fs))) n ≡ process_words (runs (passed_by n f ∷ fs))
  unfolding arguments_popped
  operands-off n h = ap stayed (popped-by n h) ∙ stayed-words n

-- SEND: both operands off, and the value given away
pub value-sent :
    {p : List ℕ} (outcomes : List ℕ) (s : State) {f : Frame} {fs : List Frame} (busy : AtWork p s.config f fs)
    → s.config.qubits ≤ 32 → (v x : Value) (us : List Value) → f.pending ≡ v ∷ x ∷ us
    → (after : All (FrameSound p s.config) (at_place (suc f.place) (with_pending us f) ∷ fs))
    → sent_words (process_words (runs (f ∷ fs))) (val_of v)
    ≡ process_words (runs (frames_without (things_of (v ∷ [])) (at_place (suc f.place) (with_pending us f) ∷ fs)))
unfolding sent_words
value-sent outcomes s {f} {fs} busy few v x us q after =
    ap (λ (h : Head). given_words (drop_two (process_words (runs (f ∷ fs))) h) (val_of v)) (head-is busy.stack)
    ∙ ap (λ (l : List ℕ). given_words l (val_of v)) (dropped-two outcomes s busy few v x us q)
    ∙ value-given (stacked busy.stack.kept after busy.stack.deep) v

-- FORK's child

-- a process that begins
pub began-words : (p : List ℕ) (m : ℕ) → began_words p (replicate 512 0) m ≡ process_words (runs (started p m [] ∷ []))
unfolding began_words started_words started_head put_status put_top head_at process_words status_words padded head_words
    frame_values started flatten value_words
began-words p m = refl

-- one more argument in the slots
empties : (m n : ℕ) → n ≤ m → take n (replicate m empty) ≡ replicate n empty
empties m n h =
    ap (λ (k : ℕ). take n (replicate k empty)) {x = m} {y = n + (m - n)} (omega arith)
    ∙ ap (take n) (sym (replicate-append-replicate n (m - n) empty))
    ∙ take_at (replicate n empty) (replicate (m - n) empty) n (length-replicate n empty)

slots-are : (xs : List Value) (n : ℕ) → length xs ≤ n
    → take n (xs ++ replicate 16 empty) ≡ xs ++ take (n - length xs) (replicate 16 empty)
slots-are [] n h = ap (λ (k : ℕ). take k (replicate 16 empty)) {x = n} {y = n - 0} (omega arith)
slots-are (x ∷ xs) zero h = absurd (not-suc-le-zero h)
slots-are (x ∷ xs) (suc n) h =
    ap {B = List Value} (λ l. x ∷ l)
    (slots-are xs n (le_of_suc-le-suc h)
    ∙ ap (λ (k : ℕ). xs ++ take k (replicate 16 empty)) {x = n - length xs} {y = suc n - suc (length xs)} (omega arith))

slots_with : (xs : List Value) (v : Value) → length xs < 16
    → set (take 16 (xs ++ replicate 16 empty)) (length xs) v ≡ take 16 ((xs ++ (v ∷ [])) ++ replicate 16 empty)
slots_with xs v h =
    ap (λ (l : List Value). set l (length xs) v)
    (slots-are xs 16 (omega arith)
    ∙ ap (λ (l : List Value). xs ++ l) (empties 16 (16 - length xs) (omega arith))
    ∙ ap (λ (k : ℕ). xs ++ replicate k empty) {x = 16 - length xs} {y = suc (15 - length xs)} (omega arith))
    ∙ set-append_seam xs empty (replicate (15 - length xs) empty) v
    ∙ sym (append_snoc xs v (replicate (15 - length xs) empty))
    ∙ ap (λ (l : List Value). (xs ++ (v ∷ [])) ++ l)
    (sym (empties 16 (15 - length xs) (omega arith))
    ∙ ap (λ (k : ℕ). take k (replicate 16 empty)) {x = 15 - length xs} {y = 16 - length (xs ++ (v ∷ []))}
    (omega (arith, length-append xs (v ∷ []))))
    ∙ sym (slots-are (xs ++ (v ∷ [])) 16 (omega (arith, length-append xs (v ∷ []))))

module _ (p : List ℕ) (kept : Kept p) (c : Config) (m : ℕ) (xs : List Value)
    (sound : All (FrameSound p c) (started p m xs ∷ [])) where
  pub slot-filled : (v : Value) → length xs < 16
      → put_value (process_words (runs (started p m xs ∷ []))) (64 + 2 * length xs) (val_of v) ≡ process_words
      (runs (started p m (xs ++ (v ∷ [])) ∷ []))
  unfolding started slot_at
  slot-filled v h =
      slot-put (stacked kept sound (omega arith)) (length xs) v h
      ∙ ap (λ (l : List Value). process_words (runs (record {
        method = m;
        place = offset_of p m;
        slots = l;
        pending = [];
      } ∷ []))) (slots_with xs v h)

  pub slot-found : (j : ℕ) → j < length xs → length xs ≤ 16
      → value_at (process_words (runs (started p m xs ∷ []))) (64 + 2 * j) ≡ val_of (get_or xs j empty)
  unfolding started slot_at
  slot-found j h l =
      slot_read (stacked kept sound (omega arith)) j (omega arith)
      ∙ ap val_of
      (get_or-take 16 (xs ++ replicate 16 empty) j empty (omega arith)
      ∙ get_or-append xs (replicate 16 empty) empty j h)
