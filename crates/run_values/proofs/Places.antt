-- What the reads and writes of the ops' functions find and leave in the words of a running process.
use Prim.Native.Nat.{ℕ, suc, ◌+◌, ◌*◌, ◌-◌, ◌%◌, ◌<◌}
use mathlib.Core.Path.{◌≡◌, refl, sym, ◌∙◌, ap, ap₂}
use mathlib.Core.List.{List, [], ◌∷◌}
use native.Mathlib.Nat.{mod-eq_of_lt, add-zero, add-mod_right}
use native.Mathlib.Omega.{arith}
use lib.ListN.{get_or, set, length, length-set}
use Rattle.table.proofs.Methods.{end-within}
use Rattle.machine.specs.Value.{Value, empty}
use Rattle.machine.specs.State.{Frame, Config, at_place, with_pending, with_slot, push}
use Rattle.machine.specs.Act.{passed_by}
use Rattle.machine.specs.Entry.{runs}
use Rattle.machine.proofs.Reachable.{Stack}
use Rattle.layout.specs.Layout.{value_words, head_words, frame_values, process_words}
use Rattle.layout.proofs.Frames.{tag_of, number_of, write, frame-slot-get, frame-slot-set, frame-pending-get, frame-pending-set, frame-push, frame-pop}
use Rattle.layout.proofs.Process.{part, Fitting, heads_below, values_below, process-part, process-fitting, part_count, part-status, part-fault, part-head-get, part-head-set, part-value-get, part-value-set}
use Rattle.run_store.specs.declared.head.Head.{Head}
use Rattle.run_store.specs.StoreCode.{value_at, put_value, head_at, head_of, put_top, slot_at, top_at, moved_to, stepped, pushed, popped}
use Rattle.run_store.proofs.Vals.{val_of}
use Rattle.run_values.specs.ValuesCode.{empty_val, push_on, on_top, drop_top, drop_to, over_two, in_slot}

-- the head of a process that runs with frame f above fs
abbrev pub head_in : Frame → List Frame → Head
head_in f fs = record {
  status = 1;
  fault = 0;
  frames = suc (length fs);
  method = f.method;
  place = f.place;
  pending = length f.pending;
}

module _ {p : List ℕ} {c : Config} {f : Frame} {fs : List Frame} (stack : Stack p c f fs) where
  -- the words of the process, its head, and how its stretches fit
  abbrev words : List ℕ
  words = process_words (runs (f ∷ fs))

  abbrev head : Head
  head = head_in f fs

  abbrev stretches : List ℕ → List ℕ → List ℕ
  stretches hd vs = part (length fs) (heads_below fs) hd (values_below fs) vs

  fitting : Fitting (length fs) (heads_below fs) (head_words f) (values_below fs) (frame_values f)
  fitting = process-fitting p c f fs stack.sound stack.deep

  -- the same with other words of the same length in the top frame
  fitting-as : (hd vs : List ℕ) → length hd ≡ 4 → length vs ≡ 48
      → Fitting (length fs) (heads_below fs) hd (values_below fs) vs
  fitting-as hd vs e g = record {
    depth = fitting.depth;
    heads_long = fitting.heads_long;
    head_long = e;
    values_long = fitting.values_long;
    frame_long = g;
  }

  words-part : words ≡ stretches (head_words f) (frame_values f)
  words-part = process-part f fs

  pub place-small : f.place < 4096
  place-small =
      omega (
        arith,
        stack.sound.0.inside,
        end-within p stack.kept f.method stack.sound.0.method,
        stack.kept.sizes.instructions-most,
      )

  pub head-is : head_of words ≡ head
  unfolding head_of head_at head_words
  head-is = ap head_of words-part ∙ (λ i. record {
    status = part-status (length fs) (heads_below fs) (head_words f) (values_below fs) (frame_values f) fitting i;
    fault = part-fault (length fs) (heads_below fs) (head_words f) (values_below fs) (frame_values f) fitting i;
    frames = part_count (length fs) (heads_below fs) (head_words f) (values_below fs) (frame_values f) fitting i;
    method =
        (ap (λ (n : ℕ). get_or (stretches (head_words f) (frame_values f)) n 0) (sym (add-zero _))
        ∙ at 0 0 (omega arith) (omega arith)) i;
    place = at 1 1 (omega arith) (omega arith) i;
    pending = at 2 2 (omega arith) (omega arith) i;
  })
    where
      at : (i j : ℕ) → j < 4 → 4 + 4 * suc (length fs) + i ≡ 8 + (4 * length fs + j)
          → get_or (stretches (head_words f) (frame_values f))
          (4 + 4 * get_or (stretches (head_words f) (frame_values f)) 2 0 + i) 0 ≡ get_or (head_words f) j 0
      at i j h e =
          ap (λ (n : ℕ). get_or (stretches (head_words f) (frame_values f)) (4 + 4 * n + i) 0)
          (part_count (length fs) (heads_below fs) (head_words f) (values_below fs) (frame_values f) fitting)
          ∙ part-head-get (length fs) (heads_below fs) (head_words f) (values_below fs) (frame_values f) fitting
          (4 + 4 * suc (length fs) + i) j h e

  -- reads

  -- a value among the words of the top frame
  value_read : (i j : ℕ) (v : Value) → j + 1 < 48 → i ≡ 64 + (48 * length fs + j) → get_or (frame_values f) j 0 ≡ tag_of v
      → get_or (frame_values f) (j + 1) 0 ≡ number_of v → value_at words i ≡ val_of v
  unfolding value_at val_of
  value_read i j v h e t n = ap (λ (l : List ℕ). value_at l i) words-part ∙ (λ k. record {
    tag =
        (part-value-get (length fs) (heads_below fs) (head_words f) (values_below fs) (frame_values f) fitting i j
        (omega arith) e
        ∙ t) k;
    number =
        (part-value-get (length fs) (heads_below fs) (head_words f) (values_below fs) (frame_values f) fitting (i + 1)
        (j + 1) h (omega (arith, e))
        ∙ n) k;
  })

  pub slot_read : (s : ℕ) → s < 16 → value_at words (slot_at head s) ≡ val_of (get_or f.slots s empty)
  unfolding slot_at tag_of number_of
  slot_read s h =
      value_read (slot_at head s) (2 * s) (get_or f.slots s empty) (omega arith) (omega arith)
      (frame-slot-get f stack.sound.0.width s 0 (2 * s) h (omega arith) (omega arith))
      (frame-slot-get f stack.sound.0.width s 1 (2 * s + 1) h (omega arith) refl)

  pub top_read : (d : ℕ) → d < length f.pending
      → value_at words (top_at head (suc d)) ≡ val_of (get_or f.pending d empty)
  unfolding top_at tag_of number_of
  top_read d h =
      value_read (top_at head (suc d)) (32 + 2 * (length f.pending - suc d)) (get_or f.pending d empty)
      (omega (arith, stack.sound.0.height)) (omega (arith, h))
      (frame-pending-get f stack.sound.0.width d 0 (32 + 2 * (length f.pending - suc d)) h (omega arith)
      (omega arith))
      (frame-pending-get f stack.sound.0.width d 1 (32 + 2 * (length f.pending - suc d) + 1) h (omega arith)
      (omega arith))

  -- writes

  -- a value written among the words vs of the top frame
  value-put : (vs : List ℕ) (i j : ℕ) (v : Value) → length vs ≡ 48 → j + 1 < 48 → i ≡ 64 + (48 * length fs + j)
      → put_value (stretches (head_words f) vs) i (val_of v) ≡ stretches (head_words f) (write vs j v)
  unfolding put_value val_of write head_words
  value-put vs i j v g h e =
      ap (λ (l : List ℕ). set l (i + 1) (number_of v))
      (part-value-set (length fs) (heads_below fs) (head_words f) (values_below fs) vs (fitting-as (head_words f) vs refl g)
      i j (tag_of v) (omega arith) e)
      ∙ part-value-set (length fs) (heads_below fs) (head_words f) (values_below fs) (set vs j (tag_of v))
      (fitting-as (head_words f) (set vs j (tag_of v)) refl (length-set vs j (tag_of v) ∙ g))
      (i + 1) (j + 1) (number_of v) h (omega (arith, e))

  -- the head written after them: the words of the process with the changed frame
  frame-put : (g : Frame) (ws : List ℕ) (h : Head) → length (frame_values g) ≡ 48
      → ws ≡ stretches (head_words f) (frame_values g)
      → g.method ≡ f.method → h.frames ≡ suc (length fs) → h.place ≡ g.place → h.pending ≡ length g.pending
      → put_top ws h ≡ process_words (runs (g ∷ fs))
  unfolding put_top head_at head_words
  frame-put g ws h long e m k pl pe =
      ap₂ (λ (l : List ℕ) (n : ℕ). set (set l (4 + 4 * n + 1) h.place) (4 + 4 * n + 2) h.pending) e k
      ∙ ap (λ (l : List ℕ). set l (4 + 4 * suc (length fs) + 2) h.pending)
      (part-head-set (length fs) (heads_below fs) (head_words f) (values_below fs) (frame_values g)
      (fitting-as (head_words f) (frame_values g) refl long)
      (4 + 4 * suc (length fs) + 1) 1 h.place (omega arith) (omega arith))
      ∙ part-head-set (length fs) (heads_below fs) (f.method ∷ h.place ∷ length f.pending ∷ 0 ∷ []) (values_below fs)
      (frame_values g)
      (fitting-as (f.method ∷ h.place ∷ length f.pending ∷ 0 ∷ []) (frame_values g) refl long)
      (4 + 4 * suc (length fs) + 2) 2 h.pending (omega arith) (omega arith)
      ∙ ap (λ (hd : List ℕ). stretches hd (frame_values g)) heads
      ∙ sym (process-part g fs)
    where
      heads :
          ◌≡◌ {A = List ℕ} (f.method ∷ h.place ∷ h.pending ∷ 0 ∷ [])
          (g.method ∷ g.place ∷ length g.pending ∷ 0 ∷ [])
      heads = λ i. m' i ∷ pl i ∷ pe i ∷ 0 ∷ []
        where
          m' : f.method ≡ g.method
          m' = sym m

  -- words that fit 32 bits are not cut
  next_place : (f.place + 1) % 4294967296 ≡ suc f.place
  next_place = mod-eq_of_lt (omega (arith, place-small)) ∙ omega arith

  -- the length of the frame's words does not depend on what is written there
  long : length (frame_values f) ≡ 48
  long = fitting.frame_long

  write-long : (vs : List ℕ) (i : ℕ) (v : Value) → length vs ≡ 48 → length (write vs i v) ≡ 48
  unfolding write
  write-long vs i v e = length-set (set vs i (tag_of v)) (i + 1) (number_of v) ∙ length-set vs i (tag_of v) ∙ e

  -- one write, and the head: the frame's words after the write are those of the frame g
  one-write : (g : Frame) (i j : ℕ) (v : Value) (h : Head) → j + 1 < 48 → i ≡ 64 + (48 * length fs + j)
      → write (frame_values f) j v ≡ frame_values g → g.method ≡ f.method → h.frames ≡ suc (length fs)
      → h.place ≡ g.place
      → h.pending ≡ length g.pending → put_top (put_value words i (val_of v)) h ≡ process_words (runs (g ∷ fs))
  one-write g i j v h b e q m k pl pe =
      frame-put g (put_value words i (val_of v)) h
      (sym (ap length q) ∙ write-long (frame_values f) j v long)
      (ap (λ (l : List ℕ). put_value l i (val_of v)) words-part
      ∙ value-put (frame_values f) i j v long b e
      ∙ ap (stretches (head_words f)) q)
      m k pl pe

  -- a value pushed
  pub push-words : (v : Value) → length f.pending < 8
      → push_on words head (val_of v) ≡ process_words (runs (push v (passed_by 0 f) ∷ fs))
  unfolding push_on top_at stepped pushed passed_by frame_values
  push-words v h =
      one-write (push v (passed_by 0 f)) (top_at head 0) (32 + 2 * length f.pending) v (stepped (pushed head))
      (omega arith) (omega arith)
      (frame-push f stack.sound.0.width (32 + 2 * length f.pending) v h refl)
      refl refl next_place (mod-eq_of_lt (omega arith) ∙ omega arith)

  -- a slot written
  pub slot-words : (s : ℕ) (v : Value) → s < 16
      → in_slot words head s (val_of v) ≡ process_words (runs (with_slot s v (passed_by 0 f) ∷ fs))
  unfolding in_slot slot_at stepped passed_by frame_values
  slot-words s v h =
      one-write (with_slot s v (passed_by 0 f)) (slot_at head s) (2 * s) v (stepped head) (omega arith) (omega arith)
      (frame-slot-set f stack.sound.0.width s (2 * s) v h refl)
      refl refl next_place refl

  -- a slot written, the frame staying where it stands
  pub slot-put : (s : ℕ) (v : Value) → s < 16
      → put_value words (slot_at head s) (val_of v) ≡ process_words (runs (with_slot s v f ∷ fs))
  unfolding slot_at head_words
  slot-put s v h =
      ap (λ (l : List ℕ). put_value l (slot_at head s) (val_of v)) words-part
      ∙ value-put (frame_values f) (slot_at head s) (2 * s) v long (omega arith) (omega arith)
      ∙ ap (stretches (head_words f)) (frame-slot-set f stack.sound.0.width s (2 * s) v h refl)
      ∙ sym (process-part (with_slot s v f) fs)

  -- the top value off, and the frame at instruction i
  drop_at : (u : Value) (us : List Value) (i : ℕ) (h : Head) → f.pending ≡ u ∷ us → h.frames ≡ suc (length fs)
      → h.place ≡ i
      → h.pending ≡ length us
      → put_top (put_value words (top_at head 1) empty_val) h ≡ process_words (runs (at_place i (with_pending us f) ∷ fs))
  unfolding top_at val_of tag_of number_of value_words frame_values
  drop_at u us i h e k pl pe =
      one-write (at_place i (with_pending us f)) (top_at head 1) (32 + 2 * length us) empty h
      (omega (arith, less)) (omega (arith, ap length e))
      (frame-pop f stack.sound.0.width (32 + 2 * length us) u us e less refl)
      refl k pl pe
    where
      less : length us < 8
      less = omega (arith, stack.sound.0.height, ap length e)

  -- one pending value fewer
  fewer : (u : Value) (us : List Value) → f.pending ≡ u ∷ us
      → (length f.pending + 4294967295) % 4294967296 ≡ length us
  fewer u us e =
      ap (λ (n : ℕ). n % 4294967296) (omega (arith, ap length e))
      ∙ add-mod_right (length us) 4294967296
      ∙ mod-eq_of_lt (omega (arith, stack.sound.0.height, ap length e))

  pub drop-words : (u : Value) (us : List Value) → f.pending ≡ u ∷ us
      → drop_top words head ≡ process_words (runs (at_place (suc f.place) (with_pending us f) ∷ fs))
  unfolding drop_top stepped popped
  drop-words u us e = drop_at u us (suc f.place) (stepped (popped head)) e refl next_place (fewer u us e)

  pub drop-to-words : (u : Value) (us : List Value) (i : ℕ) → f.pending ≡ u ∷ us
      → drop_to words head i ≡ process_words (runs (at_place i (with_pending us f) ∷ fs))
  unfolding drop_to moved_to popped
  drop-to-words u us i e = drop_at u us i (moved_to (popped head) i) e refl refl (fewer u us e)

  -- the top value replaced
  pub top-words : (u v : Value) (us : List Value) → f.pending ≡ u ∷ us
      → on_top words head (val_of v) ≡ process_words (runs (at_place (suc f.place) (with_pending (v ∷ us) f) ∷ fs))
  unfolding on_top top_at stepped frame_values
  top-words u v us e =
      one-write (at_place (suc f.place) (with_pending (v ∷ us) f)) (top_at head 1) (32 + 2 * (length f.pending - 1))
      v (stepped head)
      (omega (arith, stack.sound.0.height)) (omega (arith, ap length e))
      (frame-pending-set f stack.sound.0.width 0 (32 + 2 * (length f.pending - 1)) v
      (omega (arith, ap length e)) refl
      ∙ ap (λ (l : List Value). frame_values (with_pending (set l 0 v) f)) e)
      refl refl next_place (ap length e)

  -- two off, one on
  pub two-words : (y x v : Value) (us : List Value) → f.pending ≡ y ∷ x ∷ us
      → over_two words head (val_of v) ≡ process_words (runs (at_place (suc f.place) (with_pending (v ∷ us) f) ∷ fs))
  unfolding over_two top_at stepped popped val_of tag_of number_of value_words frame_values
  two-words y x v us e =
      frame-put (at_place (suc f.place) (with_pending (v ∷ us) f))
      (put_value (put_value words (top_at head 1) empty_val) (top_at head 2) (val_of v)) (stepped (popped head))
      (sym (ap length second)
      ∙ write-long (frame_values (with_pending (x ∷ us) f)) (32 + 2 * length us) v
      (sym (ap length first) ∙ write-long (frame_values f) (32 + 2 * suc (length us)) empty long))
      (ap (λ (l : List ℕ). put_value (put_value l (top_at head 1) empty_val) (top_at head 2) (val_of v)) words-part
      ∙ ap (λ (l : List ℕ). put_value l (top_at head 2) (val_of v))
      (value-put (frame_values f) (top_at head 1) (32 + 2 * suc (length us)) empty long
      (omega (arith, stack.sound.0.height, ap length e)) (omega (arith, ap length e))
      ∙ ap (stretches (head_words f)) first)
      ∙ value-put (frame_values (with_pending (x ∷ us) f)) (top_at head 2) (32 + 2 * length us) v
      (sym (ap length first) ∙ write-long (frame_values f) (32 + 2 * suc (length us)) empty long)
      (omega (arith, stack.sound.0.height, ap length e)) (omega (arith, ap length e))
      ∙ ap (stretches (head_words f)) second)
      refl refl next_place (fewer y (x ∷ us) e)
    where
      first : write (frame_values f) (32 + 2 * suc (length us)) empty ≡ frame_values (with_pending (x ∷ us) f)
      first =
          frame-pop f stack.sound.0.width (32 + 2 * suc (length us)) y (x ∷ us) e
          (omega (arith, stack.sound.0.height, ap length e)) refl

      second :
          write (frame_values (with_pending (x ∷ us) f)) (32 + 2 * length us) v ≡ frame_values (with_pending (v ∷ us) f)
      second =
          frame-pending-set (with_pending (x ∷ us) f) stack.sound.0.width 0 (32 + 2 * length us) v (omega arith)
          (omega arith)

  -- the frame at another instruction
  pub move-words : (i : ℕ) → put_top words (moved_to head i) ≡ process_words (runs (at_place i f ∷ fs))
  unfolding moved_to frame_values
  move-words i = frame-put (at_place i f) words (moved_to head i) long words-part refl refl refl refl

  -- a value pushed, the frame staying where it stands
  pub push-back : (v : Value) → length f.pending < 8
      → put_top (put_value words (top_at head 0) (val_of v)) (pushed head) ≡ process_words (runs (push v f ∷ fs))
  unfolding top_at pushed
  push-back v h =
      one-write (push v f) (top_at head 0) (32 + 2 * length f.pending) v (pushed head) (omega arith) (omega arith)
      (frame-push f stack.sound.0.width (32 + 2 * length f.pending) v h refl)
      refl refl refl (mod-eq_of_lt (omega arith) ∙ omega arith)
