-- The words of a process with the cursor put back: values stand far from the head's words, so that the two can be
-- written in any order.
use Prim.Native.Nat.{ℕ, ◌+◌, ◌*◌, ◌%◌, ◌-◌, ◌≤◌, ◌<◌}
use mathlib.Core.Path.{◌≡◌, refl, sym, ◌∙◌, ap}
use mathlib.Core.List.{List}
use native.Mathlib.Nat.{mod-eq_of_lt}
use native.Mathlib.Omega.{arith}
use lib.ListN.{get_or, set, length, length-set}
use lib.Seq.{get_or-set_same, get_or-set_other, set-get_or, set-set, set_comm}
use Rattle.run_store.specs.declared.values.Val.{Val}
use Rattle.run_store.specs.declared.head.Head.{Head}
use Rattle.run_store.specs.StoreCode.{value_at, put_value, head_at, head_of, put_top, moved_to, stepped, pushed, popped}
use Rattle.run_cursor.specs.declared.cursor.Cursor.{Cursor}
use Rattle.run_cursor.specs.CursorCode.{head_with, laid, cursor, HeadFits}

-- one word far from the head's
module _ (h : Head) (c : Cursor) (most : h.frames ≤ 8) where
  word-far : (w : List ℕ) (j x : ℕ) → 64 ≤ j → set (laid w h c) j x ≡ laid (set w j x) h c
  unfolding laid put_top head_with head_at
  word-far w j x far =
      set_comm (set w (4 + 4 * h.frames + 1) c.place) (4 + 4 * h.frames + 2) j c.pending x (λ e. omega (
        arith,
        e,
        far,
        most,
      ))
      ∙ ap (λ (l : List ℕ). set l (4 + 4 * h.frames + 2) c.pending) (set_comm w (4 + 4 * h.frames + 1) j c.place
      x (λ e. omega (arith, e, far, most)))

  got-far : (w : List ℕ) (j : ℕ) → 64 ≤ j → get_or (laid w h c) j 0 ≡ get_or w j 0
  unfolding laid put_top head_with head_at
  got-far w j far =
      get_or-set_other (set w (4 + 4 * h.frames + 1) c.place) (4 + 4 * h.frames + 2) j c.pending 0 (λ e. omega
      (arith, e, far, most))
      ∙ get_or-set_other w (4 + 4 * h.frames + 1) j c.place 0 (λ e. omega (arith, e, far, most))

  -- a value
  pub put-far : (w : List ℕ) (i : ℕ) (v : Val) → 64 ≤ i → put_value (laid w h c) i v ≡ laid (put_value w i v) h c
  unfolding put_value
  put-far w i v far = ap (λ (l : List ℕ). set l (i + 1) v.number) (word-far w i v.tag far) ∙ word-far (set w i
      v.tag) (i + 1) v.number (omega (arith, far))

  pub read-far : (w : List ℕ) (i : ℕ) → 64 ≤ i → value_at (laid w h c) i ≡ value_at w i
  unfolding value_at
  read-far w i far = λ k. record { tag = got-far w i far k; number = got-far w (i + 1) (omega (arith, far)) k }

  -- another cursor put back
  pub laid-again : (w : List ℕ) (r : Cursor) → put_top (laid w h c) (head_with h r) ≡ laid w h r
  unfolding laid put_top head_with
  laid-again w r =
      ap (λ (l : List ℕ). set l (head_at h.frames + 2) r.pending)
      (set_comm (set w (head_at h.frames + 1) c.place) (head_at h.frames + 2) (head_at h.frames + 1)
      c.pending r.place (λ e. omega (arith, e))
      ∙ ap (λ (l : List ℕ). set l (head_at h.frames + 2) c.pending) (set-set w (head_at h.frames + 1) c.place
      r.place))
      ∙ set-set (set w (head_at h.frames + 1) r.place) (head_at h.frames + 2) c.pending r.pending

-- heads

module _ (h : Head) (c : Cursor) where
  pub head-stepped : c.place < 65536 → stepped (head_with h c) ≡ head_with h (cursor (c.place + 1) c.pending)
  unfolding stepped head_with
  head-stepped l = λ k. record {
    status = h.status;
    fault = h.fault;
    frames = h.frames;
    method = h.method;
    place = mod-eq_of_lt {n = c.place + 1} {m = 4294967296} (omega (arith, l)) k;
    pending = c.pending;
  }

  pub head-pushed : c.pending < 8 → pushed (head_with h c) ≡ head_with h (cursor c.place (c.pending + 1))
  unfolding pushed head_with
  head-pushed l = λ k. record {
    status = h.status;
    fault = h.fault;
    frames = h.frames;
    method = h.method;
    place = c.place;
    pending = mod-eq_of_lt {n = c.pending + 1} {m = 4294967296} (omega (arith, l)) k;
  }

  pub head-popped : 1 ≤ c.pending → c.pending ≤ 8 → popped (head_with h c) ≡ head_with h (cursor c.place (c.pending
      - 1))
  unfolding popped head_with
  head-popped l m = λ k. record {
    status = h.status;
    fault = h.fault;
    frames = h.frames;
    method = h.method;
    place = c.place;
    pending = down k;
  }
    where
      down : (c.pending + 4294967295) % 4294967296 ≡ c.pending - 1
      down = omega (arith, l, m)

  pub head-moved : (i : ℕ) → moved_to (head_with h c) i ≡ head_with h (cursor i c.pending)
  unfolding moved_to head_with
  head-moved i = refl

-- what holds all the while

module _ {h : Head} {w : List ℕ} {c : Cursor} (s : HeadFits h w c) where
  pub steady-at : (r : Cursor) → r.pending ≤ 8 → HeadFits h w r
  steady-at r few = record {
    long = s.long;
    least = s.least;
    most = s.most;
    few = few;
    status = s.status;
    fault = s.fault;
    frames = s.frames;
    method = s.method;
  }

  pub steady-put : (i : ℕ) (v : Val) → 64 ≤ i → HeadFits h (put_value w i v) c
  unfolding put_value head_at
  steady-put i v far = record {
    long = length-set (set w i v.tag) (i + 1) v.number ∙ length-set w i v.tag ∙ s.long;
    least = s.least;
    most = s.most;
    few = s.few;
    status = near 0 (omega arith) ∙ s.status;
    fault = near 1 (omega arith) ∙ s.fault;
    frames = near 2 (omega arith) ∙ s.frames;
    method = near (4 + 4 * h.frames) (omega (arith, s.most)) ∙ s.method;
  }
    where
      near : (j : ℕ) → j < 64 → get_or (set (set w i v.tag) (i + 1) v.number) j 0 ≡ get_or w j 0
      near j l =
          get_or-set_other (set w i v.tag) (i + 1) j v.number 0 (λ e. omega (arith, e, l, far))
          ∙ get_or-set_other w i j v.tag 0 (λ e. omega (arith, e, l, far))

  -- the head that is read with the cursor put back
  pub head-laid : head_of (laid w h c) ≡ head_with h c
  unfolding head_of laid put_top head_with head_at
  head-laid =
      ap (λ (x : ℕ). read x) frames-there
      ∙ (λ k. record {
        status = (front 0 (omega arith) ∙ s.status) k;
        fault = (front 1 (omega arith) ∙ s.fault) k;
        frames = h.frames;
        method = (method-there ∙ s.method) k;
        place = place-there k;
        pending = pending-there k;
      })
    where
      words : List ℕ
      words = set (set w (4 + 4 * h.frames + 1) c.place) (4 + 4 * h.frames + 2) c.pending

      read : ℕ → Head
      read x = record {
        status = get_or words 0 0;
        fault = get_or words 1 0;
        frames = x;
        method = get_or words (4 + 4 * x) 0;
        place = get_or words (4 + 4 * x + 1) 0;
        pending = get_or words (4 + 4 * x + 2) 0;
      }

      front : (j : ℕ) → j < 4 → get_or words j 0 ≡ get_or w j 0
      front j l =
          get_or-set_other (set w (4 + 4 * h.frames + 1) c.place) (4 + 4 * h.frames + 2) j c.pending 0 (λ e. omega
          (arith, e, l))
          ∙ get_or-set_other w (4 + 4 * h.frames + 1) j c.place 0 (λ e. omega (arith, e, l))

      frames-there : get_or words 2 0 ≡ h.frames
      frames-there = front 2 (omega arith) ∙ s.frames

      method-there : get_or words (4 + 4 * h.frames) 0 ≡ get_or w (4 + 4 * h.frames) 0
      method-there =
          get_or-set_other (set w (4 + 4 * h.frames + 1) c.place) (4 + 4 * h.frames + 2) (4 + 4 * h.frames)
          c.pending 0 (λ e. omega (arith, e))
          ∙ get_or-set_other w (4 + 4 * h.frames + 1) (4 + 4 * h.frames) c.place 0 (λ e. omega (arith, e))

      place-there : get_or words (4 + 4 * h.frames + 1) 0 ≡ c.place
      place-there =
          get_or-set_other (set w (4 + 4 * h.frames + 1) c.place) (4 + 4 * h.frames + 2) (4 + 4 * h.frames + 1)
          c.pending 0 (λ e. omega (arith, e))
          ∙ get_or-set_same w (4 + 4 * h.frames + 1) c.place 0 (omega (arith, s.long, s.most))

      pending-there : get_or words (4 + 4 * h.frames + 2) 0 ≡ c.pending
      pending-there =
          get_or-set_same (set w (4 + 4 * h.frames + 1) c.place) (4 + 4 * h.frames + 2) c.pending 0
          (omega (arith, s.long, s.most, length-set w (4 + 4 * h.frames + 1) c.place))

-- the words as they were read, with their own cursor put back
pub laid-first : (w : List ℕ) {h : Head} → h ≡ head_of w → laid w h (cursor h.place h.pending) ≡ w
unfolding head_of laid put_top head_with
laid-first w {h} e =
    ap (λ (g : Head). set (set w (head_at g.frames + 1) g.place) (head_at g.frames + 2) g.pending) e
    ∙ ap (λ (l : List ℕ). set l (head_at (get_or w 2 0) + 2) (get_or w (head_at (get_or w 2 0) + 2) 0)) (set-get_or w (head_at
    (get_or w 2 0) + 1) 0)
    ∙ set-get_or w (head_at (get_or w 2 0) + 2) 0

pub steady-first : (w : List ℕ) {h : Head} → h ≡ head_of w → length w ≡ 512 → 1 ≤ h.frames → h.frames ≤ 8 → h.pending
    ≤ 8
    → HeadFits h w (cursor h.place h.pending)
unfolding head_of
steady-first w {h} e long least most few = record {
  long = long;
  least = least;
  most = most;
  few = few;
  status = sym (ap (λ (g : Head). g.status) e);
  fault = sym (ap (λ (g : Head). g.fault) e);
  frames = sym (ap (λ (g : Head). g.frames) e);
  method = ap (λ (x : ℕ). get_or w (head_at x) 0) (ap (λ (g : Head). g.frames) e) ∙ sym (ap (λ (g : Head). g.method) e);
}
