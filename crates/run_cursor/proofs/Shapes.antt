-- What the ops do to words and head, in seven shapes: each is done to the words with the cursor put back.
use Prim.Native.Nat.{ℕ, ◌+◌, ◌*◌, ◌-◌, ◌≤◌, ◌<◌}
use mathlib.Core.Path.{◌≡◌, refl, sym, ◌∙◌, ap, ap₂}
use Rattle.std.specs.Prelude.{Option, Some, None}
use mathlib.Core.List.{List}
use native.Mathlib.Omega.{arith}
use Rattle.run_store.specs.declared.values.Val.{Val}
use Rattle.run_store.specs.declared.head.Head.{Head}
use Rattle.run_store.specs.StoreCode.{put_value, put_top, slot_at, top_at, moved_to, stepped, pushed, popped}
use Rattle.table.specs.Table.{offset_of}
use Rattle.run_values.specs.ValuesCode.{AfterStep, after_step, empty_val, push_on, on_top, drop_top, drop_to, over_two, in_slot}
use Rattle.run_moves.specs.MovesCode.{target_of, jump_op}
use Rattle.run_values.specs.declared.steps.StepResult.TheVariants.{WentOn}
use Rattle.run_cursor.specs.declared.cursor.Cursor.{Cursor}
use Rattle.run_cursor.specs.CursorCode.{head_with, laid, cursor, HeadFits, CursorStep, CursorWent, Only}
use Rattle.run_cursor.proofs.Laid.{put-far, laid-again, head-stepped, head-pushed, head-popped, head-moved, steady-at, steady-put}

-- what one thing does, another does
pub went_in : {d d' : AfterStep} {I J : ℕ → Type 0} {h : Head} {w' : List ℕ} {r : Cursor} → d' ≡ d → ((x : ℕ) → I x → J x)
    → CursorWent d I h w' r → CursorWent d' J h w' r
went_in {r = r} e f g = record { done = e ∙ g.done; onward = f r.place g.onward; steady = g.steady }

pub went-as : {d d' : AfterStep} {I : ℕ → Type 0} {h : Head} {w' : List ℕ} {r : Cursor} → d' ≡ d → CursorWent d I h w' r
    → CursorWent d' I h w' r
went-as e g = went_in e (λ x y. y) g

module _ {d d' : AfterStep} (I : ℕ → Type 0) (h : Head) (w w' : List ℕ) (r : Option Cursor) where
  pub goes_in : (K : ℕ → Type 0) → d' ≡ d → ((x : ℕ) → I x → K x) → CursorStep d I h w w' r → CursorStep d' K h w w' r
  goes_in K e f g = go r g
    where
      go : (r : Option Cursor) → CursorStep d I h w w' r → CursorStep d' K h w w' r
      go None g = g
      go (Some r) g = went_in e f g

  pub goes-as : d' ≡ d → CursorStep d I h w w' r → CursorStep d' I h w w' r
  goes-as e g = goes_in I e (λ x y. y) g

module _ {h : Head} {w : List ℕ} {c : Cursor} (s : HeadFits h w c) where
  -- words came to these, and the cursor to place i with n values pending
  done : {d : AfterStep} {us w' : List ℕ} (i n : ℕ) → HeadFits h us c → n ≤ 8
      → d ≡ after_step WentOn (laid us h (cursor i n)) → w' ≡ us
      → CursorWent d (Only i) h w' (cursor i n)
  done {us = us} i n t few e q = record {
    done = e ∙ ap (λ (l : List ℕ). after_step WentOn (laid l h (cursor i n))) (sym q);
    onward = refl;
    steady = rw q (steady-at t (cursor i n) few);
  }

  written : (i : ℕ) (v : Val) {g : Head} (r : Cursor) → 64 ≤ i → g ≡ head_with h r → put_top (put_value (laid w h c) i v) g
      ≡ laid (put_value w i v) h r
  written i v r far e = ap₂ put_top (put-far h c s.most w i v far) e ∙ laid-again h c s.most (put_value w i v) r

  top-is : (n : ℕ) → top_at (head_with h c) n ≡ 48 + 48 * h.frames + 2 * c.pending - 2 * n
  unfolding top_at head_with
  top-is n = refl

  slot_is : (a : ℕ) → slot_at (head_with h c) a ≡ 16 + 48 * h.frames + 2 * a
  unfolding slot_at head_with
  slot_is a = refl

  pub pushes : c.place < 65536 → c.pending < 8 → (v : Val) {at : ℕ} {w' : List ℕ} → at ≡ 48 + 48 * h.frames + 2 *
      c.pending → w' ≡ put_value w at v
      → CursorWent (after_step WentOn (push_on (laid w h c) (head_with h c) v)) (Only (c.place + 1)) h w' (cursor (c.place + 1) (c.pending + 1))
  unfolding push_on
  pushes l m v {at} e q =
      let far : 64 ≤ at = omega (arith, e, s.least) in
      done (c.place + 1) (c.pending + 1) (steady-put s at v far) (omega (arith, m))
      (ap (after_step WentOn)
      (ap (λ (i : ℕ). put_top (put_value (laid w h c) i v) (stepped (pushed (head_with h c)))) {y = at} (top-is 0 ∙ omega
      (arith, e))
      ∙ written at v (cursor (c.place + 1) (c.pending + 1)) far
      (ap stepped (head-pushed h c m) ∙ head-stepped h (cursor c.place (c.pending + 1)) l)))
      q

  pub replaces : c.place < 65536 → 1 ≤ c.pending → (v : Val) {at : ℕ} {w' : List ℕ} → at ≡ 48 + 48 * h.frames + 2 *
      c.pending → w' ≡ put_value w (at - 2) v
      → CursorWent (after_step WentOn (on_top (laid w h c) (head_with h c) v)) (Only (c.place + 1)) h w' (cursor (c.place + 1) c.pending)
  unfolding on_top
  replaces l m v {at} e q =
      let far : 64 ≤ at - 2 = omega (arith, e, m, s.least) in
      done (c.place + 1) c.pending (steady-put s (at - 2) v far) s.few
      (ap (after_step WentOn)
      (ap (λ (i : ℕ). put_top (put_value (laid w h c) i v) (stepped (head_with h c))) {y = at - 2} (top-is 1 ∙ omega
      (arith, e))
      ∙ written (at - 2) v (cursor (c.place + 1) c.pending) far (head-stepped h c l)))
      q

  pub discards-to : 1 ≤ c.pending → (to : ℕ) {at : ℕ} {w' : List ℕ} → at ≡ 48 + 48 * h.frames + 2 * c.pending → w' ≡
      put_value w (at - 2) empty_val
      → CursorWent (after_step WentOn (drop_to (laid w h c) (head_with h c) to)) (Only to) h w' (cursor to (c.pending - 1))
  unfolding drop_to
  discards-to m to {at} e q =
      let far : 64 ≤ at - 2 = omega (arith, e, m, s.least) in
      done to (c.pending - 1) (steady-put s (at - 2) empty_val far) (omega (arith, s.few))
      (ap (after_step WentOn)
      (ap (λ (i : ℕ). put_top (put_value (laid w h c) i empty_val) (moved_to (popped (head_with h c)) to)) {y = at - 2}
      (top-is 1 ∙ omega (arith, e))
      ∙ written (at - 2) empty_val (cursor to (c.pending - 1)) far
      (ap (λ (g : Head). moved_to g to) (head-popped h c m s.few) ∙ head-moved h (cursor c.place (c.pending - 1))
      to)))
      q

  pub covers : c.place < 65536 → 2 ≤ c.pending → (v : Val) {at : ℕ} {w' w'' : List ℕ} → at ≡ 48 + 48 * h.frames + 2 *
      c.pending
      → w' ≡ put_value w (at - 2) empty_val → w'' ≡ put_value w' (at - 4) v
      → CursorWent (after_step WentOn (over_two (laid w h c) (head_with h c) v)) (Only (c.place + 1)) h w'' (cursor
      (c.place + 1) (c.pending - 1))
  unfolding over_two
  covers l m v {at} e q q' =
      let far : 64 ≤ at - 4 = omega (arith, e, m, s.least) in
      let us = put_value w (at - 2) empty_val in
      let one : top_at (head_with h c) 1 ≡ at - 2 = top-is 1 ∙ omega (arith, e) in
      let two : top_at (head_with h c) 2 ≡ at - 4 = top-is 2 ∙ omega (arith, e) in
      done (c.place + 1) (c.pending - 1) (steady-put (steady-put s (at - 2) empty_val (omega (arith, far))) (at - 4) v
      far) (omega (arith, s.few))
      (ap (after_step WentOn)
      (ap₂ (λ (i j : ℕ). put_top (put_value (put_value (laid w h c) i empty_val) j v) (stepped (popped (head_with h c)))) one
      two
      ∙ ap₂ put_top
      (ap (λ (u : List ℕ). put_value u (at - 4) v) (put-far h c s.most w (at - 2) empty_val (omega (arith, far))) ∙
      put-far h c s.most us (at - 4) v far)
      (ap stepped (head-popped h c (omega (arith, m)) s.few) ∙ head-stepped h (cursor c.place (c.pending - 1)) l)
      ∙ laid-again h c s.most (put_value us (at - 4) v) (cursor (c.place + 1) (c.pending - 1))))
      (q' ∙ ap (λ (u : List ℕ). put_value u (at - 4) v) q)

  pub stores : c.place < 65536 → (a : ℕ) (v : Val) {at : ℕ} {w' : List ℕ} → at ≡ 16 + 48 * h.frames + 2 * a → w' ≡
      put_value w at v
      → CursorWent (after_step WentOn (in_slot (laid w h c) (head_with h c) a v)) (Only (c.place + 1)) h w' (cursor
      (c.place + 1) c.pending)
  unfolding in_slot
  stores l a v {at} e q =
      let far : 64 ≤ at = omega (arith, e, s.least) in
      done (c.place + 1) c.pending (steady-put s at v far) s.few
      (ap (after_step WentOn)
      (ap (λ (i : ℕ). put_top (put_value (laid w h c) i v) (stepped (head_with h c))) {y = at} (slot_is a ∙ omega (
        arith,
        e,
      ))
      ∙ written at v (cursor (c.place + 1) c.pending) far (head-stepped h c l)))
      q

  pub jumps_to : (p : List ℕ) (a : ℕ) {offset : ℕ} {w' : List ℕ} → offset ≡ offset_of p h.method → w' ≡ w
      → CursorWent (jump_op p (laid w h c) (head_with h c) a) (Only (offset + a)) h w' (cursor (offset + a) c.pending)
  unfolding jump_op target_of head_with
  jumps_to p a {offset} o q =
      done (offset + a) c.pending s s.few
      (ap (after_step WentOn)
      (ap (put_top (laid w h c)) (head-moved h c (offset_of p (head_with h c).method + a) ∙ ap (λ (i : ℕ). head_with h
      (cursor (i + a) c.pending)) (method-is ∙ sym o))
      ∙ laid-again h c s.most w (cursor (offset + a) c.pending)))
      q
    where
      method-is : offset_of p (head_with h c).method ≡ offset_of p h.method
      method-is = refl

  -- DROP goes on to the next place
  pub drops-on : c.place < 65536 → 1 ≤ c.pending → drop_top (laid w h c) (head_with h c) ≡ drop_to (laid w h c) (head_with
      h c) (c.place + 1)
  unfolding drop_top drop_to
  drops-on l m =
      ap (put_top (put_value (laid w h c) (top_at (head_with h c) 1) empty_val))
      (ap stepped (head-popped h c m s.few) ∙ head-stepped h (cursor c.place (c.pending - 1)) l
      ∙ sym (ap (λ (g : Head). moved_to g (c.place + 1)) (head-popped h c m s.few) ∙ head-moved h (cursor c.place
      (c.pending - 1)) (c.place + 1)))
