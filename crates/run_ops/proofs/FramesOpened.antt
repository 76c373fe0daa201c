-- CALL and RET open and close a frame at the end of the process's words.
use Prim.Native.Nat.{ℕ, zero, suc, ◌+◌, ◌*◌, ◌-◌, ◌%◌, ◌≤◌, ◌<◌}
use mathlib.Core.Path.{◌≡◌, refl, sym, ◌∙◌, ap, ap₂}
use mathlib.Core.List.{List, [], ◌∷◌, ◌++◌, reverse, append_assoc, reverse-append, flatten}
use native.Mathlib.Nat.{mod-eq_of_lt, add-mod_right, le_of_suc-le, le_of_suc-le-suc, not-suc-le-zero, sub-zero}
use lib.Seq.{set_at, take-suc, take-append-add, length-take-le, drop-cons}
use native.Mathlib.Omega.{arith}
use lib.ListN.{get_or, set, take, drop, length, replicate, length-append, length-replicate, length-set, length-reverse, length-drop, replicate-append-replicate}
use Rattle.table.specs.Table.{offset_of}
use Rattle.machine.specs.Value.{Value, empty}
use Rattle.machine.specs.State.{Frame, Config, at_place, with_pending, push, started}
use Rattle.machine.specs.Entry.{runs}
use Rattle.machine.proofs.Reachable.{Stack, stacked}
use Rattle.layout.specs.Layout.{padded, value_words, head_words, frame_values, process_words}
use Rattle.layout.proofs.Frames.{tag_of, number_of, write, frame-slot-set, frame-pop, frame-pending-get, frame-size}
use Rattle.layout.proofs.Process.{Fitting, heads_below, values_below, process-fitting, below-heads, below-values}
use Rattle.layout.proofs.Whole.{whole, process-whole, whole-zeros, whole-count, whole-head, whole-value, whole-get, last-head-set, last-value-set, mid-set, mid-get}
use Rattle.run_store.specs.declared.values.Val.{Val}
use Rattle.run_store.specs.declared.head.Head.{Head}
use Rattle.run_store.specs.StoreCode.{value_at, put_value, head_at, put_top, top_at, stepped, pushed, less_by, move_one, moved_down, cleared_from}
use Rattle.run_store.proofs.Cleared.{blank, blank-all, values-cleared, heads-cleared}
use Rattle.run_values.specs.ValuesCode.{empty_val}
use Rattle.run_ops.specs.OpsCode.{frame_at, begun, opened, closed, handed}
use Rattle.run_store.proofs.Vals.{val_of}
use Rattle.run_values.proofs.Places.{head_in, head-is, place-small, push-back}

-- RET

blank-head : (f : Frame) → blank 3 (head_words f) ≡ replicate 4 0
unfolding blank head_words
blank-head f = refl

module _ {p : List ℕ} {c : Config} {f g : Frame} {gs : List Frame} (stack : Stack p c f (g ∷ gs)) where
  fits-top : Fitting (length (g ∷ gs)) (heads_below (g ∷ gs)) (head_words f) (values_below (g ∷ gs)) (frame_values f)
  fits-top = process-fitting p c f (g ∷ gs) stack.sound stack.deep

  -- the words with the frame f closed
  pub closed-words : closed (process_words (runs (f ∷ g ∷ gs))) (head_in f (g ∷ gs)) ≡ process_words (runs (g ∷ gs))
  unfolding closed frame_at head_at head_words
  closed-words =
      ap
      (λ (w : List ℕ). set
      (cleared_from (cleared_from w (16 + 48 * suc (suc (length gs))) 48) (4 + 4 * suc (suc (length gs))) 3) 2
      ((suc (suc (length gs)) + 4294967295) % 4294967296))
      (process-whole f (g ∷ gs))
      ∙ ap
      (λ (w : List ℕ). set (cleared_from w (4 + 4 * suc (suc (length gs))) 3) 2
      ((suc (suc (length gs)) + 4294967295) % 4294967296))
      (values-cleared (suc (suc (length gs))) (HB ++ head_words f) VB (frame_values f) (16 + 48 * suc (suc (length gs)))
      48
      heads-fit values-fit (omega (arith, fits-top.frame_long)) (omega (arith, fits-top.values_long))
      ∙ ap (λ (l : List ℕ). whole (suc (suc (length gs))) (HB ++ head_words f) (VB ++ l))
      (blank-all (frame_values f) 48 fits-top.frame_long))
      ∙ ap (λ (w : List ℕ). set w 2 ((suc (suc (length gs)) + 4294967295) % 4294967296))
      (heads-cleared (suc (suc (length gs))) HB (head_words f) (VB ++ replicate 48 0) (4 + 4 * suc (suc (length gs))) 3
      heads-fit zeros-fit (omega arith) (omega (arith, fits-top.heads_long))
      ∙ ap (λ (l : List ℕ). whole (suc (suc (length gs))) (HB ++ l) (VB ++ replicate 48 0)) head-blank)
      ∙ whole-count (suc (suc (length gs))) (HB ++ replicate 4 0) (VB ++ replicate 48 0) blank-fit zeros-fit
      ((suc (suc (length gs)) + 4294967295) % 4294967296)
      ∙ ap (λ (n : ℕ). whole n (HB ++ replicate 4 0) (VB ++ replicate 48 0)) count
      ∙ whole-zeros (suc (length gs)) HB VB 4 48 (omega (arith, fits-top.heads_long, stack.deep))
      (omega (arith, fits-top.values_long, stack.deep))
      ∙ ap₂ (whole (suc (length gs))) (below-heads g gs) (below-values g gs)
      ∙ sym (process-whole g gs)
    where
      HB : List ℕ
      HB = heads_below (g ∷ gs)

      VB : List ℕ
      VB = values_below (g ∷ gs)

      heads-fit : length (HB ++ head_words f) ≤ 56
      heads-fit = omega (arith, length-append HB (head_words f), fits-top.heads_long, fits-top.head_long, stack.deep)

      values-fit : length (VB ++ frame_values f) ≤ 448
      values-fit =
          omega (arith, length-append VB (frame_values f), fits-top.values_long, fits-top.frame_long, stack.deep)

      zeros-fit : length (VB ++ replicate 48 0) ≤ 448
      zeros-fit =
          omega
          (arith, length-append VB (replicate 48 0), fits-top.values_long, length-replicate {A = ℕ} 48 0, stack.deep)

      blank-fit : length (HB ++ replicate 4 0) ≤ 56
      blank-fit =
          omega
          (arith, length-append HB (replicate 4 0), fits-top.heads_long, length-replicate {A = ℕ} 4 0, stack.deep)

      head-blank : blank 3 (head_words f) ≡ replicate 4 0
      head-blank = blank-head f

      count : (suc (suc (length gs)) + 4294967295) % 4294967296 ≡ suc (length gs)
      count =
          ap (λ (n : ℕ). n % 4294967296) {x = suc (suc (length gs)) + 4294967295} {y = suc (length gs) + 4294967296}
          (omega arith)
          ∙ add-mod_right (suc (length gs)) 4294967296
          ∙ mod-eq_of_lt (omega (arith, stack.deep))

  -- a value handed to the frame g
  pub handed-words : (v : Value) → length g.pending < 8
      → handed (process_words (runs (g ∷ gs))) (val_of v) ≡ process_words (runs (push v g ∷ gs))
  unfolding handed
  handed-words v h =
      ap (λ (k : Head). put_top (put_value (process_words (runs (g ∷ gs))) (top_at k 0) (val_of v)) (pushed k))
      (head-is (stacked stack.kept stack.sound.1 shallow))
      ∙ at_once
    where
      shallow : length gs < 8
      shallow = omega (arith, stack.deep)

      at_once :
          put_top (put_value (process_words (runs (g ∷ gs))) (top_at (head_in g gs) 0) (val_of v)) (pushed (head_in g gs))
          ≡ process_words (runs (push v g ∷ gs))
      at_once = push-back (stacked stack.kept stack.sound.1 shallow) v h

-- CALL

-- a value written in the last stretch of the values, and in the one before it
write-last : (n : ℕ) (heads values vs : List ℕ) (i j : ℕ) (v : Value) → length heads ≤ 56 → length (values ++ vs) ≤ 448
    → j + 1 < length vs
    → i ≡ 64 + (length values + j)
    → put_value (whole n heads (values ++ vs)) i (val_of v) ≡ whole n heads (values ++ write vs j v)
unfolding put_value val_of write
write-last n heads values vs i j v hs vl h e =
    ap (λ (l : List ℕ). set l (i + 1) (number_of v))
    (last-value-set n heads values vs i j (tag_of v) hs vl (omega arith) e)
    ∙ last-value-set n heads values (set vs j (tag_of v)) (i + 1) (j + 1) (number_of v) hs
    (omega (arith, vl, length-append values vs, length-append values (set vs j (tag_of v)), length-set vs j (tag_of v)))
    (omega (arith, length-set vs j (tag_of v), h)) (omega (arith, e))

write_mid : (n : ℕ) (heads xs ys zs : List ℕ) (i j : ℕ) (v : Value) → length heads ≤ 56
    → length ((xs ++ ys) ++ zs) ≤ 448 → j + 1 < length ys
    → i ≡ 64 + (length xs + j)
    → put_value (whole n heads ((xs ++ ys) ++ zs)) i (val_of v) ≡ whole n heads ((xs ++ write ys j v) ++ zs)
unfolding put_value val_of write
write_mid n heads xs ys zs i j v hs vl h e =
    ap (λ (l : List ℕ). set l (i + 1) (number_of v))
    (whole-value n heads ((xs ++ ys) ++ zs) hs vl i (length xs + j) (tag_of v)
    (omega (arith, length-append (xs ++ ys) zs, length-append xs ys)) e
    ∙ ap (whole n heads) (mid-set xs ys zs (length xs) j (tag_of v) refl (omega arith)))
    ∙ whole-value n heads ((xs ++ set ys j (tag_of v)) ++ zs) hs long (i + 1) (length xs + (j + 1)) (number_of v)
    (omega (
      arith,
      h,
      length-append (xs ++ set ys j (tag_of v)) zs,
      length-append xs (set ys j (tag_of v)),
      length-set ys j
          (tag_of v),
    )) (omega (arith, e))
    ∙ ap (whole n heads)
    (mid-set xs (set ys j (tag_of v)) zs (length xs) (j + 1) (number_of v) refl
    (omega (arith, length-set ys j (tag_of v), h)))
  where
    long : length ((xs ++ set ys j (tag_of v)) ++ zs) ≤ 448
    long =
        omega (
          arith,
          vl,
          length-append (xs ++ set ys j (tag_of v)) zs,
          length-append xs (set ys j (tag_of v)),
          length-set ys j
              (tag_of v),
          length-append (xs ++ ys) zs,
          length-append xs ys,
        )

-- a value read there
value_mid : (n : ℕ) (heads xs ys zs : List ℕ) (i j : ℕ) (v : Value) → length heads ≤ 56
    → length ((xs ++ ys) ++ zs) ≤ 448 → j + 1 < length ys
    → i ≡ 64 + (length xs + j) → get_or ys j 0 ≡ tag_of v → get_or ys (j + 1) 0 ≡ number_of v
    → value_at (whole n heads ((xs ++ ys) ++ zs)) i ≡ val_of v
unfolding value_at val_of
value_mid n heads xs ys zs i j v hs vl h e t m = λ k. record {
  tag =
      (whole-get n heads ((xs ++ ys) ++ zs) hs vl i (length xs + j)
      (omega (arith, length-append (xs ++ ys) zs, length-append xs ys)) e
      ∙ mid-get xs ys zs (length xs) j refl (omega arith) ∙ t) k;
  number =
      (whole-get n heads ((xs ++ ys) ++ zs) hs vl (i + 1) (length xs + (j + 1))
      (omega (arith, length-append (xs ++ ys) zs, length-append xs ys, h)) (omega (arith, e))
      ∙ mid-get xs ys zs (length xs) (j + 1) refl h ∙ m) k;
}

-- a frame with empty slots and nothing pending has words 0
blank-frame : (m i : ℕ)
    → replicate 48 0 ≡ frame_values (record { method = m; place = i; slots = replicate 16 empty; pending = [] })
unfolding frame_values padded value_words flatten
blank-frame m i = refl

take-replicate : (m n : ℕ) → m ≤ n → ◌≡◌ {A = List Value} (take m (replicate n empty)) (replicate m empty)
take-replicate zero n h = refl
take-replicate (suc m) zero h = absurd (not-suc-le-zero h)
take-replicate (suc m) (suc n) h = ap {B = List Value} (λ l. empty ∷ l) (take-replicate m n (le_of_suc-le-suc h))

-- the slots once the top j of n arguments are moved
args_after : List Value → ℕ → ℕ → List Value
args_after vs n zero = replicate 16 empty
args_after vs n (suc j) = set (args_after vs n j) (n - suc j) (get_or vs j empty)

args-long : (vs : List Value) (n j : ℕ) → length (args_after vs n j) ≡ 16
unfolding args_after
args-long vs n zero = refl
args-long vs n (suc j) = length-set (args_after vs n j) (n - suc j) (get_or vs j empty) ∙ args-long vs n j

-- they are the arguments in their order, and empty slots before and caller_after
args_are : (vs : List Value) (n j : ℕ) → n ≤ 8 → n ≤ length vs → j ≤ n
    → args_after vs n j ≡ replicate (n - j) empty ++ (reverse (take j vs) ++ replicate (16 - n) empty)
unfolding args_after
args_are vs n zero small enough h =
    sym
    (ap (λ (k : ℕ). replicate k empty ++ replicate (16 - n) empty) (sub-zero n)
    ∙ replicate-append-replicate n (16 - n) empty
    ∙ ap (λ (k : ℕ). replicate k empty) {x = n + (16 - n)} {y = 16} (omega arith))
args_are vs n (suc j) small enough h =
    ap (λ (l : List Value). set l (n - suc j) (get_or vs j empty))
    (args_are vs n j small enough (le_of_suc-le h) ∙ opened_up)
    ∙ set_at (replicate (n - suc j) empty) empty (reverse (take j vs) ++ replicate (16 - n) empty) (get_or vs j empty)
    (n - suc j) (length-replicate (n - suc j) empty)
    ∙ ap (λ (l : List Value). replicate (n - suc j) empty ++ (l ++ replicate (16 - n) empty)) reversed
  where
    opened_up : replicate (n - j) empty ++ (reverse (take j vs) ++ replicate (16 - n) empty)
        ≡ replicate (n - suc j) empty ++ (empty ∷ (reverse (take j vs) ++ replicate (16 - n) empty))
    opened_up =
        ap (λ (k : ℕ). replicate k empty ++ (reverse (take j vs) ++ replicate (16 - n) empty)) {x = n - j}
        {y = n - suc j + 1} (omega arith)
        ∙ ap (λ (l : List Value). l ++ (reverse (take j vs) ++ replicate (16 - n) empty))
        (sym (replicate-append-replicate (n - suc j) 1 empty))
        ∙ append_assoc (replicate (n - suc j) empty) (empty ∷ []) (reverse (take j vs) ++ replicate (16 - n) empty)

    reversed : ◌≡◌ {A = List Value} (get_or vs j empty ∷ reverse (take j vs)) (reverse (take (suc j) vs))
    reversed =
        sym
        (ap reverse (take-suc vs j empty (omega (arith, h, enough)))
        ∙ reverse-append (take j vs) (get_or vs j empty ∷ []))

-- the slots of the frame that a call starts
args-started : (vs : List Value) (n : ℕ) → n ≤ 8 → n ≤ length vs
    → args_after vs n n ≡ take 16 (reverse (take n vs) ++ replicate 16 empty)
args-started vs n small enough =
    args_are vs n n small enough (omega arith)
    ∙ ap (λ (k : ℕ). replicate k empty ++ (reverse (take n vs) ++ replicate (16 - n) empty)) {x = n - n} {y = 0}
    (omega arith)
    ∙ ap (λ (l : List Value). reverse (take n vs) ++ l) (sym (take-replicate (16 - n) 16 (omega arith)))
    ∙ sym (take-append-add (reverse (take n vs)) (replicate 16 empty) (16 - n))
    ∙ ap (λ (k : ℕ). take k (reverse (take n vs) ++ replicate 16 empty)) total
  where
    total : length (reverse (take n vs)) + (16 - n) ≡ 16
    total = omega (arith, length-reverse (take n vs), length-take-le n vs enough)

module _ {p : List ℕ} {c : Config} {f : Frame} {fs : List Frame} (stack : Stack p c f fs)
    (room : suc (length fs) < 8) (m n : ℕ) (small : n ≤ 8) (enough : n ≤ length f.pending) where
  fits-frame : Fitting (length fs) (heads_below fs) (head_words f) (values_below fs) (frame_values f)
  fits-frame = process-fitting p c f fs stack.sound stack.deep

  -- the caller and the new frame once j arguments are moved
  caller : ℕ → Frame
  caller j = with_pending (drop j f.pending) f

  callee : ℕ → Frame
  callee j = record { method = m; place = offset_of p m; slots = args_after f.pending n j; pending = [] }

  abbrev state : ℕ → List ℕ
  state j =
      whole (suc (length fs)) ((heads_below fs ++ head_words f) ++ replicate 4 0)
      ((values_below fs ++ frame_values (caller j)) ++ frame_values (callee j))

  caller-long : (j : ℕ) → length (frame_values (caller j)) ≡ 48
  unfolding caller
  caller-long j =
      frame-size (caller j) stack.sound.0.width
      (omega (arith, length-drop j f.pending, stack.sound.0.height))

  callee-long : (j : ℕ) → length (frame_values (callee j)) ≡ 48
  unfolding callee
  callee-long j = frame-size (callee j) (args-long f.pending n j) (omega arith)

  -- how far the heads and the values reach
  heads-long : length ((heads_below fs ++ head_words f) ++ replicate 4 0) ≡ 4 * length fs + 8
  heads-long =
      length-append (heads_below fs ++ head_words f) (replicate 4 0)
      ∙ omega (
        arith,
        length-append (heads_below fs) (head_words f),
        fits-frame.heads_long,
        fits-frame.head_long,
        length-replicate
            {A = ℕ} 4 0,
      )

  values-long : (j : ℕ)
      → length ((values_below fs ++ frame_values (caller j)) ++ frame_values (callee j)) ≡ 48 * length fs + 96
  values-long j =
      length-append (values_below fs ++ frame_values (caller j)) (frame_values (callee j))
      ∙ omega (
        arith,
        length-append (values_below fs) (frame_values (caller j)),
        fits-frame.values_long,
        caller-long j,
        callee-long j,
      )

  -- the process's words, with the new frame's words among the padding
  state-first : process_words (runs (f ∷ fs)) ≡ state 0
  unfolding caller callee args_after
  state-first =
      process-whole f fs
      ∙ sym (whole-zeros (suc (length fs)) (heads_below fs ++ head_words f) (values_below fs ++ frame_values f) 4 48
      (omega (arith, length-append (heads_below fs) (head_words f), fits-frame.heads_long, fits-frame.head_long, room))
      (omega (
        arith,
        length-append (values_below fs) (frame_values f),
        fits-frame.values_long,
        fits-frame.frame_long,
        room,
      )))
      ∙ ap
      (λ (l : List ℕ). whole (suc (length fs)) ((heads_below fs ++ head_words f) ++ replicate 4 0)
      ((values_below fs ++ frame_values f) ++ l)) (blank-frame m (offset_of p m))

  -- one argument moved
  moved-one : (j : ℕ) → j < n
      → move_one (state j) (top_at (head_in f fs) 1 - 2 * j) (frame_at (suc (length fs) + 1) + 2 * (n - suc j)) ≡ state
      (suc j)
  unfolding move_one top_at frame_at caller callee args_after val_of tag_of number_of value_words
  moved-one j h =
      ap (λ (v : Val). put_value (put_value (state j) to v) from empty_val) read
      ∙ ap (λ (l : List ℕ). put_value l from empty_val)
      (write-last (suc (length fs)) heads (values_below fs ++ frame_values (caller j)) (frame_values (callee j)) to
      (2 * (n - suc j)) (get_or f.pending j empty)
      heads-fit (values-fit j) (omega (arith, callee-long j, small)) to_is
      ∙ ap (λ (l : List ℕ). whole (suc (length fs)) heads ((values_below fs ++ frame_values (caller j)) ++ l)) slotted)
      ∙ write_mid (suc (length fs)) heads (values_below fs) (frame_values (caller j)) (frame_values (callee (suc j))) from
      (32 + 2 * length (drop (suc j) f.pending)) empty
      heads-fit
      (omega (
        arith,
        length-append (values_below fs ++ frame_values (caller j)) (frame_values (callee (suc j))),
        length-append
            (values_below fs) (frame_values (caller j)),
        fits-frame.values_long,
        caller-long j,
        callee-long (suc j),
        room,
      ))
      (omega (arith, caller-long j, length-drop (suc j) f.pending, stack.sound.0.height, h, enough)) from_is
      ∙ ap (λ (l : List ℕ). whole (suc (length fs)) heads ((values_below fs ++ l) ++ frame_values (callee (suc j))))
      popped-off
    where
      heads : List ℕ
      heads = (heads_below fs ++ head_words f) ++ replicate 4 0

      from : ℕ
      from = top_at (head_in f fs) 1 - 2 * j

      to : ℕ
      to = frame_at (suc (length fs) + 1) + 2 * (n - suc j)

      heads-fit : length heads ≤ 56
      heads-fit = omega (arith, heads-long, room)

      values-fit : (i : ℕ) → length ((values_below fs ++ frame_values (caller i)) ++ frame_values (callee i)) ≤ 448
      values-fit i = omega (arith, values-long i, room)

      left : length (drop j f.pending) ≡ suc (length (drop (suc j) f.pending))
      left = ap length (drop-cons f.pending j empty (omega (arith, h, enough)))

      top-is : get_or (drop j f.pending) 0 empty ≡ get_or f.pending j empty
      top-is = ap (λ (l : List Value). get_or l 0 empty) (drop-cons f.pending j empty (omega (arith, h, enough)))

      from_is : from ≡ 64 + (length (values_below fs) + (32 + 2 * length (drop (suc j) f.pending)))
      from_is = omega (arith, fits-frame.values_long, length-drop (suc j) f.pending, h, enough)

      read : value_at (state j) from ≡ val_of (get_or f.pending j empty)
      read =
          value_mid (suc (length fs)) heads (values_below fs) (frame_values (caller j)) (frame_values (callee j)) from
          (32 + 2 * length (drop (suc j) f.pending)) (get_or f.pending j empty)
          heads-fit (values-fit j)
          (omega (arith, caller-long j, length-drop (suc j) f.pending, stack.sound.0.height, h, enough)) from_is
          (frame-pending-get (caller j) stack.sound.0.width 0 0 (32 + 2 * length (drop (suc j) f.pending))
          (omega (arith, left)) (omega arith) (omega (arith, left))
          ∙ ap (λ (v : Value). tag_of v) top-is)
          (frame-pending-get (caller j) stack.sound.0.width 0 1 (32 + 2 * length (drop (suc j) f.pending) + 1)
          (omega (arith, left)) (omega arith) (omega (arith, left))
          ∙ ap (λ (v : Value). number_of v) top-is)

      to_is : to ≡ 64 + (length (values_below fs ++ frame_values (caller j)) + 2 * (n - suc j))
      to_is =
          omega (arith, length-append (values_below fs) (frame_values (caller j)), fits-frame.values_long, caller-long j)

      slotted :
          write (frame_values (callee j)) (2 * (n - suc j)) (get_or f.pending j empty) ≡ frame_values (callee (suc j))
      slotted =
          frame-slot-set (callee j) (args-long f.pending n j) (n - suc j) (2 * (n - suc j))
          (get_or f.pending j empty) (omega (arith, small, h)) refl

      popped-off :
          write (frame_values (caller j)) (32 + 2 * length (drop (suc j) f.pending)) empty ≡ frame_values
          (caller (suc j))
      popped-off =
          frame-pop (caller j) stack.sound.0.width (32 + 2 * length (drop (suc j) f.pending))
          (get_or f.pending j empty) (drop (suc j) f.pending)
          (drop-cons f.pending j empty (omega (arith, h, enough)))
          (omega (arith, length-drop (suc j) f.pending, stack.sound.0.height, h, enough)) refl

  -- all of them moved
  moved_all : (j : ℕ) → j ≤ n
      → moved_down (process_words (runs (f ∷ fs))) (top_at (head_in f fs) 1) (frame_at (suc (length fs) + 1)) n j ≡ state j
  unfolding moved_down
  moved_all zero h = state-first
  moved_all (suc j) h =
      ap (λ (l : List ℕ). move_one l (top_at (head_in f fs) 1 - 2 * j) (frame_at (suc (length fs) + 1) + 2 * (n - suc j)))
      (moved_all j (le_of_suc-le h))
      ∙ moved-one j h

  -- the caller after its CALL, and the frame called
  abbrev caller_after : Frame
  caller_after = at_place (suc f.place) (with_pending (drop n f.pending) f)

  abbrev called : Frame
  called = started p m (reverse (take n f.pending))

  place-next : (f.place + 1) % 4294967296 ≡ suc f.place
  place-next = mod-eq_of_lt (omega (arith, place-small stack)) ∙ omega arith

  pending-less : (length f.pending + 4294967296 - n) % 4294967296 ≡ length (drop n f.pending)
  pending-less =
      ap (λ (k : ℕ). k % 4294967296) {x = length f.pending + 4294967296 - n}
      {y = length f.pending - n + 4294967296} (omega (arith, enough))
      ∙ add-mod_right (length f.pending - n) 4294967296
      ∙ mod-eq_of_lt (omega (arith, stack.sound.0.height))
      ∙ sym (length-drop n f.pending)

  -- the place is no part of a frame's values
  caller-after : frame_values caller_after ≡ frame_values (caller n)
  unfolding caller frame_values
  caller-after = refl

  -- a head's word written: the caller's, and the new frame's
  set-caller : (hd values : List ℕ) (i j x : ℕ) → length hd ≡ 4 → length values ≤ 448 → j < 4
      → i ≡ 8 + (4 * length fs + j)
      → set (whole (suc (length fs)) ((heads_below fs ++ hd) ++ replicate 4 0) values) i x
      ≡ whole (suc (length fs)) ((heads_below fs ++ set hd j x) ++ replicate 4 0) values
  set-caller hd values i j x four vl h e =
      whole-head (suc (length fs)) ((heads_below fs ++ hd) ++ replicate 4 0) values
      (omega (arith, long, room)) vl i (4 * length fs + j) x (omega (arith, long)) e
      ∙ ap (λ (l : List ℕ). whole (suc (length fs)) l values)
      (mid-set (heads_below fs) hd (replicate 4 0) (4 * length fs) j x fits-frame.heads_long (omega (arith, four)))
    where
      long : length ((heads_below fs ++ hd) ++ replicate 4 0) ≡ 4 * length fs + 8
      long =
          length-append (heads_below fs ++ hd) (replicate 4 0)
          ∙ omega (arith, length-append (heads_below fs) hd, fits-frame.heads_long, four, length-replicate {A = ℕ} 4 0)

  set-callee : (hd new values : List ℕ) (i j x : ℕ) → length hd ≡ 4 → length new ≡ 4 → length values ≤ 448 → j < 4
      → i ≡ 8 + (4 * length fs + 4 + j)
      → set (whole (suc (length fs)) ((heads_below fs ++ hd) ++ new) values) i x ≡ whole (suc (length fs))
      ((heads_below fs ++ hd) ++ set new j x) values
  set-callee hd new values i j x four fresh vl h e =
      last-head-set (suc (length fs)) (heads_below fs ++ hd) new values i j x
      (omega (arith, length-append (heads_below fs ++ hd) new, before, fresh, room)) vl (omega (arith, fresh))
      (omega (arith, e, before))
    where
      before : length (heads_below fs ++ hd) ≡ 4 * length fs + 4
      before = length-append (heads_below fs) hd ∙ omega (arith, fits-frame.heads_long, four)

  -- the count of frames
  count_next : suc (length fs) + 1 ≡ suc (suc (length fs))
  count_next = omega arith

  -- the slots of the frame called
  called-values : frame_values (callee n) ≡ frame_values called
  unfolding callee started
  called-values =
      ap (λ (l : List Value). frame_values (record { method = m; place = offset_of p m; slots = l; pending = [] }))
      (args-started f.pending n small enough)

  pub opened-words :
      opened p (process_words (runs (f ∷ fs))) (head_in f fs) m n ≡ process_words (runs (called ∷ caller_after ∷ fs))
  unfolding opened begun put_top head_at stepped less_by head_words started
  opened-words =
      ap
      (λ (l : List ℕ). set
      (set
      (set (set (set l (4 + 4 * suc (length fs) + 1) place') (4 + 4 * suc (length fs) + 2) pending')
      (4 + 4 * (suc (length fs) + 1)) m) (4 + 4 * (suc (length fs) + 1) + 1) (offset_of p m)) 2 (suc (length fs) + 1))
      (moved_all n (omega arith))
      ∙ ap
      (λ (l : List ℕ). set
      (set (set (set l (4 + 4 * suc (length fs) + 2) pending') (4 + 4 * (suc (length fs) + 1)) m)
      (4 + 4 * (suc (length fs) + 1) + 1) (offset_of p m)) 2 (suc (length fs) + 1))
      (set-caller (head_words f) values (4 + 4 * suc (length fs) + 1) 1 place' refl fit (omega arith) (omega arith))
      ∙ ap
      (λ (l : List ℕ). set
      (set (set l (4 + 4 * (suc (length fs) + 1)) m) (4 + 4 * (suc (length fs) + 1) + 1) (offset_of p m)) 2
      (suc (length fs) + 1))
      (set-caller (f.method ∷ place' ∷ length f.pending ∷ 0 ∷ []) values (4 + 4 * suc (length fs) + 2) 2 pending'
      refl fit (omega arith) (omega arith))
      ∙ ap (λ (l : List ℕ). set (set l (4 + 4 * (suc (length fs) + 1) + 1) (offset_of p m)) 2 (suc (length fs) + 1))
      (set-callee hd' (0 ∷ 0 ∷ 0 ∷ 0 ∷ []) values (4 + 4 * (suc (length fs) + 1)) 0 m refl refl fit (omega arith)
      (omega arith))
      ∙ ap (λ (l : List ℕ). set l 2 (suc (length fs) + 1))
      (set-callee hd' (m ∷ 0 ∷ 0 ∷ 0 ∷ []) values (4 + 4 * (suc (length fs) + 1) + 1) 1 (offset_of p m) refl refl fit
      (omega arith) (omega arith))
      ∙ whole-count (suc (length fs)) ((heads_below fs ++ hd') ++ (m ∷ offset_of p m ∷ 0 ∷ 0 ∷ [])) values
      (omega (arith, heads-fit, room)) fit (suc (length fs) + 1)
      ∙ ap₂ (λ (k : ℕ) (l : List ℕ). whole k ((heads_below fs ++ l) ++ (m ∷ offset_of p m ∷ 0 ∷ 0 ∷ [])) values)
      count_next heads-are
      ∙ ap
      (λ (l : List ℕ). whole (suc (suc (length fs))) ((heads_below fs ++ head_words caller_after) ++ head_words called)
      ((values_below fs ++ frame_values (caller n)) ++ l)) called-values
      ∙ ap₂ (λ (a b : List ℕ). whole (suc (suc (length fs))) (a ++ head_words called) (b ++ frame_values called))
      (sym (below-heads caller_after fs)) (sym (values-below))
      ∙ sym (process-whole called (caller_after ∷ fs))
    where
      place' : ℕ
      place' = (f.place + 1) % 4294967296

      pending' : ℕ
      pending' = (length f.pending + 4294967296 - n) % 4294967296

      hd' : List ℕ
      hd' = f.method ∷ place' ∷ pending' ∷ 0 ∷ []

      values : List ℕ
      values = (values_below fs ++ frame_values (caller n)) ++ frame_values (callee n)

      fit : length values ≤ 448
      fit = omega (arith, values-long n, room)

      heads-fit : length ((heads_below fs ++ hd') ++ (m ∷ offset_of p m ∷ 0 ∷ 0 ∷ [])) ≡ 4 * length fs + 8
      heads-fit =
          length-append (heads_below fs ++ hd') (m ∷ offset_of p m ∷ 0 ∷ 0 ∷ [])
          ∙ omega (arith, length-append (heads_below fs) hd', fits-frame.heads_long)

      heads-are : hd' ≡ head_words caller_after
      heads-are = λ i. f.method ∷ place-next i ∷ pending-less i ∷ 0 ∷ []

      values-below : values_below (caller_after ∷ fs) ≡ values_below fs ++ frame_values (caller n)
      values-below = below-values caller_after fs ∙ ap (λ (l : List ℕ). values_below fs ++ l) caller-after
