-- Plain steps of one process, one after the other.
use Prim.Native.Nat.{ℕ, ◌+◌, ◌*◌, ◌-◌, ◌≤◌, ◌<◌}
use mathlib.Core.Path.{◌≡◌, refl, sym, ◌∙◌, ap, subst}
use mathlib.Core.Bool.{Bool, true, false, ◌||◌, not, true≢false}
use mathlib.Core.List.{List, ◌++◌}
use native.Mathlib.Omega.{arith}
use Rattle.std.specs.Prelude.{Option}
use lib.ListN.{get_or, set, length, length-set, take, drop}
use lib.Seq.{length-take-le, drop_at, take_at}
use borrow.Rule.Slice.PartMut.{mid_of, put_mid}
use borrow.Author.Tests.{ltb-false, leb-false, eqb-true}
use lib.Dec.{eqb, ltb, leb}
use Rattle.table.specs.Table.{word, methods}
use Rattle.table.proofs.Start.{op-there, argument-there}
use Rattle.run_store.specs.declared.head.Head.{Head}
use Rattle.run_store.specs.StoreCode.{head_of, head_at, put_top}
use Rattle.run_ops.specs.OpsCode.{act_op, step_op}
use Rattle.run_ops.proofs.Returns.{step-acts}
use Rattle.run_parts.specs.PartsCode.{part_at, part_of, with_part}
use Rattle.run_parts.proofs.Lifted.{lifted-words, part-lent}
use Rattle.run_parts.proofs.Apart.{part-long}
use Rattle.run_cursor.specs.declared.cursor.Cursor.{Cursor}
use Rattle.run_cursor.specs.CursorCode.{head_with, laid, cursor, HeadFits, CursorStep, CursorWent}
use Rattle.run_frames.specs.FramesCode.{Does}
use Rattle.run_stretch.specs.StretchCode.{Halts, PlainSteps, begins, goes_on}
use Rattle.run_cursor.proofs.Laid.{head-laid, laid-first}
use Rattle.run_cursor.proofs.Shapes.{goes-as}

-- the op by its number
pub by-op : (p w : List ℕ) (h : Head) (a : ℕ) {op n : ℕ} → op ≡ n → act_op p w h op a ≡ act_op p w h n a
by-op p w h a e = ap (λ (o : ℕ). act_op p w h o a) e

-- the step of a process that runs is its op's
pub steps_on : (p : List ℕ) (start : ℕ) {h : Head} {w : List ℕ} {c : Cursor} {op a : ℕ} → HeadFits h w c → h.status ≡ 1
    → start ≡ 2 + 20 * methods p → op ≡ word p (start + 2 * c.place) → a ≡ word p (start + 2 * c.place + 1)
    → (I : ℕ → Type 0) (w' : List ℕ) (r : Option Cursor) → CursorStep (act_op p (laid w h c) (head_with h c) op a) I h w w' r
    → CursorStep (step_op p (laid w h c)) I h w w' r
unfolding head_with
steps_on p start {h} {w} {c} s e b o i I w' r g = goes-as I h w w' r (sym (step-acts p (laid w h c) {h = head_with h c}
    (sym (head-laid s)) e (op-there p start c.place b o) (argument-there p start c.place b i) refl)) g

pub laid-long : {h : Head} {w : List ℕ} {c : Cursor} → HeadFits h w c → length (laid w h c) ≡ 512
unfolding laid put_top head_with
laid-long {h} {w} {c} s =
    length-set (set w (head_at h.frames + 1) c.place) (head_at h.frames + 2) c.pending
    ∙ length-set w (head_at h.frames + 1) c.place
    ∙ s.long

module _ {p schedule : List ℕ} {n from : ℕ} {w₀ : List ℕ} where
  pub ran-up : {k : ℕ} {w : List ℕ} → PlainSteps p schedule n from w₀ k w → from ≤ k
  ran-up begins = omega arith
  ran-up (goes_on q l e long long' s) = omega (arith, ran-up q)

  pub ran-same : {k : ℕ} {w w' : List ℕ} → PlainSteps p schedule n from w₀ k w → w' ≡ w
      → PlainSteps p schedule n from w₀ k w'
  ran-same {k} r e = subst (PlainSteps p schedule n from w₀ k) (sym e) r

  -- one step more at the cursor
  pub ran-step : {k : ℕ} {h : Head} {w w' : List ℕ} {c d : Cursor} → PlainSteps p schedule n from w₀ k (laid w h c) →
      k < length schedule → get_or schedule k 0 ≡ n
      → HeadFits h w c → {I : ℕ → Type 0} → CursorWent (step_op p (laid w h c)) I h w' d
      → PlainSteps p schedule n from w₀ (k + 1) (laid w' h d)
  ran-step r l e s g = goes_on r l e (laid-long s) (laid-long g.steady) g.done

  -- entries and then those after them
  pub ran_then : {k : ℕ} {w : List ℕ} {k' : ℕ} {w' : List ℕ} → PlainSteps p schedule n from w₀ k w
      → PlainSteps p schedule n k w k' w' → PlainSteps p schedule n from w₀ k' w'
  ran_then r begins = r
  ran_then r (goes_on q l e long long' s) = goes_on (ran_then r q) l e long long' s

-- from the words of a process on, and back to them
pub ran-top : {p schedule : List ℕ} {n from k : ℕ} {w w₂ : List ℕ} {h : Head} (w₁ : List ℕ) (c : Cursor) → h ≡ head_of w
    → PlainSteps p schedule n from (laid w h (cursor h.place h.pending)) k (laid w₁ h c)
    → w₂ ≡ put_top w₁ (head_with h c)
    → PlainSteps p schedule n from w k w₂
unfolding laid
ran-top {p} {schedule} {n} {from} {k} {w} {w₂} {h} w₁ c e r q =
    ran-same (subst (λ (v : List ℕ). PlainSteps p schedule n from v k (laid w₁ h c)) (laid-first w e) r) q

pub head-there : (h : Head) (w : List ℕ) (c : Cursor) → HeadFits h w c → head_of (put_top w (head_with h c)) ≡ head_with h c
unfolding laid
head-there h w c s = head-laid s

-- the CALL or RET after them, with the head put back, or nothing
module _ {p schedule : List ℕ} {n from k : ℕ} {w w₂ : List ℕ} {h : Head} {r : Bool} (w₁ : List ℕ) (c : Cursor) (e : h ≡
    head_of w)
    (ran : PlainSteps p schedule n from (laid w h (cursor h.place h.pending)) k (laid w₁ h c)) where
  pub ran-changed : HeadFits h w₁ c → Halts p schedule n h.method k c.place → Does r (step_op p (put_top w₁
      (head_with h c))) (put_top w₁ (head_with h c)) w₂ → length w₂ ≡ 512 → r ≡ true
      → PlainSteps p schedule n from w (k + 1) w₂ × (k + 1 ≤ length schedule) × (from < k + 1)
  unfolding laid
  ran-changed s t d long z = (
    goes_on (ran-top w₁ c e ran refl) t.ahead t.names (laid-long s) long (d.done z),
    omega (arith, t.ahead),
    omega (arith, ran-up ran),
  )

  pub ran-left : Does r (step_op p (put_top w₁ (head_with h c))) (put_top w₁ (head_with h c)) w₂ → r ≡ false
      → PlainSteps p schedule n from w k w₂
  ran-left d z = ran-top w₁ c e ran (d.left z)

-- what was tested of a head
pub frames-fit : (f : ℕ) → (ltb f 1 || ltb 8 f) ≡ false → (1 ≤ f) × (f ≤ 8)
frames-fit f e = go (ltb f 1) (ltb 8 f) refl refl e
  where
    go : (a b : Bool) → ltb f 1 ≡ a → ltb 8 f ≡ b → (a || b) ≡ false → (1 ≤ f) × (f ≤ 8)
    go true b x y z = absurd (true≢false z)
    go false true x y z = absurd (true≢false z)
    go false false x y z = (ltb-false f 1 x, ltb-false 8 f y)

pub head-fits : (x m : ℕ) → (not (eqb x 1) || ltb 8 m) ≡ false → (x ≡ 1) × (m ≤ 8)
head-fits x m e = go (eqb x 1) (ltb 8 m) refl refl e
  where
    go : (a b : Bool) → eqb x 1 ≡ a → ltb 8 m ≡ b → (not a || b) ≡ false → (x ≡ 1) × (m ≤ 8)
    go false b y z i = absurd (true≢false i)
    go true true y z i = absurd (true≢false i)
    go true false y z i = (eqb-true x 1 y, ltb-false 8 m z)

pub frames-read : (w : List ℕ) {h : Head} → h ≡ head_of w → h.frames ≡ get_or w 2 0
unfolding head_of
frames-read w e = ap (λ (g : Head). g.frames) e

-- and of a place
pub place-fits : (i first end : ℕ) → (ltb i first || leb end i) ≡ false → (first ≤ i) × (i < end)
place-fits i first end e = go (ltb i first) (leb end i) refl refl e
  where
    go : (a b : Bool) → ltb i first ≡ a → leb end i ≡ b → (a || b) ≡ false → (first ≤ i) × (i < end)
    go true b x y z = absurd (true≢false z)
    go false true x y z = absurd (true≢false z)
    go false false x y z = (ltb-false i first x, leb-false end i y)

-- parts of the store

pub part_length : (w : List ℕ) (n : ℕ) → n < 8 → 8192 ≤ length w → {first : ℕ} → first ≡ part_at n
    → length (mid_of first (first + 512 - first) w) ≡ 512
part_length w n l long at = ap length (part-lent w n at) ∙ part-long w long n l

module _ (w : List ℕ) (long : 8192 ≤ length w) (n : ℕ) (l : n < 8) where
  front : length (take (part_at n) w) ≡ part_at n
  front = length-take-le (part_at n) w (omega (arith, l, long))

  pub part-back : (ws : List ℕ) → length ws ≡ 512 → part_of (with_part w n ws) n ≡ ws
  unfolding part_of with_part
  part-back ws e =
      ap (take 512) (drop_at (take (part_at n) w) (ws ++ drop 512 (drop (part_at n) w)) (part_at n) front)
      ∙ take_at ws (drop 512 (drop (part_at n) w)) 512 e

  -- the entries of a part that was lent
  pub stretched : {first : ℕ} → first ≡ part_at n → {p schedule : List ℕ} {from k : ℕ} {ys : List ℕ} → length ys ≡ 512
      → PlainSteps p schedule n from (mid_of first (first + 512 - first) w) k ys
      → {v : List ℕ} → v ≡ put_mid first (first + 512 - first) w ys
      → PlainSteps p schedule n from (part_of w n) k (part_of v n) × (v ≡ with_part w n (part_of v n))
  stretched at {p} {schedule} {from} {k} {ys} e r {v} q =
      let put : v ≡ with_part w n ys = q ∙ lifted-words w n at ys (λ us. ys) refl in
      let back : part_of v n ≡ ys = ap (λ (u : List ℕ). part_of u n) put ∙ part-back ys e in (
        ran-same (subst (λ (u : List ℕ). PlainSteps p schedule n from u k ys) (part-lent w n at) r) back,
        put ∙ ap (with_part w n) (sym back),
      )
