-- CALL and RET on the words of a process, step by step as they are done.
use Prim.Native.Nat.{ℕ, ◌+◌, ◌*◌, ◌%◌, ◌-◌, ◌≤◌, ◌<◌}
use mathlib.Core.Path.{◌≡◌, refl, sym, ◌∙◌, ap, ap₂}
use mathlib.Core.Bool.{Bool, true, false, ◌||◌, true≢false}
use mathlib.Core.List.{List}
use native.Mathlib.Omega.{arith}
use lib.ListN.{get_or, length, length-set}
use lib.Seq.{get_or-set_same}
use lib.Dec.{eqb, ltb}
use borrow.Author.Tests.{lt-leb, ne_eqb, ltb-false}
use Rattle.lists.proofs.Tests.{took, passed-by}
use Rattle.table.specs.Table.{params_of, return_of}
use Rattle.run_store.specs.declared.values.Val.{Val}
use Rattle.run_store.specs.declared.head.Head.{Head}
use Rattle.run_store.specs.StoreCode.{value_at, head_of, head_at, top_at, put_top, stepped, pushed, less_by, empty_down, moved_down, cleared_from}
use Rattle.run_values.specs.ValuesCode.{AfterStep, after_step}
use Rattle.run_values.specs.declared.steps.StepResult.TheVariants.{WentOn}
use Rattle.run_values.proofs.Returns.{full-goes}
use Rattle.run_ops.specs.OpsCode.{frame_at, begun, opened, closed, handed, call_op, ret_op}
use Rattle.run_frames.specs.FramesCode.{Does}

-- the op was done, or nothing was
pub was-done : {d : AfterStep} {w w' : List ℕ} → after_step WentOn w' ≡ d → Does true d w w'
was-done e = record { done = λ z. sym e; left = λ z. absurd (true≢false z) }

pub was-left : {d : AfterStep} {w w' : List ℕ} → w' ≡ w → Does false d w w'
was-left e = record { done = λ z. absurd (true≢false (sym z)); left = λ z. e }

-- what was tested of the arguments' number
pub arguments-fit : (m n : ℕ) → (ltb m n || ltb 8 n) ≡ false → (n ≤ m) × (n ≤ 8)
arguments-fit m n e = go (ltb m n) (ltb 8 n) refl refl e
  where
    go : (a b : Bool) → ltb m n ≡ a → ltb 8 n ≡ b → (a || b) ≡ false → (n ≤ m) × (n ≤ 8)
    go true b x y z = absurd (true≢false z)
    go false true x y z = absurd (true≢false z)
    go false false x y z = (ltb-false m n x, ltb-false 8 n y)

top_one : (h : Head) → 46 + 48 * h.frames + 2 * h.pending ≡ top_at h 1
unfolding top_at
top_one h = omega arith

pub left-frames : (h : Head) (n : ℕ) {g g' : Head} → h.frames ≤ 8 → g ≡ less_by h n → g' ≡ stepped g → g'.frames ≤ 8
unfolding less_by stepped
left-frames h n l e q = omega (arith, ap (λ (x : Head). x.frames) q, ap (λ (x : Head). x.frames) e, l)

-- CALL: the arguments moved, the caller's head put back, the frame begun
pub calls : (p w : List ℕ) (h : Head) (a : ℕ) {n : ℕ} {b : Bool} → n ≡ params_of p a → h.frames < 8 → b ≡ empty_down w
    (46 + 48 * h.frames + 2 * h.pending) n
    → b ≡ false → {w₁ w₂ w₃ : List ℕ} → w₁ ≡ moved_down w (46 + 48 * h.frames + 2 * h.pending) (16 + 48 * (h.frames +
    1)) n n
    → {g g' : Head} → g ≡ less_by h n → g' ≡ stepped g → w₂ ≡ put_top w₁ g' → w₃ ≡ begun p w₂ (h.frames + 1) a →
    after_step WentOn w₃ ≡ call_op p w h a
unfolding call_op opened frame_at
calls p w h a {n} e l q z {w₁} q₁ less on q₂ q₃ =
    passed-by _ _ _ (q ∙ ap₂ (empty_down w) top e) z
    (passed-by _ _ _ refl (lt-leb 8 h.frames l)
    (ap (after_step WentOn)
    (q₃ ∙ ap (λ (u : List ℕ). begun p u (h.frames + 1) a)
    (q₂ ∙ ap (put_top w₁) (on ∙ ap stepped less) ∙ ap₂ (λ (u : List ℕ) (k : ℕ). put_top u (stepped (less_by h k)))
    (q₁ ∙ ap₂ (λ (i k : ℕ). moved_down w i (16 + 48 * (h.frames + 1)) k k) top e) e))))
  where
    top : 46 + 48 * h.frames + 2 * h.pending ≡ top_at h 1
    top = top_one h

-- a frame less is counted after one is closed
pub closed-count : (w : List ℕ) (h : Head) {u : List ℕ} → 2 ≤ h.frames → h.frames ≤ 8 → u ≡ closed w h → length u ≡
    512 → get_or u 2 0 ≤ 8
unfolding closed
closed-count w h {u} l m e long =
    let rest = cleared_from (cleared_from w (frame_at h.frames) 48) (head_at h.frames) 3 in
    let x = (h.frames + 4294967295) % 4294967296 in
    let there : 2 < length rest = omega (arith, long, ap length e, length-set rest 2 x) in
    let down : x ≡ h.frames - 1 = omega (arith, l, m) in
    omega (arith, ap (λ (v : List ℕ). get_or v 2 0) e, get_or-set_same rest 2 x 0 there, down, m)

pub pushed-frames : (w : List ℕ) {h g : Head} → h ≡ head_of w → g ≡ pushed h → get_or w 2 0 ≤ 8 → g.frames ≤ 8
unfolding head_of pushed
pushed-frames w e q l = omega (arith, ap (λ (x : Head). x.frames) q, ap (λ (x : Head). x.frames) e, l)

-- RET of a frame that is not the root
module _ (p w : List ℕ) (h : Head) (l : 2 ≤ h.frames) where
  other : eqb h.frames 1 ≡ false
  other = ne_eqb h.frames 1 (λ e. omega (arith, l, e))

  pub returns-nothing : {b : Bool} {w₁ : List ℕ} → b ≡ eqb (return_of p h.method) 0 → b ≡ true → w₁ ≡ closed w h →
      after_step WentOn w₁ ≡ ret_op p w h
  unfolding ret_op
  returns-nothing e z q = took _ _ _ e z (passed-by _ _ _ refl other (ap (after_step WentOn) q))

  pub returns-value : {b : Bool} {v : Val} {w₁ w₂ : List ℕ} → b ≡ eqb (return_of p h.method) 0 → b ≡ false → v ≡
      value_at w (top_at h 1) → (v.tag ≡ 0 → ⊥)
      → w₁ ≡ closed w h → w₂ ≡ handed w₁ v → after_step WentOn w₂ ≡ ret_op p w h
  unfolding ret_op
  returns-value e z t full q₁ q₂ =
      passed-by _ _ _ e z (full-goes _ _ _ t full (passed-by _ _ _ refl other (ap (after_step WentOn) (q₂ ∙ ap₂ handed q₁
      t))))
