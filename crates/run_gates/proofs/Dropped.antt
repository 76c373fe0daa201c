-- Two values off at once: the head that would stand between the two is not seen.
use Prim.Native.Nat.{ℕ, ◌+◌, ◌*◌, ◌-◌, ◌<◌}
use mathlib.Core.Path.{◌≡◌, refl, sym, ◌∙◌, ap, ap₂}
use mathlib.Core.List.{List}
use native.Mathlib.Omega.{arith}
use Rattle.run_store.specs.declared.values.Val.{Val}
use Rattle.run_store.specs.declared.head.Head.{Head}
use Rattle.run_store.specs.StoreCode.{put_value, head_at, put_top, top_at, moved_to, stepped, popped}
use Rattle.run_store.proofs.Laws.{top-twice}
use Rattle.run_values.specs.ValuesCode.{empty_val, drop_top, drop_to}
use Rattle.run_gates.specs.GatesCode.{drop_two}

-- pending values stand after the heads of the frames
head-before-top : (h : Head) → head_at h.frames + 2 < top_at (popped h) 1
unfolding head_at top_at popped
head-before-top h = go h.frames (popped h).pending
  where
    go : (f p : ℕ) → 4 + 4 * f + 2 < 48 + 48 * f + 2 * p - 2 * 1
    go f p = omega arith

off-twice : (w : List ℕ) (h : Head)
    → put_top (put_value (put_value w (top_at h 1) empty_val) (top_at (popped h) 1) empty_val) (stepped (popped (popped h)))
    ≡ drop_two w h
unfolding drop_two drop_top drop_to moved_to stepped popped
off-twice w h =
    sym
    (top-twice (put_value w (top_at h 1) empty_val) (moved_to (popped h) h.place) (stepped (popped (popped h)))
    (top_at (popped h) 1) empty_val refl (head-before-top h))

pub two-dropped : (w : List ℕ) (h : Head) {deeper last next : Head} {a b : ℕ} {v v' : Val} {w₁ w₂ w₃ : List ℕ}
    → deeper ≡ popped h
    → a ≡ top_at h 1 → v ≡ empty_val → w₁ ≡ put_value w a v → b ≡ top_at deeper 1 → v' ≡ empty_val → w₂ ≡ put_value w₁ b v'
    → last ≡ popped deeper → next ≡ stepped last → w₃ ≡ put_top w₂ next → w₃ ≡ drop_two w h
two-dropped w h {b = b} {w₁ = w₁} {w₂ = w₂} d a v p b' v' q l n r =
    r
    ∙ ap₂ put_top
    (q
    ∙ ap (put_value w₁ b) v'
    ∙ ap₂ (λ (l : List ℕ) (i : ℕ). put_value l i empty_val) (p ∙ ap₂ (put_value w) a v)
    (b' ∙ ap (λ (g : Head). top_at g 1) d))
    (n ∙ ap stepped (l ∙ ap popped d))
    ∙ off-twice w h
