-- The topmost values, as they were read.
use Prim.Native.Nat.{ℕ, ◌+◌, ◌*◌, ◌-◌, ◌≤◌}
use mathlib.Core.Path.{◌≡◌, refl, sym, ◌∙◌, ap}
use mathlib.Core.Bool.{Bool, true, false, ◌||◌, true≢false}
use Rattle.std.specs.Prelude.{Some}
use mathlib.Core.List.{List}
use native.Mathlib.Omega.{arith}
use lib.ListN.{get_or}
use lib.Dec.{eqb}
use borrow.Author.Tests.{eqb-false}
use Rattle.run_store.specs.declared.values.Val.{Val}
use Rattle.run_store.specs.declared.head.Head.{Head}
use Rattle.run_store.specs.StoreCode.{value_at, top_at}
use Rattle.run_cursor.specs.declared.cursor.Cursor.{Cursor}
use Rattle.run_cursor.specs.CursorCode.{head_with, TopRead, TwoRead}

neither : (a b : Bool) → (a || b) ≡ false → (a ≡ false) × (b ≡ false)
neither true b z = absurd (true≢false z)
neither false b z = (refl, z)

module _ (h : Head) (w : List ℕ) (c : Cursor) where
  top-there : (n : ℕ) {at : ℕ} → at ≡ 48 + 48 * h.frames + 2 * c.pending → value_at w (top_at (head_with h c) n) ≡
      value_at w (at - 2 * n)
  unfolding top_at head_with
  top-there n e = ap (λ (i : ℕ). value_at w (i - 2 * n)) (sym e)

  pub top_read : 1 ≤ c.pending → {at : ℕ} → at ≡ 48 + 48 * h.frames + 2 * c.pending → (get_or w (at - 2) 0 ≡ 0 → ⊥)
      → TopRead w h c (Some (record { tag = get_or w (at - 2) 0; number = get_or w (at - 2 + 1) 0 }))
  unfolding value_at
  top_read m {at} e z = (m, z, top-there 1 e)

  pub two-read : 2 ≤ c.pending → {at : ℕ} → at ≡ 48 + 48 * h.frames + 2 * c.pending
      → (eqb (get_or w (at - 4) 0) 0 || eqb (get_or w (at - 4 + 2) 0) 0) ≡ false
      → TwoRead w h c (Some (get_or w (at - 4 + 1) 0, get_or w (at - 4 + 3) 0))
  unfolding value_at
  two-read m {at} e z =
      let up : at - 4 + 2 ≡ at - 2 = omega (arith, m, e) in
      let up' : at - 4 + 3 ≡ at - 2 + 1 = omega (arith, m, e) in
      let tests = neither (eqb (get_or w (at - 4) 0) 0) (eqb (get_or w (at - 4 + 2) 0) 0) z in (
        m,
        (λ x. eqb-false (get_or w (at - 4) 0) 0 tests.0 (sym (ap (λ (v : Val). v.tag) (top-there 2 e)) ∙ x)),
        (λ x. eqb-false (get_or w (at - 4 + 2) 0) 0 tests.1 (ap (λ (i : ℕ). get_or w i 0) up ∙ sym (ap (λ (v : Val). v.tag)
            (top-there 1 e)) ∙ x)),
        ap (λ (v : Val). v.number) (top-there 2 e),
        ap (λ (v : Val). v.number) (top-there 1 e) ∙ sym (ap (λ (i : ℕ). get_or w i 0) up'),
      )
