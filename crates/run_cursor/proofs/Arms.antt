-- Each op, by what was read: what it does to the words with the cursor put back.
use Prim.Native.Nat.{ℕ, ◌+◌, ◌*◌, ◌-◌, ◌≤◌, ◌<◌}
use mathlib.Core.Path.{◌≡◌, refl, sym, ◌∙◌, ap, ap₂}
use mathlib.Core.Bool.{false, cond, ◌||◌}
use mathlib.Core.List.{List}
use native.Mathlib.Omega.{arith}
use Rattle.std.specs.Prelude.{Some}
use lib.ListN.{get_or}
use lib.Dec.{eqb}
use borrow.Author.Tests.{eq-eqb, ne_eqb}
use Rattle.run_store.specs.declared.values.Val.{Val}
use Rattle.run_store.specs.declared.head.Head.{Head}
use Rattle.run_store.specs.StoreCode.{value_at, slot_at, top_at}
use Rattle.table.specs.Table.{offset_of}
use Rattle.run_values.specs.ValuesCode.{AfterStep, after_step, unless_empty, push_on, drop_top, drop_to, empty_two}
use Rattle.run_moves.specs.MovesCode.{target_of, get_op, jfalse_op}
use Rattle.run_numbers.specs.NumbersCode.{two_op}
use Rattle.run_values.specs.declared.steps.StepResult.TheVariants.{WentOn}
use Rattle.run_values.proofs.Returns.{full-goes}
use Rattle.run_numbers.proofs.Returns.{two-go}
use Rattle.run_cursor.specs.declared.cursor.Cursor.{Cursor}
use Rattle.run_cursor.specs.CursorCode.{head_with, laid, HeadFits, TopRead, TwoRead}
use Rattle.run_cursor.proofs.Laid.{read-far}
use Rattle.run_cursor.proofs.Shapes.{drops-on}

module _ {h : Head} {w : List ℕ} {c : Cursor} (s : HeadFits h w c) where
  far-top : (n : ℕ) → n ≤ c.pending → value_at (laid w h c) (top_at (head_with h c) n) ≡ value_at w (top_at (head_with h c)
      n)
  unfolding top_at head_with
  far-top n l = read-far h c s.most w (48 + 48 * h.frames + 2 * c.pending - 2 * n) (omega (arith, l, s.least))

  far-slot : (a : ℕ) → value_at (laid w h c) (slot_at (head_with h c) a) ≡ value_at w (slot_at (head_with h c) a)
  unfolding slot_at head_with
  far-slot a = read-far h c s.most w (16 + 48 * h.frames + 2 * a) (omega (arith, s.least))

  -- GET of a slot that is not emptied
  pub gets : (a : ℕ) {at : ℕ} → at ≡ 16 + 48 * h.frames + 2 * a → (get_or w at 0 ≡ 0 → ⊥)
      → get_op (laid w h c) (head_with h c) a ≡ after_step WentOn (push_on (laid w h c) (head_with h c) (record {
        tag = get_or
            w at 0;
        number = get_or w (at + 1) 0;
      }))
  unfolding get_op value_at slot_at head_with
  gets a {at} e ne = sym (full-goes {u = value_at w at} _ _ _ there ne (ap (λ (v : Val). after_step WentOn (push_on (laid w
      h c) (head_with h c) v)) there))
    where
      there : value_at w at ≡ value_at (laid w h c) (slot_at (head_with h c) a)
      there = ap (value_at w) {x = at} {y = slot_at (head_with h c) a} e ∙ sym (far-slot a)

  -- an op on the top value, that is not emptied
  module _ (v : Val) (read : TopRead w h c (Some v)) where
    pub top-goes : (k : Val → AfterStep)
        → unless_empty (value_at (laid w h c) (top_at (head_with h c) 1)) (laid w h c) (k (value_at (laid w h c) (top_at
        (head_with h c) 1)))
        ≡ k v
    top-goes k =
        ap (λ (u : Val). unless_empty u (laid w h c) (k u)) (far-top 1 read.0 ∙ read.2)
        ∙ sym (full-goes {u = v} _ (laid w h c) _ refl read.1 refl)

    -- JFALSE on false, and on true
    pub false-jumps : (p : List ℕ) (a : ℕ) {offset : ℕ} → offset ≡ offset_of p h.method → v.number ≡ 0
        → jfalse_op p (laid w h c) (head_with h c) a ≡ after_step WentOn (drop_to (laid w h c) (head_with h c) (offset + a))
    unfolding jfalse_op target_of head_with
    false-jumps p a o z =
        top-goes (λ u. cond (eqb u.number 0) (after_step WentOn (drop_to (laid w h c) (head_with h c) (target_of p
        (head_with h c) a))) (after_step WentOn (drop_top (laid w h c) (head_with h c))))
        ∙ rw (eq-eqb v.number 0 z) (ap (λ (i : ℕ). after_step WentOn (drop_to (laid w h c) (head_with h c) (i + a)))
        (sym o))

    pub true-goes-on : (p : List ℕ) (a : ℕ) → c.place < 65536 → (v.number ≡ 0 → ⊥)
        → jfalse_op p (laid w h c) (head_with h c) a ≡ after_step WentOn (drop_to (laid w h c) (head_with h c) (c.place +
        1))
    unfolding jfalse_op
    true-goes-on p a l z =
        top-goes (λ u. cond (eqb u.number 0) (after_step WentOn (drop_to (laid w h c) (head_with h c) (target_of p
        (head_with h c) a))) (after_step WentOn (drop_top (laid w h c) (head_with h c))))
        ∙ rw (ne_eqb v.number 0 z) (ap (after_step WentOn) (drops-on s l read.0))

  -- an op on the two topmost
  module _ (x y : ℕ) (read : TwoRead w h c (Some (x, y))) where
    two-there : value_at (laid w h c) (top_at (head_with h c) 2) ≡ value_at w (top_at (head_with h c) 2)
    two-there = far-top 2 read.0

    one-there : value_at (laid w h c) (top_at (head_with h c) 1) ≡ value_at w (top_at (head_with h c) 1)
    one-there = far-top 1 (omega (arith, read.0))

    none-empty : false ≡ empty_two (laid w h c) (head_with h c)
    unfolding empty_two
    none-empty =
        sym (ap₂ ◌||◌
        (ap (λ (v : Val). eqb v.tag 0) two-there ∙ ne_eqb (value_at w (top_at (head_with h c) 2)).tag 0 read.1)
        (ap (λ (v : Val). eqb v.tag 0) one-there ∙ ne_eqb (value_at w (top_at (head_with h c) 1)).tag 0 read.2))

    pub two-goes : (k : ℕ → ℕ → AfterStep) → two_op (laid w h c) (head_with h c) k ≡ k x y
    two-goes k =
        sym (two-go {b = false} (laid w h c) (head_with h c) k none-empty refl
        (sym (ap (λ (v : Val). v.number) two-there ∙ read.3)) (sym (ap (λ (v : Val). v.number) one-there ∙ read.4)) refl)
