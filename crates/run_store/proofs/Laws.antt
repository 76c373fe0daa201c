-- Laws of words: what reads and writes past the end come to, and the loops over several values.
use Prim.Native.Nat.{ℕ, zero, suc, ◌+◌, ◌*◌, ◌-◌, ◌≤◌, ◌<◌}
use mathlib.Core.Path.{◌≡◌, refl, sym, ◌∙◌, ap, ap₂}
use mathlib.Core.Logic.{⊎_elim}
use mathlib.Core.Bool.{Bool, true, false, cond, ◌&&◌, ◌||◌}
use mathlib.Core.List.{List}
use native.Mathlib.Nat.{le_of_suc-le-suc, not-suc-le-zero, eq-or-lt_of_le}
use native.Mathlib.Numerals.{add-one}
use borrow.Author.Tests.{eq-eqb, ne_eqb}
use lib.Dec.{eqb}
use native.Mathlib.Omega.{arith}
use lib.ListN.{get_or, set, length, length-set, get_or-eq_default}
use lib.Seq.{set_out, set-set, set_comm}
use Rattle.run_store.specs.declared.values.Val.{Val}
use Rattle.run_store.specs.declared.head.Head.{Head}
use Rattle.run_store.specs.StoreCode.{value_at, put_value, head_at, put_top, empty_down, move_one, moved_down, cleared_from, tags_meet, lost_val, emptied_one, emptied_eight, emptied_by}

pub value-beyond : (w : List ℕ) (i : ℕ) → length w ≤ i → record { tag = 0; number = 0 } ≡ value_at w i
unfolding value_at
value-beyond w i h = λ k. record {
  tag = sym (get_or-eq_default w 0 h) k;
  number = sym (get_or-eq_default w 0 {n = i + 1} (omega arith)) k;
}

pub put-beyond : (w : List ℕ) (i : ℕ) (v : Val) → length w ≤ i → w ≡ put_value w i v
unfolding put_value
put-beyond w i v h =
    sym
    (ap (λ (l : List ℕ). set l (i + 1) v.number) (set_out w i v.tag h)
    ∙ set_out w (i + 1) v.number (omega arith))

-- values looked through

pub empty-more : (w : List ℕ) (top j : ℕ) {at x : ℕ} → empty_down w top j ≡ false → at ≡ top - 2 * j → x ≡ get_or w at 0
    → (x ≡ 0 → ⊥)
    → empty_down w top (j + 1) ≡ false
unfolding empty_down
empty-more w top j e p q n =
    ap (empty_down w top) (add-one j)
    ∙ ap₂ ◌||◌ e (ne_eqb (get_or w (top - 2 * j) 0) 0 (λ z. n (q ∙ ap (λ (i : ℕ). get_or w i 0) p ∙ z)))

pub empty-found : (w : List ℕ) (top n j : ℕ) {at x : ℕ} → j < n → at ≡ top - 2 * j → x ≡ get_or w at 0 → x ≡ 0
    → true ≡ empty_down w top n
unfolding empty_down
empty-found w top zero j h p q z = absurd (not-suc-le-zero h)
empty-found w top (suc n) j h p q z =
    ⊎_elim
    (λ e. sym
    (ap (λ (b : Bool). empty_down w top n || b)
    (eq-eqb (get_or w (top - 2 * n) 0) 0
    (ap (λ (i : ℕ). get_or w (top - 2 * i) 0) (sym e) ∙ sym (q ∙ ap (λ (i : ℕ). get_or w i 0) p) ∙ z))
    ∙ or-true (empty_down w top n)))
    (λ l. ap (λ (b : Bool). b || eqb (get_or w (top - 2 * n) 0) 0) (empty-found w top n j l p q z))
    (eq-or-lt_of_le (le_of_suc-le-suc h))
  where
    or-true : (b : Bool) → (b || true) ≡ true
    or-true true = refl
    or-true false = refl

-- values moved

pub moved_more : (w : List ℕ) (top to n j : ℕ) {u u' : List ℕ} {from : ℕ} → j < n → u ≡ moved_down w top to n j
    → from ≡ top - 2 * j
    → u' ≡ move_one u from (to + 2 * (n - 1 - j)) → u' ≡ moved_down w top to n (j + 1)
unfolding moved_down
moved_more w top to n j h e p q =
    q
    ∙ ap₂ (λ (l : List ℕ) (i : ℕ). move_one l i (to + 2 * (n - 1 - j))) e p
    ∙ ap (λ (i : ℕ). move_one (moved_down w top to n j) (top - 2 * j) (to + 2 * i)) less
    ∙ sym (ap (moved_down w top to n) (add-one j))
  where
    less : n - 1 - j ≡ n - suc j
    less = omega arith

-- words cleared

pub cleared_more : (w : List ℕ) (from i : ℕ) {u u' : List ℕ} → u ≡ cleared_from w from i → u' ≡ set u (from + i) 0
    → u' ≡ cleared_from w from (i + 1)
unfolding cleared_from
cleared_more w from i e q = q ∙ ap (λ (l : List ℕ). set l (from + i) 0) e ∙ sym (ap (cleared_from w from) (add-one i))

-- words past the end are not there to be cleared
cleared-length : (w : List ℕ) (from n : ℕ) → length (cleared_from w from n) ≡ length w
unfolding cleared_from
cleared-length w from zero = refl
cleared-length w from (suc n) = length-set (cleared_from w from n) (from + n) 0 ∙ cleared-length w from n

pub cleared-beyond : (w : List ℕ) (from k n : ℕ) → length w ≤ from + k → k ≤ n
    → cleared_from w from k ≡ cleared_from w from n
unfolding cleared_from
cleared-beyond w from k n h e = go (n - k) ∙ ap (cleared_from w from) {x = k + (n - k)} {y = n} (omega (arith, e))
  where
    go : (j : ℕ) → cleared_from w from k ≡ cleared_from w from (k + j)
    go zero = ap (cleared_from w from) {x = k} {y = k + 0} (omega arith)
    go (suc j) =
        go j
        ∙ sym
        (set_out (cleared_from w from (k + j)) (from + (k + j)) 0 (omega (arith, h, cleared-length w from (k + j))))
        ∙ ap (cleared_from w from) {x = suc (k + j)} {y = k + suc j} (omega arith)

-- values emptied

pub or-none : (b : Bool) → b ≡ (b || false)
or-none true = refl
or-none false = refl

-- the numbers count only where the tags meet

pub lost-by-number : (t v : Val) {b : Bool} → b ≡ tags_meet t.tag v.tag → b ≡ true
    → eqb v.number t.number ≡ lost_val t v
unfolding lost_val
lost-by-number t v e h =
    both (eqb v.number t.number) ∙ ap (λ (x : Bool). eqb v.number t.number && x) (sym h ∙ e)
  where
    both : (x : Bool) → x ≡ (x && true)
    both true = refl
    both false = refl

pub lost-by-tag : (t v : Val) {b : Bool} → b ≡ tags_meet t.tag v.tag → b ≡ false → false ≡ lost_val t v
unfolding lost_val
lost-by-tag t v e h =
    neither (eqb v.number t.number) ∙ ap (λ (x : Bool). eqb v.number t.number && x) (sym h ∙ e)
  where
    neither : (x : Bool) → false ≡ (x && false)
    neither true = refl
    neither false = refl

pub one-emptied : (w : List ℕ) (t : Val) (i : ℕ) {v u : Val} {b : Bool} {w' : List ℕ} → v ≡ value_at w i
    → b ≡ lost_val t v → b ≡ true
    → u ≡ record { tag = 0; number = 0 } → w' ≡ put_value w i u → w' ≡ emptied_one w t i
unfolding emptied_one
one-emptied w t i e l p q r =
    r ∙ ap (put_value w i) q ∙ sym (ap (λ (b : Bool). cond b (put_value w i (record { tag = 0; number = 0 })) w)
    (ap (lost_val t) (sym e) ∙ sym l ∙ p))

pub one_kept : (w : List ℕ) (t : Val) (i : ℕ) {v : Val} {b : Bool} → v ≡ value_at w i → b ≡ lost_val t v → b ≡ false
    → w ≡ emptied_one w t i
unfolding emptied_one
one_kept w t i e l p =
    sym (ap (λ (b : Bool). cond b (put_value w i (record { tag = 0; number = 0 })) w)
    (ap (lost_val t) (sym e) ∙ sym l ∙ p))

-- a value is lost with a qubit where it is that qubit

tags-qubit : (b : ℕ) → tags_meet 3 b ≡ eqb 3 b
unfolding tags_meet
tags-qubit b = go (eqb 3 b) (eqb b 4)
  where
    go : (x y : Bool) → (x || (y && false)) ≡ x
    go true y = refl
    go false true = refl
    go false false = refl

module _ (w : List ℕ) (q i : ℕ) where
  pub qubit-emptied : get_or w i 0 ≡ 3 → get_or w (i + 1) 0 ≡ q
      → set (set w i 0) (i + 1) 0 ≡ emptied_one w (record { tag = 3; number = q }) i
  unfolding emptied_one lost_val value_at put_value
  qubit-emptied e f = rw (tags-qubit (get_or w i 0), eq-eqb 3 (get_or w i 0) (sym e), eq-eqb (get_or w (i + 1) 0) q f) refl

  pub other_tag : (get_or w i 0 ≡ 3 → ⊥) → w ≡ emptied_one w (record { tag = 3; number = q }) i
  unfolding value_at
  other_tag n =
      one_kept w (record { tag = 3; number = q }) i refl
      (lost-by-tag (record { tag = 3; number = q }) (value_at w i) (sym (tags-qubit (get_or w i 0)))
      (ne_eqb 3 (get_or w i 0) (λ e. n (sym e)))) refl

  pub other-number : (get_or w (i + 1) 0 ≡ q → ⊥) → w ≡ emptied_one w (record { tag = 3; number = q }) i
  unfolding emptied_one lost_val value_at
  other-number n = rw (ne_eqb (get_or w (i + 1) 0) q n) refl

pub emptied-more : (w : List ℕ) (t : Val) (j : ℕ) {u u' : List ℕ} → u ≡ emptied_by w t j
    → u' ≡ emptied_one u t (64 + 2 * j) → u' ≡ emptied_by w t (j + 1)
unfolding emptied_by
emptied-more w t j e q = q ∙ ap (λ (l : List ℕ). emptied_one l t (64 + 2 * j)) e ∙ sym (ap (emptied_by w t) (add-one j))

-- eight values at a time

pub eight-emptied : (w : List ℕ) (t : Val) (i : ℕ) {u₁ u₂ u₃ u₄ u₅ u₆ u₇ u₈ : List ℕ} → u₁ ≡ emptied_one w t i
    → u₂ ≡ emptied_one u₁ t (i + 2)
    → u₃ ≡ emptied_one u₂ t (i + 4) → u₄ ≡ emptied_one u₃ t (i + 6) → u₅ ≡ emptied_one u₄ t (i + 8)
    → u₆ ≡ emptied_one u₅ t (i + 10)
    → u₇ ≡ emptied_one u₆ t (i + 12) → u₈ ≡ emptied_one u₇ t (i + 14) → u₈ ≡ emptied_eight w t i
unfolding emptied_eight
eight-emptied w t i e₁ e₂ e₃ e₄ e₅ e₆ e₇ e₈ =
    then (i + 14) e₈
    (then (i + 12) e₇ (then (i + 10) e₆ (then (i + 8) e₅ (then (i + 6) e₄ (then (i + 4) e₃ (then (i + 2) e₂ e₁))))))
  where
    then : {u u' v : List ℕ} (k : ℕ) → u' ≡ emptied_one u t k → u ≡ v → u' ≡ emptied_one v t k
    then k q e = q ∙ ap (λ (l : List ℕ). emptied_one l t k) e

pub emptied-eight : (w : List ℕ) (t : Val) (j : ℕ) {u u' : List ℕ} → u ≡ emptied_by w t (8 * j)
    → u' ≡ emptied_eight u t (64 + 16 * j)
    → u' ≡ emptied_by w t (8 * (j + 1))
unfolding emptied_eight emptied_by
emptied-eight w t j e q =
    let a = 8 * j in
    let b = suc (suc (suc (suc a))) in
    let i = 64 + 16 * j in
    let e₁ = next a i (omega arith) e in
    let e₂ = next (suc a) (i + 2) (omega arith) e₁ in
    let e₃ = next (suc (suc a)) (i + 4) (omega arith) e₂ in
    let e₄ = next (suc (suc (suc a))) (i + 6) (omega arith) e₃ in
    let e₅ = next b (i + 8) (omega arith) e₄ in
    let e₆ = next (suc b) (i + 10) (omega arith) e₅ in
    let e₇ = next (suc (suc b)) (i + 12) (omega arith) e₆ in
    let e₈ = next (suc (suc (suc b))) (i + 14) (omega arith) e₇ in
    q ∙ e₈ ∙ ap (emptied_by w t) {x = suc (suc (suc (suc b)))} {y = 8 * (j + 1)} (omega arith)
  where
    next : (n i : ℕ) {u : List ℕ} → i ≡ 64 + 2 * n → u ≡ emptied_by w t n → emptied_one u t i ≡ emptied_by w t (suc n)
    next n i p e = ap₂ (λ (l : List ℕ) (k : ℕ). emptied_one l t k) e p

-- the place and the number of pending values written twice, with a value put after them between: the first time is not
-- seen
pub top-twice : (w : List ℕ) (h h' : Head) (i : ℕ) (v : Val) → h.frames ≡ h'.frames → head_at h'.frames + 2 < i
    → put_top (put_value (put_top w h) i v) h' ≡ put_top (put_value w i v) h'
unfolding put_top put_value
top-twice w h h' i v e b =
    ap
    (λ (n : ℕ). write
    (set (set (set (set w (head_at n + 1) h.place) (head_at n + 2) h.pending) i v.tag) (i + 1) v.number)
    h'.place h'.pending) e
    ∙ ap (λ (l : List ℕ). write l h'.place h'.pending)
    (ap (λ (l : List ℕ). set l (i + 1) v.number) (past w h.place h.pending i v.tag (omega arith))
    ∙ past (set w i v.tag) h.place h.pending (i + 1) v.number (omega arith))
    ∙ again (set (set w i v.tag) (i + 1) v.number) h.place h.pending h'.place h'.pending
  where
    a : ℕ
    a = head_at h'.frames

    write : List ℕ → ℕ → ℕ → List ℕ
    write l x y = set (set l (a + 1) x) (a + 2) y

    past : (l : List ℕ) (x y j z : ℕ) → a + 2 < j → set (write l x y) j z ≡ write (set l j z) x y
    past l x y j z b =
        set_comm (set l (a + 1) x) (a + 2) j y z (omega arith)
        ∙ ap (λ (m : List ℕ). set m (a + 2) y) (set_comm l (a + 1) j x z (omega arith))

    again : (l : List ℕ) (x y x' y' : ℕ) → write (write l x y) x' y' ≡ write l x' y'
    again l x y x' y' =
        ap (λ (m : List ℕ). set m (a + 2) y')
        (set_comm (set l (a + 1) x) (a + 2) (a + 1) y x' (omega arith)
        ∙ ap (λ (m : List ℕ). set m (a + 2) y) (set-set l (a + 1) x x'))
        ∙ set-set (set l (a + 1) x') (a + 2) y y'
