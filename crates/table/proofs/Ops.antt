-- Facts that hold of every op, by one test that is computed over 01's table; and all of the table opened at once.
use Prim.Native.Nat.{ℕ, zero, suc, ◌+◌, ◌≤◌, ◌<◌}
use native.Mathlib.Omega.{arith}
use native.Mathlib.Nat.{add-zero, zero-add, add-suc, suc-add, eq-or-lt_of_le}
use mathlib.Core.Logic.{◌⊎◌, inl, inr, ⊎_elim}
use mathlib.Core.Bool.{Bool, true, false, ◌&&◌, ◌||◌, not, beq}
use mathlib.Core.Path.{◌≡◌, refl, sym, ap, ◌∙◌}
use mathlib.Core.List.{List, [], ◌∷◌}
use lib.Dec.{T, eqb, ltb}
use lib.ListN.{length, get_or, get_or-eq_default}
use mir.Facts.{and_yes, eqb_yes, T_not}
use borrow.Author.Tests.{ltb-true, ltb-false, ne_eqb}
use Rattle.lists.proofs.Tests.{decide, or_cases}
use Rattle.table.specs.Table.{length_of}
use Rattle.table.specs.Ops.{Op, op_int, op_bool, op_get, op_put, op_drop, op_clear, op_new_q, op_new_c, op_end, op_gate, op_meas, op_call, op_ret, op_fork, op_send, op_recv, op_jump, op_j_false, op_arith, op_compare, op_not, unlisted, ops, op_of}

unfoldable pub ops-opened : Unit {0}
unfolding op_int op_bool op_get op_put op_drop op_clear op_new_q op_new_c op_end op_gate op_meas op_call op_ret op_fork op_send op_recv
    op_jump op_j_false op_arith op_compare op_not unlisted ops op_of
ops-opened = tt

-- A number that is none of the ops 1 to 23

-- n is none of the numbers 1 to k
abbrev pub NoneOf : ℕ → ℕ → Type 0
NoneOf n zero = Unit {0}
NoneOf n (suc k) = NoneOf n k × (n ≡ suc k → ⊥)

none_of : (n k : ℕ) → NoneOf n k → (n ≡ 0) ⊎ (k < n)
none_of zero k h = inl refl
none_of (suc n) zero h = inr (omega arith)
none_of (suc n) (suc k) h = past (none_of (suc n) k h.0)
  where
    past : (suc n ≡ 0) ⊎ (k < suc n) → (suc n ≡ 0) ⊎ (suc k < suc n)
    past (inl e) = inl e
    past (inr l) = ⊎_elim (λ e. absurd (h.1 (sym e))) (λ m. inr m) (eq-or-lt_of_le l)

pub none-listed : (n : ℕ) → NoneOf n 23 → op_of n ≡ unlisted
unfolding op_of ops
none-listed n h =
    ⊎_elim (λ e. ap (λ k. get_or ops k unlisted) e) (λ l. get_or-eq_default ops unlisted l) (none_of n 23 h)

-- A test of every op

abbrev every_from : (ℕ → Op → Bool) → ℕ → List Op → Bool
every_from f i [] = true
every_from f i (o ∷ os) = f i o && every_from f (suc i) os

every-at : (f : ℕ → Op → Bool) (os : List Op) (i : ℕ) → T (every_from f i os)
    → (k : ℕ) → k < length os → T (f (i + k) (get_or os k unlisted))
every-at f [] i t k h = absurd (omega arith)
every-at f (o ∷ os) i t zero h = rw (add-zero i) (and_yes (f i o) _ t).0
every-at f (o ∷ os) i t (suc k) h =
    rw (add-suc i k, ← (suc-add i k)) (every-at f os (suc i) (and_yes (f i o) _ t).1 k (omega arith))

each-op : (f : ℕ → Op → Bool) → T (every_from f 0 ops) → ((n : ℕ) → 24 ≤ n → T (f n unlisted))
    → (n : ℕ) → T (f n (op_of n))
unfolding op_of ops
each-op f t past n =
    ⊎_elim (λ e. within (ltb-true n 24 e)) (λ e. outside (ltb-false n 24 e)) (decide (ltb n 24))
  where
    within : n < 24 → T (f n (op_of n))
    within l = rw (zero-add n) at (every-at f ops 0 t n l)

    outside : 24 ≤ n → T (f n (op_of n))
    outside l = rw (get_or-eq_default ops unlisted l) (past n l)

agree : (a b : Bool) → T (beq a b) → a ≡ b
agree true true t = refl
agree true false t = absurd t
agree false true t = absurd t
agree false false t = refl

-- the ops that jump are 17 and 18
pub jumps-op : (n : ℕ) → (op_of n).jumps ≡ (eqb n 17 || eqb n 18)
unfolding ops-opened
jumps-op n =
    agree _ _ (each-op (λ n o. beq o.jumps (eqb n 17 || eqb n 18)) tt
    (λ n l. rw (ne_eqb n 17 (omega arith), ne_eqb n 18 (omega arith)) tt) n)

-- those that close a method are 13 and 17
pub closes-op : (n : ℕ) → (op_of n).closes ≡ (eqb n 13 || eqb n 17)
unfolding ops-opened
closes-op n =
    agree _ _ (each-op (λ n o. beq o.closes (eqb n 13 || eqb n 17)) tt
    (λ n l. rw (ne_eqb n 13 (omega arith), ne_eqb n 17 (omega arith)) tt) n)

-- and nothing is pending after them
pub closes-bare : (n : ℕ) → T (op_of n).closes → T (op_of n).bare
unfolding ops-opened
closes-bare n t =
    ⊎_elim (λ u. absurd (T_not (op_of n).closes t u)) (λ u. u)
    (or_cases (not (op_of n).closes) _ (each-op (λ n o. not o.closes || o.bare) tt (λ n l. tt) n))

-- a jump's argument is an instruction of its method
pub jumps-inside : (n : ℕ) (p : List ℕ) (m a : ℕ) → T (op_of n).jumps → (op_of n).argument p m a ≡ true → a < length_of p m
unfolding ops-opened
jumps-inside n p m a t e =
    ⊎_elim (target 17 refl) (target 18 refl) (or_cases (eqb n 17) (eqb n 18) (rw (jumps-op n) at t))
  where
    target : (k : ℕ) → (op_of k).argument p m a ≡ ltb a (length_of p m) → T (eqb n k) → a < length_of p m
    target k q u =
        ltb-true a (length_of p m) (sym q ∙ ap (λ k. (op_of k).argument p m a) {x = k} (sym (eqb_yes {a = n} u)) ∙ e)
