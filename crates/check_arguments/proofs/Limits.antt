-- The limits are the rules of the ops: what the tables say of each op's argument is what its record says.
use Prim.Native.Nat.{ℕ, zero, suc, ◌*◌, ◌/◌, ◌%◌, ◌≤◌, ◌<◌}
use native.Mathlib.Omega.{arith}
use native.Mathlib.Nat.{eq-or-lt_of_le, le_of_suc-le-suc}
use mathlib.Core.Logic.{⊎_elim}
use mathlib.Core.Bool.{Bool, true, false, ◌&&◌, not, and-true}
use mathlib.Core.Path.{◌≡◌, refl, sym, subst, ap, ap₂, ◌∙◌}
use mathlib.Core.List.{List}
use lib.Dec.{eqb, leb, ltb, leb-zero, leb-suc-suc}
use lib.ListN.{get_or, get_or-eq_default}
use borrow.Author.Tests.{ltb-true, lt-ltb, le-ltb, ne_eqb, le-leb, lt-leb}
use Rattle.lists.proofs.Tests.{decide}
use Rattle.table.specs.Table.{methods, length_of, slot_type}
use Rattle.table.specs.Ops.{ops, op_of, unlisted}
use Rattle.table.proofs.Ops.{ops-opened}
use Rattle.check_arguments.specs.LimitsCode.{limits_for, in_limits}

-- what the limits come to: below a bound, and between two
below : (a b t : ℕ) → ((leb 0 a && ltb a b) && leb 0 t) ≡ ltb a b
below a b t = rw (leb-zero a, leb-zero t) (and-true (ltb a b))

at_most : (a k t : ℕ) → ((leb 0 a && ltb a (suc k)) && leb 0 t) ≡ leb a k
at_most a k t = below a (suc k) t ∙ leb-suc-suc a k

between : (a k t : ℕ) → ((leb 1 a && ltb a (suc k)) && leb 0 t) ≡ (leb 1 a && leb a k)
between a k t = rw (leb-zero t, leb-suc-suc a k) (and-true (leb 1 a && leb a k))

zero-only : (a t : ℕ) → ((leb 0 a && ltb a 1) && leb 0 t) ≡ eqb a 0
zero-only a t = at_most a 0 t ∙ go a
  where
    go : (a : ℕ) → leb a 0 ≡ eqb a 0
    go zero = refl
    go (suc n) = lt-leb (suc n) 0 (omega arith) ∙ sym (ne_eqb (suc n) 0 (λ e. omega (arith, e)))

used : (t : ℕ) → leb 1 t ≡ not (eqb t 0)
used zero = refl
used (suc n) = le-leb 1 (suc n) (omega arith) ∙ ap not (sym (ne_eqb (suc n) 0 (λ e. omega (arith, e))))

slot-only : (a : ℕ) (f : ℕ → ℕ) → ((leb 0 a && ltb a 16) && leb 1 (f (a % 16))) ≡ (ltb a 16 && not (eqb (f a) 0))
slot-only a f = rw (leb-zero a) (⊎_elim inside outside (decide (ltb a 16)))
  where
    inside : ltb a 16 ≡ true → (ltb a 16 && leb 1 (f (a % 16))) ≡ (ltb a 16 && not (eqb (f a) 0))
    inside e =
        let small : a % 16 ≡ a = omega (arith, ltb-true a 16 e) in
        ap (λ (k : ℕ). ltb a 16 && leb 1 (f k)) small ∙ ap (λ (b : Bool). ltb a 16 && b) (used (f a))

    outside : ltb a 16 ≡ false → (ltb a 16 && leb 1 (f (a % 16))) ≡ (ltb a 16 && not (eqb (f a) 0))
    outside e = rw e

-- a fact of every number below n
abbrev Each : (ℕ → Type 0) → ℕ → Type 0
Each P zero = Unit {0}
Each P (suc k) = Each P k × P k

each : (P : ℕ → Type 0) (n : ℕ) → Each P n → (k : ℕ) → k < n → P k
each P zero fs k h = absurd (omega (arith, h))
each P (suc n) fs k h =
    ⊎_elim (λ e. subst P (sym e) fs.1) (λ l. each P n fs.0 k l) (eq-or-lt_of_le (le_of_suc-le-suc h))

-- the numbers that an entry of the table is made of
four-even : (n : ℕ) → 4 * n % 2 ≡ 0
four-even n = omega arith

four-of : (n : ℕ) → 4 * n / 4 ≡ n
four-of n = omega arith

four-plain : (n : ℕ) → 4 * n / 2 % 2 ≡ 0
four-plain n = ap (λ (k : ℕ). k % 2) {x = 4 * n / 2} {y = 2 * n} (omega arith) ∙ omega arith

named : (a t n : ℕ) → ((leb (4 * n % 2) a && ltb a (4 * n / 4)) && leb (4 * n / 2 % 2) t) ≡ ltb a n
named a t n = rw (four-even n, four-of n, four-plain n) (below a n t)

module _ (p : List ℕ) (m a t : ℕ) (e : t ≡ slot_type p m (a % 16)) (word : a < 65536) where
  abbrev Right : ℕ → Type 0
  Right op = in_limits op (get_or (limits_for (methods p)) op 0) (length_of p m) a t ≡ (op_of op).argument p m a

  no-argument : ((leb 0 a && ltb a 0) && leb 0 t) ≡ false
  no-argument = below a 0 t ∙ le-ltb a 0 (omega arith)

  any-argument : ((leb 0 a && ltb a 65536) && leb 0 t) ≡ true
  any-argument = below a 65536 t ∙ lt-ltb a 65536 word

  slot-argument : ((leb 0 a && ltb a 16) && leb 1 t) ≡ (ltb a 16 && not (eqb (slot_type p m a) 0))
  slot-argument = ap (λ (x : ℕ). (leb 0 a && ltb a 16) && leb 1 x) e ∙ slot-only a (slot_type p m)

  all_right : Each Right 24
  unfolding in_limits limits_for ops-opened
  all_right = (
    (
      (
        (
          (
            (
              (
                (
                  (
                    (
                      (
                        (
                          (
                            (
                              (
                                (
                                  (
                                    (
                                      (
                                        (
                                          ((((tt, no-argument), any-argument), at_most a 1 t), slot-argument),
                                          slot-argument,
                                        ),
                                        zero-only a t,
                                      ),
                                      slot-argument,
                                    ),
                                    zero-only a t,
                                  ),
                                  between a 3 t,
                                ),
                                at_most a 1 t,
                              ),
                              between a 8 t,
                            ),
                            zero-only a t,
                          ),
                          named a t (methods p),
                        ),
                        zero-only a t,
                      ),
                      named a t (methods p),
                    ),
                    zero-only a t,
                  ),
                  zero-only a t,
                ),
                below a (length_of p m) t,
              ),
              below a (length_of p m) t,
            ),
            zero-only a t,
          ),
          zero-only a t,
        ),
        zero-only a t,
      ),
      zero-only a t,
    ),
    zero-only a t,
  )

  -- as they are looked up
  pub limits-kept : (limits : List ℕ) (op long : ℕ) {b : Bool} → limits ≡ limits_for (methods p) → op < 24
      → long ≡ length_of p m
      → b ≡ in_limits op (get_or limits op 0) long a t → b ≡ (op_of op).argument p m a
  limits-kept limits op long l h c q =
      q ∙ ap₂ (λ (ls : List ℕ) (k : ℕ). in_limits op (get_or ls op 0) k a t) l c ∙ each Right 24 all_right op h

pub past-listed : (p : List ℕ) (m a op : ℕ) → 24 ≤ op → (op_of op).argument p m a ≡ false
unfolding op_of ops unlisted
past-listed p m a op h = ap (λ o. o.argument p m a) (get_or-eq_default ops unlisted h)
