-- Within a method of an accepted table: what the check says of the instruction at a place, and where it leads.
use Prim.Native.Nat.{ℕ, ◌+◌, ◌*◌, ◌%◌, ◌≤◌, ◌<◌}
use mathlib.Core.Path.{◌≡◌, refl, sym, ◌∙◌, ap, subst}
use mathlib.Core.Bool.{Bool, true, false, ◌||◌, ◌&&◌}
use mathlib.Core.List.{List}
use native.Mathlib.Nat.{mod-eq_of_lt}
use native.Mathlib.Omega.{arith}
use lib.ListN.{length, get_or, get_or-eq_default}
use lib.Dec.{T, eqb, ltb}
use mir.Facts.{and_yes}
use borrow.Author.Tests.{ltb-true, ltb-false}
use Rattle.lists.proofs.Tests.{passed}
use Rattle.table.specs.Table.{word, methods, offset_of, length_of, end_of, op_at, arg_at}
use Rattle.table.specs.Ops.{unlisted, ops, op_of}
use Rattle.table.specs.Reading.{op_there}
use Rattle.table.proofs.Ops.{ops-opened, closes-op, jumps-op, jumps-inside}
use Rattle.table.proofs.Accepted.{Kept}
use Rattle.table.proofs.Owners.{Inside}
use Rattle.table.proofs.Methods.{inside-bound, inside-owner}
use Rattle.table.proofs.Before.{inside-next, inside-target}
use Rattle.run_stretch.specs.StretchCode.{At}

-- an op whose argument is allowed is one of 01's
op-listed : (n : ℕ) (p : List ℕ) (m a : ℕ) → T ((op_of n).argument p m a) → n < 24
unfolding ops-opened
op-listed n p m a t = go (ltb n 24) refl
  where
    go : (b : Bool) → ltb n 24 ≡ b → n < 24
    go true e = ltb-true n 24 e
    go false e = absurd (subst (λ o. T (o.argument p m a)) {x = op_of n} {y = unlisted} (get_or-eq_default ops
        unlisted (ltb-false n 24 e)) t)

-- the slots that GET, PUT and CLEAR name
slot-listed : (p : List ℕ) (m a : ℕ) (u : Bool) → T (ltb a 16 && u) → a < 16
slot-listed p m a u t = ltb-true a 16 (passed (ltb a 16) (and_yes (ltb a 16) u t).0)

module _ {p : List ℕ} (k : Kept p) {m i : ℕ} (h : Inside p m i) where
  pub low-place : i < 4096
  low-place = omega (arith, inside-bound p k h, k.sizes.instructions-most)

  -- its two words are there
  pub words-there : {start : ℕ} → start ≡ 2 + 20 * methods p → start + 2 * i + 1 < length p
  words-there e = omega (arith, e, inside-bound p k h, k.sizes.words)

  allowed : T ((op_of (op_at p i)).argument p m (arg_at p i))
  allowed = subst (λ (n : ℕ). T ((op_there p i).argument p n (arg_at p i))) (inside-owner p k h) (k.argument i
      (inside-bound p k h))

  pub low-op : op_at p i < 24
  low-op = op-listed (op_at p i) p m (arg_at p i) allowed

  -- the lowest five bits of the op's word are all of it
  pub op-kept : {start : ℕ} → start ≡ 2 + 20 * methods p → word p (start + 2 * i) % 32 ≡ word p (start + 2 * i)
  unfolding op_at
  op-kept {start} e =
      mod-eq_of_lt {n = word p (start + 2 * i)} {m = 32}
      (omega (arith, low-op, ap (λ (n : ℕ). word p (n + 2 * i)) e))

  pub at_place : {start : ℕ} → start ≡ 2 + 20 * methods p → At p m i (word p (start + 2 * i) % 32) (word p (start + 2 *
      i + 1))
  unfolding op_at arg_at
  at_place {start} e = record {
    inside = h;
    is-op = ap (λ (n : ℕ). word p (n + 2 * i)) (sym e) ∙ sym (op-kept e);
    is-argument = ap (word p) {x = 3 + 20 * methods p + 2 * i} {y = start + 2 * i + 1} (omega (arith, e));
  }

module _ {p : List ℕ} (k : Kept p) {m i op a : ℕ} (t : At p m i op a) where
  there : T ((op_of op).argument p m a)
  there =
      subst (λ (x : ℕ). T ((op_of op).argument p m x)) t.is-argument
      (subst (λ (o : ℕ). T ((op_of o).argument p m (arg_at p i))) t.is-op (allowed k t.inside))

  -- an op that closes no method leads to the next place
  pub steps-inside : (n : ℕ) → op ≡ n → (eqb n 13 || eqb n 17) ≡ false → (x : ℕ) → x ≡ i + 1 → Inside p m x
  steps-inside n e q x z =
      subst (Inside p m) (sym (z ∙ omega arith))
      (inside-next p k t.inside (ap (λ (o : ℕ). (op_of o).closes) (t.is-op ∙ e) ∙ closes-op n ∙ q))

  -- a jump leads to its target
  pub lands-inside : (n : ℕ) → op ≡ n → T (eqb n 17 || eqb n 18) → {offset : ℕ} → offset ≡ offset_of p m → (x : ℕ) → x ≡
      offset + a → Inside p m x
  lands-inside n e q {offset} o x z =
      subst (Inside p m) (sym (z ∙ ap (λ (y : ℕ). y + a) o ∙ ap (λ (y : ℕ). offset_of p m + y) (sym t.is-argument)))
      (inside-target p k t.inside (subst (λ (y : ℕ). y < length_of p m) (sym t.is-argument) (jumps-inside op p m a
      jumps (passed _ there))))
    where
      jumps : T (op_of op).jumps
      jumps = subst (λ (b : Bool). T b) (sym (ap (λ (y : ℕ). (op_of y).jumps) e ∙ jumps-op n)) q

  slot_of : (n : ℕ) → op ≡ n → (u : Bool) → (op_of n).argument p m a ≡ (ltb a 16 && u) → a < 16
  slot_of n e u q = slot-listed p m a u (subst (λ (b : Bool). T b) (ap (λ (y : ℕ). (op_of y).argument p m a) e ∙ q) there)

  pub slot-of-get : op ≡ 3 → a < 16
  unfolding ops-opened
  slot-of-get e = slot_of 3 e _ refl

  pub slot-of-put : op ≡ 4 → a < 16
  unfolding ops-opened
  slot-of-put e = slot_of 4 e _ refl

  pub slot-of-clear : op ≡ 6 → a < 16
  unfolding ops-opened
  slot-of-clear e = slot_of 6 e _ refl

  -- CALL names a method
  pub method-of-call : op ≡ 12 → a < methods p
  unfolding ops-opened
  method-of-call e =
      ltb-true a (methods p) (passed (ltb a (methods p)) (subst (λ (b : Bool). T b) (ap (λ (y : ℕ). (op_of y).argument p m
      a) e) there))

-- a method's two words, and the places between them
module _ {p : List ℕ} (k : Kept p) {m : ℕ} (l : m < get_or p 0 0) where
  a-method : m < methods p
  unfolding methods word
  a-method = l

  pub row-there : 3 + 2 * m < length p
  row-there = omega (arith, a-method, k.sizes.words)

  pub span-inside : (i : ℕ) → get_or p (2 + 2 * m) 0 ≤ i → i < get_or p (2 + 2 * m) 0 + get_or p (2 + 2 * m + 1) 0
      → (get_or p (2 + 2 * m) 0 ≡ offset_of p m) × Inside p m i
  unfolding word offset_of length_of end_of
  span-inside i from end = (
    refl,
    record {
      method = a-method;
      from-offset = from;
      ahead = omega (
        arith,
        end,
        length-there,
      );
    },
  )
    where
      length-there : get_or p (2 + 2 * m + 1) 0 ≡ get_or p (3 + 2 * m) 0
      length-there = ap (λ (j : ℕ). get_or p j 0) {x = 2 + 2 * m + 1} {y = 3 + 2 * m} (omega arith)
