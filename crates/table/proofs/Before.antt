-- The types pending before an instruction of an accepted table: none where a method starts or a jump lands, what the
-- instruction before it leaves elsewhere, and never more than eight.
use Prim.Native.Nat.{ℕ, zero, suc, ◌+◌, ◌≤◌, ◌<◌}
use native.Mathlib.Omega.{arith}
use mathlib.Core.Logic.{◌≢◌}
use mathlib.Core.Bool.{Bool, true, false, cond}
use mathlib.Core.Path.{◌≡◌, refl, sym, ap, ◌∙◌}
use mathlib.Core.List.{List, [], ◌++◌}
use mathlib.Core.Option.{Option, none, some, get_or, none-ne-some}
use lib.ListN.{length, take, drop}
use lib.Dec.{T, leb}
use mir.Facts.{yes_eqb}
use borrow.Author.Tests.{leb-true, eq-eqb, ne_eqb}
use Rattle.lists.proofs.Tests.{passed, clash, and_both, cond-each}
use Rattle.lists.proofs.First.{any_below}
use Rattle.table.specs.Table.{methods, instructions, offset_of, length_of, end_of, arg_at, owner_of}
use Rattle.table.specs.Reading.{op_there, taken_at, given_at, after, opens, is_last, before, jumps_to, is_target}
use Rattle.table.proofs.Accepted.{Sizes, Pairs, Kept}
use Rattle.table.proofs.Owners
use Rattle.table.proofs.Methods.{Inside, inside-bound, inside-offset, inside-owner}

-- The rule of types at an instruction that finds its operands.

-- a rule under a condition
pub cond-some : (b : Bool) (o : Option (List ℕ)) (gs : List ℕ) → cond b o none ≡ some gs → T b × (o ≡ some gs)
cond-some true o gs e = (tt, e)
cond-some false o gs e = absurd (none-ne-some gs e)

module _ (p : List ℕ) (i : ℕ) (ts gs : List ℕ) (e : given_at p i ts ≡ some gs) where
  pub given-operands : taken_at p i ≤ length ts
  unfolding given_at
  given-operands = leb-true (taken_at p i) (length ts) (passed _ (cond-some (leb (taken_at p i) (length ts)) _ gs e).0)

  pub given-rule : (op_there p i).gives p (owner_of p i) (arg_at p i) (take (taken_at p i) ts) ≡ some gs
  unfolding given_at
  given-rule = (cond-some (leb (taken_at p i) (length ts)) _ gs e).1

  pub given-after : after p i ts ≡ gs ++ drop (taken_at p i) ts
  unfolding after
  given-after = ap (λ o. get_or o [] ++ drop (taken_at p i) ts) e

-- from one instruction of a method to the next, once questions 1 and 2 are passed
pub before-within : (p : List ℕ) → Sizes p → Pairs p → {m i : ℕ} → Inside p m i → Inside p m (suc i)
    → before p (suc i) ≡ after p i (before p i)
unfolding before opens
before-within p s k {m} {i} h n =
    let shut : suc i ≢ offset_of p (owner_of p (suc i)) =
    λ q. omega (arith, ap (offset_of p) (Owners.inside-owner p s k n)) in
    ap (λ b. cond b [] (after p i (before p i))) (ne_eqb (suc i) (offset_of p (owner_of p (suc i))) shut)

module _ (p : List ℕ) (k : Kept p) where
  -- where a method starts

  before-opens : (i : ℕ) → opens p i ≡ true → before p i ≡ []
  unfolding before
  before-opens zero e = refl
  before-opens (suc i) e = ap (λ b. cond b [] (after p i (before p i))) e

  pub before-offset : (m : ℕ) → m < methods p → before p (offset_of p m) ≡ []
  unfolding opens
  before-offset m h =
      let own = ap (offset_of p) (sym (inside-owner p k (inside-offset p k m h))) in
      before-opens (offset_of p m) (eq-eqb (offset_of p m) (offset_of p (owner_of p (offset_of p m))) own)

  -- from one instruction to the next

  last-closes : {m i : ℕ} → Inside p m i → suc i ≡ end_of p m → T (op_there p i).closes
  unfolding is_last
  last-closes {m} {i} h e =
      (k.reading i (inside-bound p k h)).closes (yes_eqb (e ∙ ap (end_of p) (sym (inside-owner p k h))))

  -- an instruction that does not close its method is not the last of it
  pub inside-next : {m i : ℕ} → Inside p m i → (op_there p i).closes ≡ false → Inside p m (suc i)
  inside-next {m} {i} h e =
      let more : suc i ≢ end_of p m = λ q. clash e (last-closes h q) in
      record { method = h.method; from-offset = omega arith; ahead = omega arith }

  pub before-next : {m i : ℕ} → Inside p m i → Inside p m (suc i) → before p (suc i) ≡ after p i (before p i)
  before-next = before-within p k.sizes k.pairs

  -- where a jump lands

  pub inside-target : {m i : ℕ} → Inside p m i → arg_at p i < length_of p m → Inside p m (offset_of p m + arg_at p i)
  unfolding end_of
  inside-target h l = record { method = h.method; from-offset = omega arith; ahead = omega arith }

  pub target_found : {m i : ℕ} → Inside p m i → T (op_there p i).jumps → T (is_target p (offset_of p m + arg_at p i))
  unfolding is_target jumps_to
  target_found {m} {i} h j =
      let lands = yes_eqb (ap (λ n. offset_of p n + arg_at p i) (inside-owner p k h)) in
      any_below (jumps_to p (offset_of p m + arg_at p i)) (instructions p) i (inside-bound p k h)
      (and_both (op_there p i).jumps _ j lands)

  pub before-target : {m i : ℕ} → Inside p m i → T (op_there p i).jumps → arg_at p i < length_of p m
      → before p (offset_of p m + arg_at p i) ≡ []
  before-target {m} {i} h j l =
      (k.reading (offset_of p m + arg_at p i) (inside-bound p k (inside-target h l))).target (target_found h j)

  -- at most eight

  pub before-height : (i : ℕ) → i < instructions p → length (before p i) ≤ 8
  unfolding before
  before-height zero h = omega arith
  before-height (suc i) h =
      cond-each (λ ts. length ts ≤ 8) (opens p (suc i)) {x = []} (λ e. omega arith)
      (λ e. (k.reading i (omega arith)).height)
