-- Where the methods lie once questions 1 and 2 are passed: one after the other, so that every instruction has one
-- owner.
use Prim.Native.Nat.{ℕ, zero, suc, ◌-◌, ◌≤◌, ◌<◌}
use native.Mathlib.Omega.{arith}
use native.Mathlib.Nat.{eq-or-lt_of_le, le_of_suc-le-suc}
use mathlib.Core.Logic.{◌⊎◌, inl, inr}
use mathlib.Core.Path.{◌≡◌, ap}
use mathlib.Core.List.{List}
use lib.Dec.{leb}
use borrow.Author.Tests.{leb-true, leb-false, le-leb, lt-leb}
use Rattle.lists.proofs.First.{IsFirst, first_false-first, first-unique}
use Rattle.table.specs.Table.{methods, instructions, offset_of, end_of, owner_of}
use Rattle.table.proofs.Accepted.{Sizes, Pairs}

-- Instruction i is one of method m's.
pub record Inside (p : List ℕ) (m i : ℕ) : Type 0 where
  pub method : m < methods p
  pub from-offset : offset_of p m ≤ i
  pub ahead : i < end_of p m

module _ (p : List ℕ) (s : Sizes p) (k : Pairs p) where
  offset-before-end : (m : ℕ) → offset_of p m ≤ end_of p m
  unfolding end_of
  offset-before-end m = omega arith

  -- an earlier method ends before a later one starts
  end-before-offset : (m n : ℕ) → m < n → n < methods p → end_of p m ≤ offset_of p n
  end-before-offset m zero h l = absurd (omega arith)
  end-before-offset m (suc n) h l = step (eq-or-lt_of_le (le_of_suc-le-suc h)) (end-before-offset m n)
    where
      step : (m ≡ n) ⊎ (m < n) → (m < n → n < methods p → end_of p m ≤ offset_of p n) → end_of p m ≤ offset_of p (suc n)
      step (inl e) ih = omega (arith, k.next n l, ap (end_of p) e)
      step (inr g) ih = omega (arith, ih g (omega arith), offset-before-end n, k.next n l)

  last-method : (n : ℕ) × (suc n ≡ methods p)
  last-method = (methods p - 1, omega (arith, s.methods-some))

  -- every method lies within the instructions
  pub end-within : (m : ℕ) → m < methods p → end_of p m ≤ instructions p
  end-within m h = let (n, e) = last-method in place n e (eq-or-lt_of_le (omega arith))
    where
      place : (n : ℕ) → suc n ≡ methods p → (m ≡ n) ⊎ (m < n) → end_of p m ≤ instructions p
      place n e (inl q) = omega (arith, ap (end_of p) q, k.last n e)
      place n e (inr l) = omega (arith, end-before-offset m n l (omega arith), offset-before-end n, k.last n e)

  pub inside-bound : {m i : ℕ} → Inside p m i → i < instructions p
  inside-bound {m} {i} h = omega (arith, end-within m h.method)

  -- the first instruction of a method
  pub inside-offset : (m : ℕ) → m < methods p → Inside p m (offset_of p m)
  unfolding end_of
  inside-offset m h = record { method = h; from-offset = omega arith; ahead = omega (arith, k.filled m h) }

  -- owners

  owner-first : (i : ℕ) → IsFirst (λ m. leb (end_of p m) i) (methods p) (owner_of p i)
  unfolding owner_of
  owner-first i = first_false-first (λ m. leb (end_of p m) i) (methods p)

  -- the owner is the only method that an instruction lies in
  pub inside-owner : {m i : ℕ} → Inside p m i → owner_of p i ≡ m
  inside-owner {m} {i} h = first-unique (owner-first i) only
    where
      only : IsFirst (λ m. leb (end_of p m) i) (methods p) m
      only = record {
        within = omega arith;
        passes = λ j l. le-leb (end_of p j) i (omega (arith, end-before-offset j m l h.method));
        fails = λ l. lt-leb (end_of p m) i h.ahead;
      }

  owner-method : (i : ℕ) → i < instructions p → owner_of p i < methods p
  owner-method i h =
      let (n, e) = last-method in
      let low : ¬ (n < owner_of p i) =
      λ l. omega (arith, leb-true (end_of p n) i ((owner-first i).passes n l), k.last n e) in
      omega arith

  owner-after : (i : ℕ) → owner_of p i < methods p → offset_of p (owner_of p i) ≤ i
  owner-after i h = step (owner_of p i) (owner-first i) h
    where
      step : (m : ℕ) → IsFirst (λ m. leb (end_of p m) i) (methods p) m → m < methods p → offset_of p m ≤ i
      step zero f l = omega (arith, k.first)
      step (suc m) f l = omega (arith, k.next m l, leb-true (end_of p m) i (f.passes m (omega arith)))

  -- every instruction lies in its owner
  pub owner-inside : (i : ℕ) → i < instructions p → Inside p (owner_of p i) i
  owner-inside i h =
      let method = owner-method i h in
      record {
        method = method;
        from-offset = owner-after i method;
        ahead = leb-false (end_of p (owner_of p i)) i ((owner-first i).fails method);
      }
