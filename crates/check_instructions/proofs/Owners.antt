-- The owner of an instruction, from that of the one before: the same method, or the next where that one ends.
use Prim.Native.Nat.{ℕ, suc, ◌+◌, ◌-◌, ◌≤◌, ◌<◌}
use native.Mathlib.Omega.{arith}
use native.Mathlib.Numerals.{add-one}
use mathlib.Core.Logic.{◌≢◌}
use mathlib.Core.Path.{◌≡◌, sym, ap, ◌∙◌}
use mathlib.Core.List.{List}
use Rattle.table.specs.Table.{methods, instructions, offset_of, length_of, end_of, row, owner_of}
use Rattle.table.proofs.Accepted.{Sizes, Pairs}
use Rattle.table.proofs.Owners.{inside-offset, inside-owner, owner-inside}
use Rattle.check_instructions.specs.OwnersCode.{owner_in, owner_at}
use Rattle.check_instructions.specs.declared.owner.Owner.{Owner}

-- The fields of an owner

module _ (p : List ℕ) (m : ℕ) (o : Owner) (e : o ≡ owner_in p m) where
  pub owner-method : o.method ≡ m
  unfolding owner_in
  owner-method = ap (λ o. o.method) e

  pub owner-row : o.row ≡ row p m
  unfolding owner_in
  owner-row = ap (λ o. o.row) e

  pub owner-start : o.start ≡ offset_of p m
  unfolding owner_in
  owner-start = ap (λ o. o.start) e

  pub owner-end : o.end ≡ end_of p m
  unfolding owner_in
  owner-end = ap (λ o. o.end) e

  pub owner-known : o ≡ owner_in p o.method
  owner-known = e ∙ ap (owner_in p) (sym owner-method)

  pub owner-order : o.start ≤ o.end
  unfolding end_of
  owner-order = omega (arith, owner-start, owner-end)

  pub owner-length : o.end - o.start ≡ length_of p m
  unfolding end_of
  owner-length = omega (arith, owner-start, owner-end)

pub owner-passed : (p : List ℕ) (i : ℕ) {o : Owner} → o ≡ owner_at p i → o ≡ owner_at p (i + 1 - 1)
owner-passed p i e = e ∙ ap (owner_at p) (omega arith)

-- One instruction on

module _ (p : List ℕ) (s : Sizes p) (k : Pairs p) where
  pub owner-begins : owner_in p 0 ≡ owner_at p 0
  owner-begins =
      let first = inside-owner p s k (inside-offset p s k 0 s.methods-some) in
      ap (owner_in p) (sym first ∙ ap (owner_of p) k.first)

  pub owner-listed : (i : ℕ) (o : Owner) → o ≡ owner_at p i → i < instructions p → o.method < methods p
  owner-listed i o e h = rw (owner-method p (owner_of p i) o e) (owner-inside p s k i h).method

  pub owner-low : (i : ℕ) (o : Owner) → o ≡ owner_at p i → i < instructions p → o.start ≤ 4096
  owner-low i o e h =
      omega (arith, owner-start p (owner_of p i) o e, (owner-inside p s k i h).from-offset, s.instructions-most)

  module _ (i : ℕ) (h : i < instructions p) where
    stays : i < end_of p (owner_of p (i - 1)) → owner_of p (i - 1) ≡ owner_of p i
    stays l =
        let before = owner-inside p s k (i - 1) (omega arith) in
        sym (inside-owner p s k (record { method = before.method; from-offset = omega arith; ahead = l }))

    -- a method that ends before the last instruction is not the last
    later : (m : ℕ) → m < methods p → end_of p m ≤ i → suc m < methods p
    later m l e =
        let more : suc m ≢ methods p = λ q. omega (arith, k.last m q) in
        omega arith

    moves : end_of p (owner_of p (i - 1)) ≤ i → owner_of p (i - 1) + 1 ≡ owner_of p i
    moves l =
        let m = owner_of p (i - 1) in
        let before = owner-inside p s k (i - 1) (omega arith) in
        let next = later m before.method l in
        let here : offset_of p (suc m) ≡ i = omega (arith, k.next m next, before.ahead) in
        add-one m ∙ sym (inside-owner p s k (inside-offset p s k (suc m) next)) ∙ ap (owner_of p) here

    module _ (o : Owner) (e : o ≡ owner_at p (i - 1)) where
      pub owner-stays : i < o.end → o ≡ owner_at p i
      owner-stays l = e ∙ ap (owner_in p) (stays (omega (arith, owner-end p _ o e)))

      pub owner-moves : o.end ≤ i → owner_in p (o.method + 1) ≡ owner_at p i
      owner-moves l =
          ap (λ m. owner_in p (m + 1)) (owner-method p _ o e) ∙ ap (owner_in p) (moves (omega (arith, owner-end p _ o e)))

      pub owner-most : o.method + 1 ≤ 32
      owner-most =
          omega (arith, owner-method p _ o e, (owner-inside p s k (i - 1) (omega arith)).method, s.methods-most)
