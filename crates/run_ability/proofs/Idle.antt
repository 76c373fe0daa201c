-- A process that cannot move stays so while others move, as long as each of those goes on by itself: it neither comes
-- to stand at an offer nor finishes nor stops. One that moves by itself can move.
use Prim.Native.Nat.{ℕ, ◌%◌, ◌<◌}
use mathlib.Core.Path.{◌≡◌, refl, sym, ◌∙◌, ap, ap₂}
use mathlib.Core.Logic.{◌≢◌, ◌⊎◌, inl, inr, ⊎_elim}
use mathlib.Core.Bool.{Bool, true, false, cond, ◌||◌}
use mathlib.Core.List.{List}
use native.Mathlib.Omega.{arith}
use lib.Dec.{eqb, leb}
use borrow.Author.Tests.{leb-false}
use Rattle.std.specs.Prelude.{None}
use Rattle.run_parts.specs.PartsCode.{part_of}
use Rattle.run_holders.specs.HoldersCode.{holder_in}
use Rattle.run_parts.specs.declared.readiness.Readiness.{Readiness}
use Rattle.run_parts.specs.ReadinessCode.{over_kind, end_offered, readiness_op, meets_op}
use Rattle.run_parts.specs.declared.readiness.Readiness.TheVariants.{Idle, Moves, Sends, Receives}
use Rattle.run_parts.proofs.Standing.{meets-moves}
use Rattle.run_ability.specs.PartnerCode.{opposite_of, Partner, waits, gone, ready, is_no_other, ready_op, is_moving, partner_op}
use Rattle.run_ability.specs.EndingCode.{ability_by, ability_of, ability_op, ending_op}
use Rattle.run_ability.proofs.Scans.{goes_on}

module _ (p work work' : List ℕ) (t : List (List ℕ)) (n : ℕ) (own : part_of work' n ≡ part_of work n)
    (others : (q : ℕ) → q < 8 → (part_of work' q ≡ part_of work q) ⊎ (readiness_op p (part_of work' q) ≡ Moves)) where
  -- its partner is who it was, or is not ready and has not gone
  ready-still : (a : Readiness) (q : ℕ)
      → (ready_op p work' n a q ≡ ready_op p work n a q) ⊎ (ready_op p work' n a q ≡ waits)
  unfolding ready_op is_no_other over_kind
  ready-still a q = near (eqb q n) (leb 8 q) refl
    where
      found : List ℕ → Partner
      found w =
          cond (over_kind (readiness_op p (part_of w q))) gone
          (cond (meets_op a (readiness_op p (part_of w q))) (ready q) waits)

      near : (x y : Bool) → leb 8 q ≡ y
          → (cond (x || y) gone (found work') ≡ cond (x || y) gone (found work)) ⊎
          (cond (x || y) gone (found work') ≡ waits)
      near true y e = inl refl
      near false true e = inl refl
      near false false e =
          ⊎_elim
          (λ s. inl
          (ap
          (λ (w : List ℕ). cond (over_kind (readiness_op p w)) gone
          (cond (meets_op a (readiness_op p w)) (ready q) waits)) s))
          (λ s. inr (ap₂ (λ (x y : Bool). cond x gone (cond y (ready q) waits))
          (ap over_kind s) (ap (meets_op a) s ∙ meets-moves a)))
          (others q (leb-false 8 q e))

  pub still-unable : ability_op p work t n ≢ 1 → ability_op p work' t n ≢ 1
  unfolding ability_op ability_of ability_by partner_op is_moving
  still-unable h e =
      ⊎_elim (λ s. h (sym (ap (ability_by a) s) ∙ same)) (λ s. stays a _ (sym (ap (ability_by a) s) ∙ same) h)
      (ready-still a (holder_in t ((end_offered a).number % 65536) (opposite_of (end_offered a).tag)))
    where
      a : Readiness
      a = readiness_op p (part_of work n)

      same :
          ability_by a
          (ready_op p work' n a (holder_in t ((end_offered a).number % 65536) (opposite_of (end_offered a).tag))) ≡ 1
      same = ap (λ (w : List ℕ). ability_of p work' t n (readiness_op p w)) (sym own) ∙ e

      stays : (b : Readiness) (q : Partner) → ability_by b waits ≡ 1 → ability_by b q ≢ 1 → ⊥
      stays Idle q i u = absurd (omega (arith, i))
      stays Moves q i u = u refl
      stays (Sends f v) q i u = absurd (omega (arith, i))
      stays (Receives f) q i u = absurd (omega (arith, i))

-- a process that moves by itself is able to move
pub alone-able : (p work : List ℕ) (t : List (List ℕ)) (n : ℕ) → readiness_op p (part_of work n) ≡ Moves
    → ability_op p work t n ≡ 1
unfolding ability_op ability_of ability_by
alone-able p work t n e = ap (λ (a : Readiness). ability_of p work t n a) e

-- so the run goes on
pub alone-goes : (p work : List ℕ) (t : List (List ℕ)) (n : ℕ) → n < 8 → readiness_op p (part_of work n) ≡ Moves
    → None ≡ ending_op p work t 8
alone-goes p work t n h k = goes_on p work t 8 n h (sym (alone-able p work t n k)) refl
