-- One process after the other asked what it can do.
use Prim.Native.Nat.{ℕ, zero, suc, ◌+◌, ◌<◌}
use mathlib.Core.Path.{◌≡◌, refl, sym, ◌∙◌, ap}
use mathlib.Core.Logic.{⊎_elim}
use mathlib.Core.Bool.{Bool, true, false, cond, ◌||◌}
use mathlib.Core.List.{List}
use native.Mathlib.Nat.{le_of_suc-le-suc, not-suc-le-zero, eq-or-lt_of_le}
use native.Mathlib.Numerals.{add-one}
use lib.Dec.{eqb}
use borrow.Author.Tests.{eq-eqb, ne_eqb}
use Rattle.std.specs.Prelude.{Option, Some, None}
use native.Mathlib.Omega.{arith}
use Rattle.run_ability.specs.declared.ends.End.{End}
use Rattle.run_ability.specs.declared.ends.End.TheVariants.{ScheduleUsed, AllOver, NoneAble}
use Rattle.run_ability.specs.EndNumbers.{end_number}
use Rattle.run_ability.specs.EndingCode.{ability_op, some_is, ending_op}

or-false : (b : Bool) → (b || false) ≡ b
or-false true = refl
or-false false = refl

or-true : (b : Bool) → (b || true) ≡ true
or-true true = refl
or-true false = refl

module _ (p work : List ℕ) (t : List (List ℕ)) where
  -- process j has ability r, which is k or is not
  pub not-one : (k j : ℕ) {r : ℕ} → r ≡ ability_op p work t j → (r ≡ k → ⊥)
      → some_is p work t k (j + 1) ≡ some_is p work t k j
  unfolding some_is
  not-one k j e n =
      ap (some_is p work t k) (add-one j)
      ∙ ap (λ (b : Bool). some_is p work t k j || b) (ne_eqb (ability_op p work t j) k (λ z. n (e ∙ z)))
      ∙ or-false (some_is p work t k j)

  pub one_more : (k j : ℕ) {r : ℕ} → r ≡ ability_op p work t j → r ≡ k → some_is p work t k (j + 1) ≡ true
  unfolding some_is
  one_more k j e h =
      ap (some_is p work t k) (add-one j)
      ∙ ap (λ (b : Bool). some_is p work t k j || b) (eq-eqb (ability_op p work t j) k (sym e ∙ h))
      ∙ or-true (some_is p work t k j)

  -- one of n has it
  pub one_of : (k n j : ℕ) {r : ℕ} → j < n → r ≡ ability_op p work t j → r ≡ k → some_is p work t k n ≡ true
  unfolding some_is
  one_of k zero j h e q = absurd (not-suc-le-zero h)
  one_of k (suc n) j {r} h e q =
      ⊎_elim
      (λ z. ap (λ (b : Bool). some_is p work t k n || b)
      (eq-eqb (ability_op p work t n) k (ap (ability_op p work t) (sym z) ∙ sym e ∙ q))
      ∙ or-true (some_is p work t k n))
      (λ l. ap (λ (b : Bool). b || eqb (ability_op p work t n) k) (one_of k n j l e q))
      (eq-or-lt_of_le (le_of_suc-le-suc h))

  -- the run goes on where one can move, and otherwise ends by whether one waits
  pub goes_on : (n j : ℕ) {r : ℕ} → j < n → r ≡ ability_op p work t j → r ≡ 1 → None ≡ ending_op p work t n
  unfolding ending_op
  goes_on n j h e q =
      sym (ap (λ (b : Bool). cond b None (Some (cond (some_is p work t 2 n) NoneAble AllOver))) (one_of 1 n j h e q))

  pub over : (n : ℕ) {r : End} → some_is p work t 1 n ≡ false → r ≡ cond (some_is p work t 2 n) NoneAble AllOver
      → Some r ≡ ending_op p work t n
  unfolding ending_op
  over n e q =
      ap {B = Option End} Some q
      ∙ sym (ap (λ (b : Bool). cond b None (Some (cond (some_is p work t 2 n) NoneAble AllOver))) e)

-- an end that the processes give is not that of a schedule used up
pub ending-other : (p work : List ℕ) (t : List (List ℕ)) (n : ℕ) → ending_op p work t n ≡ Some ScheduleUsed → ⊥
unfolding ending_op end_number
ending-other p work t n e = go (some_is p work t 1 n) (some_is p work t 2 n) e
  where
    some : Option End → ℕ
    some None = 0
    some (Some f) = suc (end_number f)

    go : (b c : Bool) → cond b None (Some (cond c NoneAble AllOver)) ≡ Some ScheduleUsed → ⊥
    go true c i = absurd (omega (arith, ap some i))
    go false true i = absurd (omega (arith, ap some i))
    go false false i = absurd (omega (arith, ap some i))
