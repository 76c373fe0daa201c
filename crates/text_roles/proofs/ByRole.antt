-- A law of every role from the laws of each.
use Prim.Native.Nat.{ℕ}
use mathlib.Core.Path.{◌≡◌, refl, sym, subst}
use mathlib.Core.Bool.{Bool, true, false}
use lib.Dec.{eqb, eqb→eq}
use Rattle.lists.proofs.Tests.{passes}

-- a number that is none of 1 to 8
pub record Other (r : ℕ) : Type 0 where
  pub not-1 : eqb r 1 ≡ false
  pub not-2 : eqb r 2 ≡ false
  pub not-3 : eqb r 3 ≡ false
  pub not-4 : eqb r 4 ≡ false
  pub not-5 : eqb r 5 ≡ false
  pub not-6 : eqb r 6 ≡ false
  pub not-7 : eqb r 7 ≡ false
  pub not-8 : eqb r 8 ≡ false

either : (P : ℕ → Type 0) (r j : ℕ) → P j → (eqb r j ≡ false → P r) → P r
either P r j p q = by (eqb r j) refl
  where
    by : (b : Bool) → eqb r j ≡ b → P r
    by true e = subst P (sym (eqb→eq r j (passes e))) p
    by false e = q e

pub by-role : (P : ℕ → Type 0) → P 1 → P 2 → P 3 → P 4 → P 5 → P 6 → P 7 → P 8 → ((r : ℕ) → Other r → P r)
    → (r : ℕ) → P r
by-role P p1 p2 p3 p4 p5 p6 p7 p8 other r =
    either P r 1 p1 (λ e1. either P r 2 p2 (λ e2. either P r 3 p3 (λ e3. either P r 4 p4 (λ e4.
    either P r 5 p5 (λ e5. either P r 6 p6 (λ e6. either P r 7 p7 (λ e7. either P r 8 p8 (λ e8.
    other r (record {
      not-1 = e1;
      not-2 = e2;
      not-3 = e3;
      not-4 = e4;
      not-5 = e5;
      not-6 = e6;
      not-7 = e7;
      not-8 = e8;
    })))))))))
