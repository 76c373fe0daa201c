-- Gaps by sums. The gaps from a to a' and from b to b' are equal exactly if a' + b = b' + a, the sums that the code
-- compares.
use Prim.Native.Nat.{ℕ, zero, suc, ◌+◌, ◌-◌, ◌≤◌, ◌<◌}
use mathlib.Core.Path.{◌≡◌, refl, sym, ◌∙◌, ap, ap₂}
use mathlib.Core.Bool.{Bool, true, false, true≢false}
use native.Mathlib.Omega.{arith}
use borrow.Author.Tests.{ltb-true, ltb-false, le-ltb, eqb-true, eq-eqb, ne_eqb}
use lib.Dec.{eqb, ltb}
use lib.IntN.{ℤ, pos, negsuc, sub_ℕ, ◌-ℤ◌}
use Rattle.lists.proofs.Tests.{cond-each}
use Rattle.machine.specs.Value.{eq_z}
use Rattle.machine.specs.State.{Line}
use Rattle.trace.specs.Trace.{gap}

-- two tests that follow from each other come out alike
pub both_ways : (a b : Bool) → (a ≡ true → b ≡ true) → (b ≡ true → a ≡ true) → a ≡ b
both_ways true b f g = sym (f refl)
both_ways false true f g = g refl
both_ways false false f g = refl

-- the test of two ints, as an equation
pub eq_z-same : (x : ℤ) → eq_z x x ≡ true
unfolding eq_z
eq_z-same (pos n) = eq-eqb n n refl
eq_z-same (negsuc n) = eq-eqb n n refl

pub eq_z-equal : (x y : ℤ) → eq_z x y ≡ true → x ≡ y
unfolding eq_z
eq_z-equal (pos m) (pos n) e = ap pos (eqb-true m n e)
eq_z-equal (pos m) (negsuc n) e = absurd (true≢false (sym e))
eq_z-equal (negsuc m) (pos n) e = absurd (true≢false (sym e))
eq_z-equal (negsuc m) (negsuc n) e = ap negsuc (eqb-true m n e)

-- a difference of two numbers, by which of them is less
minus : (x y : ℕ) → pos x -ℤ pos y ≡ sub_ℕ x y
minus x zero = rw (le-ltb x 0 (omega arith)) (ap pos (omega arith))
minus x (suc y) = refl

-- two equations of numbers that follow from each other
eqb-both : (a b c d : ℕ) → (a ≡ b → c ≡ d) → (c ≡ d → a ≡ b) → eqb a b ≡ eqb c d
eqb-both a b c d f g =
    both_ways (eqb a b) (eqb c d) (λ e. eq-eqb c d (f (eqb-true a b e))) (λ e. eq-eqb a b (g (eqb-true c d e)))

-- two differences are equal exactly if the sums across are
across : (x y u v : ℕ) → eqb (x + v) (u + y) ≡ eq_z (pos x -ℤ pos y) (pos u -ℤ pos v)
unfolding eq_z
across x y u v = by-signs ∙ sym (ap₂ eq_z (minus x y) (minus u v))
  where
    by-signs : eqb (x + v) (u + y) ≡ eq_z (sub_ℕ x y) (sub_ℕ u v)
    by-signs =
        cond-each (λ (z : ℤ). eqb (x + v) (u + y) ≡ eq_z z (sub_ℕ u v)) (ltb x y)
        (λ s. let h : x < y = ltb-true x y s in
        cond-each (λ (z : ℤ). eqb (x + v) (u + y) ≡ eq_z (negsuc (y - suc x)) z) (ltb u v)
        (λ t. let k : u < v = ltb-true u v t in
        eqb-both (x + v) (u + y) (y - suc x) (v - suc u) (λ e. omega arith) (λ e. omega arith))
        (λ t. let k : v ≤ u = ltb-false u v t in ne_eqb (x + v) (u + y) (λ e. omega arith)))
        (λ s. let h : y ≤ x = ltb-false x y s in
        cond-each (λ (z : ℤ). eqb (x + v) (u + y) ≡ eq_z (pos (x - y)) z) (ltb u v)
        (λ t. let k : u < v = ltb-true u v t in ne_eqb (x + v) (u + y) (λ e. omega arith))
        (λ t. let k : v ≤ u = ltb-false u v t in
        eqb-both (x + v) (u + y) (x - y) (u - v) (λ e. omega arith) (λ e. omega arith)))

-- the gaps from l to n and from m to o
pub gap-sums : (l n m o : Line) → eqb (n.entry + m.entry) (o.entry + l.entry) ≡ eq_z (gap l n) (gap m o)
unfolding gap
gap-sums l n m o = across n.entry l.entry o.entry m.entry
