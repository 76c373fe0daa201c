-- What the code's tests of numbers say of the definitions.
use Prim.Native.Nat.{ℕ, zero, suc, ◌+◌, ◌-◌, ◌≤◌}
use native.Mathlib.Omega.{arith}
use mathlib.Core.Path.{◌≡◌, refl, sym, ap, ◌∙◌}
use mathlib.Core.Bool.{Bool, true, false, cond, ◌&&◌}
use lib.Dec.{eqb}
use Rattle.std.specs.Int.{from_bool}
use borrow.Author.Tests.{eq-eqb, ne_eqb}
use Rattle.text_scan.specs.ScanCode.{is_none, less_one, braces_after, depth_after, count_after}

pub none-test : (n : ℕ) → is_none n ≡ eqb n 0
unfolding is_none
none-test zero = refl
none-test (suc n) = sym (ne_eqb (suc n) 0 (λ e. omega arith))

pub less-one : (n : ℕ) {r : ℕ} → r ≡ n - 1 → r ≡ less_one n
unfolding less_one
less-one zero e = omega (arith, e)
less-one (suc n) e = omega (arith, e)

-- one more, where it counts
pub one-if : (b : Bool) (i : ℕ) {n : ℕ} → n ≡ from_bool b → i + n ≡ cond b (suc i) i
one-if true i e = omega (arith, e)
one-if false i e = omega (arith, e)

pub one-most : (b : Bool) {n : ℕ} → n ≡ from_bool b → n ≤ 1
one-most true e = omega (arith, e)
one-most false e = omega (arith, e)

-- after a token of kind k: the brace or bracket that opens, the one that closes, or another token
pub braces-open : (b k : ℕ) → k ≡ 21 → b + 1 ≡ braces_after b k
unfolding braces_after
braces-open b k e = rw (eq-eqb k 21 e) (omega arith)

pub braces-close : (b k : ℕ) {r : ℕ} → (k ≡ 21 → ⊥) → k ≡ 22 → r ≡ less_one b → r ≡ braces_after b k
unfolding braces_after
braces-close b k f e q = rw (ne_eqb k 21 f, eq-eqb k 22 e) q

pub braces-keep : (b k : ℕ) → (k ≡ 21 → ⊥) → (k ≡ 22 → ⊥) → b ≡ braces_after b k
unfolding braces_after
braces-keep b k f g = rw (ne_eqb k 21 f, ne_eqb k 22 g) refl

pub depth-open : (b k : ℕ) → k ≡ 19 → b + 1 ≡ depth_after b k
unfolding depth_after
depth-open b k e = rw (eq-eqb k 19 e) (omega arith)

pub depth-close : (b k : ℕ) {r : ℕ} → (k ≡ 19 → ⊥) → k ≡ 20 → r ≡ less_one b → r ≡ depth_after b k
unfolding depth_after
depth-close b k f e q = rw (ne_eqb k 19 f, eq-eqb k 20 e) q

pub depth-keep : (b k : ℕ) → (k ≡ 19 → ⊥) → (k ≡ 20 → ⊥) → b ≡ depth_after b k
unfolding depth_after
depth-keep b k f g = rw (ne_eqb k 19 f, ne_eqb k 20 g) refl

-- a count, by the code's test
pub count-test : (d n k : ℕ) → count_after d n k ≡ cond (eqb d 0 && eqb k 25) (suc n) n
unfolding count_after
count-test d n k = ap (λ (b : Bool). cond (b && eqb k 25) (suc n) n) (none-test d)

pub counted : (d n k : ℕ) → (eqb d 0 && eqb k 25) ≡ true → n + 1 ≡ count_after d n k
counted d n k e = let s : n + 1 ≡ suc n = omega arith in s ∙ sym
    (count-test d n k ∙ ap (λ (b : Bool). cond b (suc n) n) e)

pub not-counted : (d n k : ℕ) → (eqb d 0 && eqb k 25) ≡ false → n ≡ count_after d n k
not-counted d n k e = sym (count-test d n k ∙ ap (λ (b : Bool). cond b (suc n) n) e)
