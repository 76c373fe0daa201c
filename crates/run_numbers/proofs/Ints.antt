-- The 64-bit sums and differences of moved-up words are the sums and differences of the ints.
use Prim.Native.Nat.{ℕ, zero, suc, ◌+◌, ◌-◌, ◌%◌, ◌≤◌, ◌<◌}
use mathlib.Core.Path.{◌≡◌, refl, sym, ◌∙◌, ap, ap₂, subst}
use mathlib.Core.Logic.{⊎_elim}
use mathlib.Core.Bool.{Bool, true, false, cond}
use native.Mathlib.Nat.{mod-eq_of_lt, add-mod_right}
use native.Mathlib.Omega.{arith}
use lib.IntN.{ℤ, pos, negsuc, sub_ℕ, ◌+ℤ◌, ◌-ℤ◌}
use lib.Signed.{lt_z}
use lib.Dec.{T, eqb, ltb, ltb→lt}
use borrow.Author.Tests.{lt-ltb, le-ltb, eq-eqb, ne_eqb, eqb-true, eqb-false, ltb-true, ltb-false}
use Rattle.lists.proofs.Tests.{decide}
use Rattle.machine.specs.Value.{in_range, word32, eq_z}
use Rattle.run_numbers.specs.NumbersCode.{biased}

-- an int in range, moved up by 2 ^ 31
pub lifted : ℤ → ℕ
lifted (pos n) = 2147483648 + n
lifted (negsuc n) = 2147483647 - n

pub biased-is : (z : ℤ) → T (in_range z) → biased (word32 z) ≡ lifted z
unfolding biased word32 lifted in_range
biased-is (pos n) h =
    let small : n < 2147483648 = ltb→lt n 2147483648 h in
    mod-eq_of_lt (omega arith) ∙ omega arith
biased-is (negsuc n) h =
    let small : n < 2147483648 = ltb→lt n 2147483648 h in
    ap (λ (k : ℕ). k % 4294967296) {x = 4294967295 - n + 2147483648} {y = 2147483647 - n + 4294967296} (omega arith)
    ∙ add-mod_right (2147483647 - n) 4294967296
    ∙ mod-eq_of_lt (omega arith)

-- what 2 ^ 32 more than an int says of it
pub record Shifted (z : ℤ) (s : ℕ) : Type 0 where
  pub low : s < 2147483648 → in_range z ≡ false
  pub high : 6442450944 ≤ s → in_range z ≡ false
  pub inside : 2147483648 ≤ s → s < 6442450944 → (in_range z ≡ true) × (word32 z ≡ s % 4294967296)

shifted-pos : (n s : ℕ) → s ≡ n + 4294967296 → Shifted (pos n) s
unfolding in_range word32
shifted-pos n s e = record {
  low = λ h. absurd (omega arith);
  high = λ h. le-ltb n 2147483648 (omega arith);
  inside =
      λ h k. (
        lt-ltb n 2147483648 (omega arith),
        sym (ap (λ (x : ℕ). x % 4294967296) e ∙ add-mod_right n 4294967296
            ∙ mod-eq_of_lt (omega arith)),
      );
}

shifted-neg : (n s : ℕ) → s + n ≡ 4294967295 → Shifted (negsuc n) s
unfolding in_range word32
shifted-neg n s e = record {
  low = λ h. le-ltb n 2147483648 (omega arith);
  high = λ h. absurd (omega arith);
  inside = λ h k. (lt-ltb n 2147483648 (omega arith), omega arith ∙ sym (mod-eq_of_lt (omega arith)));
}

-- a difference of naturals
shifted-sub : (a b s : ℕ) → s + b ≡ a + 4294967296 → Shifted (sub_ℕ a b) s
shifted-sub a b s e = ⊎_elim (λ t. below (ltb-true a b t) t) (λ t. above (ltb-false a b t) t) (decide (ltb a b))
  where
    below : a < b → ltb a b ≡ true → Shifted (sub_ℕ a b) s
    below h t =
        subst (λ (x : Bool). Shifted (cond x (negsuc (b - suc a)) (pos (a - b))) s) (sym t)
        (shifted-neg (b - suc a) s (omega arith))

    above : b ≤ a → ltb a b ≡ false → Shifted (sub_ℕ a b) s
    above h t =
        subst (λ (x : Bool). Shifted (cond x (negsuc (b - suc a)) (pos (a - b))) s) (sym t)
        (shifted-pos (a - b) s (omega arith))

lifted-sum : (x y : ℤ) → T (in_range x) → T (in_range y) → Shifted (x +ℤ y) (lifted x + lifted y)
unfolding lifted in_range
lifted-sum (pos a) (pos b) hx hy = shifted-pos (a + b) (2147483648 + a + (2147483648 + b)) (omega arith)
lifted-sum (pos a) (negsuc b) hx hy =
    shifted-sub a (suc b) (2147483648 + a + (2147483647 - b)) (omega (arith, ltb→lt b 2147483648 hy))
lifted-sum (negsuc a) (pos b) hx hy =
    shifted-sub b (suc a) (2147483647 - a + (2147483648 + b)) (omega (arith, ltb→lt a 2147483648 hx))
lifted-sum (negsuc a) (negsuc b) hx hy =
    shifted-neg (suc (a + b)) (2147483647 - a + (2147483647 - b))
    (omega (arith, ltb→lt a 2147483648 hx, ltb→lt b 2147483648 hy))

lifted-difference : (x y : ℤ) → T (in_range x) → T (in_range y) → Shifted (x -ℤ y) (lifted x + 4294967296 - lifted y)
unfolding lifted in_range
lifted-difference (pos a) (pos zero) hx hy =
    shifted-pos (a + 0) (2147483648 + a + 4294967296 - (2147483648 + 0)) (omega arith)
lifted-difference (pos a) (pos (suc b)) hx hy =
    shifted-sub a (suc b) (2147483648 + a + 4294967296 - (2147483648 + suc b))
    (omega (arith, ltb→lt (suc b) 2147483648 hy))
lifted-difference (pos a) (negsuc b) hx hy =
    shifted-pos (a + suc b) (2147483648 + a + 4294967296 - (2147483647 - b)) (omega (arith, ltb→lt b 2147483648 hy))
lifted-difference (negsuc a) (pos zero) hx hy =
    shifted-sub 0 (suc a) (2147483647 - a + 4294967296 - (2147483648 + 0)) (omega (arith, ltb→lt a 2147483648 hx))
lifted-difference (negsuc a) (pos (suc b)) hx hy =
    shifted-neg (suc (a + b)) (2147483647 - a + 4294967296 - (2147483648 + suc b))
    (omega (arith, ltb→lt a 2147483648 hx, ltb→lt (suc b) 2147483648 hy))
lifted-difference (negsuc a) (negsuc b) hx hy =
    shifted-sub (suc b) (suc a) (2147483647 - a + 4294967296 - (2147483647 - b))
    (omega (arith, ltb→lt a 2147483648 hx, ltb→lt b 2147483648 hy))

pub sum_shifted : (x y : ℤ) → T (in_range x) → T (in_range y) → Shifted (x +ℤ y) (biased (word32 x) + biased (word32 y))
sum_shifted x y hx hy =
    subst (Shifted (x +ℤ y)) (sym (ap₂ ◌+◌ (biased-is x hx) (biased-is y hy))) (lifted-sum x y hx hy)

pub difference-shifted : (x y : ℤ) → T (in_range x) → T (in_range y)
    → Shifted (x -ℤ y) (biased (word32 x) + 4294967296 - biased (word32 y))
difference-shifted x y hx hy =
    subst (Shifted (x -ℤ y)) (sym (ap₂ (λ (a b : ℕ). a + 4294967296 - b) (biased-is x hx) (biased-is y hy)))
    (lifted-difference x y hx hy)

-- the order and equality

test-same : (a b c d : ℕ) → (a < b → c < d) → (b ≤ a → d ≤ c) → ltb a b ≡ ltb c d
test-same a b c d f g =
    ⊎_elim (λ t. t ∙ sym (lt-ltb c d (f (ltb-true a b t)))) (λ t. t ∙ sym (le-ltb c d (g (ltb-false a b t))))
    (decide (ltb a b))

lifted-less : (x y : ℤ) → T (in_range x) → T (in_range y) → ltb (lifted x) (lifted y) ≡ lt_z x y
unfolding lifted in_range
lifted-less (pos a) (pos b) hx hy =
    test-same (2147483648 + a) (2147483648 + b) a b (λ h. omega arith) (λ h. omega arith)
lifted-less (pos a) (negsuc b) hx hy = le-ltb (2147483648 + a) (2147483647 - b) (omega arith)
lifted-less (negsuc a) (pos b) hx hy = lt-ltb (2147483647 - a) (2147483648 + b) (omega arith)
lifted-less (negsuc a) (negsuc b) hx hy =
    let small : a < 2147483648 = ltb→lt a 2147483648 hx in
    let little : b < 2147483648 = ltb→lt b 2147483648 hy in
    test-same (2147483647 - a) (2147483647 - b) b a (λ h. omega arith) (λ h. omega arith)

pub less-same : (x y : ℤ) → T (in_range x) → T (in_range y) → ltb (biased (word32 x)) (biased (word32 y)) ≡ lt_z x y
less-same x y hx hy = ap₂ ltb (biased-is x hx) (biased-is y hy) ∙ lifted-less x y hx hy

equal-same : (a b c d : ℕ) → (a ≡ b → c ≡ d) → (c ≡ d → a ≡ b) → eqb a b ≡ eqb c d
equal-same a b c d f g =
    ⊎_elim (λ t. t ∙ sym (eq-eqb c d (f (eqb-true a b t)))) (λ t. t ∙ sym (ne_eqb c d (λ e. eqb-false a b t (g e))))
    (decide (eqb a b))

pub words_same : (x y : ℤ) → T (in_range x) → T (in_range y) → eqb (word32 x) (word32 y) ≡ eq_z x y
unfolding word32 eq_z in_range
words_same (pos a) (pos b) hx hy = refl
words_same (pos a) (negsuc b) hx hy =
    let small : a < 2147483648 = ltb→lt a 2147483648 hx in
    let little : b < 2147483648 = ltb→lt b 2147483648 hy in
    ne_eqb a (4294967295 - b) (λ e. omega arith)
words_same (negsuc a) (pos b) hx hy =
    let small : a < 2147483648 = ltb→lt a 2147483648 hx in
    let little : b < 2147483648 = ltb→lt b 2147483648 hy in
    ne_eqb (4294967295 - a) b (λ e. omega arith)
words_same (negsuc a) (negsuc b) hx hy =
    let small : a < 2147483648 = ltb→lt a 2147483648 hx in
    let little : b < 2147483648 = ltb→lt b 2147483648 hy in
    equal-same (4294967295 - a) (4294967295 - b) a b (λ e. omega arith) (λ e. omega arith)
