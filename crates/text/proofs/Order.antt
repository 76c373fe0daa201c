-- Main first: the same methods in another order, as many of them and with as many instructions.
use Prim.Native.Nat.{ℕ, zero, suc, ◌+◌}
use native.Mathlib.Omega.{arith}
use mathlib.Core.Path.{◌≡◌, refl, sym, ap, subst, ◌∙◌}
use mathlib.Core.Bool.{Bool, true, false, cond, not, ◌||◌}
use mathlib.Core.List.{[], ◌∷◌, ◌++◌}
use mathlib.Core.Option.{some, none-ne-some, some-injective}
use lib.ListN.{length, length-append}
use lib.Dec.{T}
use Rattle.lists.specs.Lists.{any, All}
use Rattle.lists.proofs.Tests.{passes, cond-each}
use Rattle.lists.proofs.Any.{All-append, All-implies}
use Rattle.text.specs.Tree.{Method, Program, method_at, is_main, mains, without_main, main_first}
use Rattle.text.specs.Translation.{method_code, program_code}

-- what holds of all methods holds of the method of a number
pub all-method : (P : Method → Type 0) (ms : Program) → All P ms → (n : ℕ) (m : Method) → method_at ms n ≡ some m → P m
unfolding method_at
all-method P [] a n m e = absurd (none-ne-some m e)
all-method P (k ∷ ms) (h, a) zero m e = subst P (some-injective k m e) h
all-method P (k ∷ ms) (h, a) (suc n) m e = all-method P ms a n m e

-- Mains and the others

-- what holds of all methods holds of the mains
pub all-mains : (P : Method → Type 0) (ms : Program) → All P ms → All (λ m. T (is_main m) × P m) (mains ms)
unfolding mains
all-mains P [] a = tt
all-mains P (m ∷ ms) (h, a) =
    cond-each (All (λ m. T (is_main m) × P m)) (is_main m) {x = m ∷ mains ms} (λ e. ((passes e, h), all-mains P ms a))
    (λ e. all-mains P ms a)

-- and of the others, which are no mains
pub all_others : (P : Method → Type 0) (ms : Program) → All P ms → All (λ m. T (not (is_main m)) × P m) (without_main ms)
unfolding without_main
all_others P [] a = tt
all_others P (m ∷ ms) (h, a) =
    cond-each (All (λ m. T (not (is_main m)) × P m)) (is_main m) {y = m ∷ without_main ms} (λ e. all_others P ms a)
    (λ e. ((passes (ap not e), h), all_others P ms a))

-- the property that says nothing holds of all methods
pub any-method : (ms : Program) → All (λ m. Unit {0}) ms
any-method [] = tt
any-method (m ∷ ms) = (tt, any-method ms)

-- what holds of all methods holds of them main first
pub all-main_first : (P : Method → Type 0) (ms : Program) → All P ms → All P (main_first ms)
unfolding main_first
all-main_first P ms a =
    All-append P (mains ms) (without_main ms)
    (All-implies (λ m. T (is_main m) × P m) P (λ m h. h.1) (mains ms) (all-mains P ms a))
    (All-implies (λ m. T (not (is_main m)) × P m) P (λ m h. h.1) (without_main ms) (all_others P ms a))

-- a number for each method, summed
sum_of : (Method → ℕ) → Program → ℕ
sum_of f [] = 0
sum_of f (m ∷ ms) = f m + sum_of f ms

-- sums of methods after one another
sum_of-append : (f : Method → ℕ) (ms ks : Program) → sum_of f (ms ++ ks) ≡ sum_of f ms + sum_of f ks
unfolding sum_of
sum_of-append f [] ks = omega arith
sum_of-append f (m ∷ ms) ks = omega (arith, sum_of-append f ms ks)

-- of the mains and the others
sum_of-parts : (f : Method → ℕ) (ms : Program) → sum_of f (mains ms) + sum_of f (without_main ms) ≡ sum_of f ms
unfolding sum_of mains without_main
sum_of-parts f [] = refl
sum_of-parts f (m ∷ ms) = step (is_main m) (sum_of-parts f ms)
  where
    step : (b : Bool) → sum_of f (mains ms) + sum_of f (without_main ms) ≡ sum_of f ms
        → sum_of f (cond b (m ∷ mains ms) (mains ms)) + sum_of f (cond b (without_main ms) (m ∷ without_main ms))
        ≡ f m + sum_of f ms
    step true e = omega arith
    step false e = omega arith

-- and main first
sum_of-main_first : (f : Method → ℕ) (ms : Program) → sum_of f (main_first ms) ≡ sum_of f ms
unfolding main_first
sum_of-main_first f ms = sum_of-append f (mains ms) (without_main ms) ∙ sum_of-parts f ms

-- as many methods in the one order as in the other
length-sum : (ms : Program) → length ms ≡ sum_of (λ m. 1) ms
unfolding sum_of
length-sum [] = refl
length-sum (m ∷ ms) = omega (arith, length-sum ms)

-- so the lengths are equal
pub main_first-length : (ms : Program) → length (main_first ms) ≡ length ms
main_first-length ms = length-sum (main_first ms) ∙ sum_of-main_first (λ m. 1) ms ∙ sym (length-sum ms)

-- as many instructions in the one order as in the other
code_sum : (qs ms : Program) → length (program_code qs ms) ≡ sum_of (λ m. length (method_code qs m)) ms
unfolding sum_of program_code
code_sum qs [] = refl
code_sum qs (m ∷ ms) = omega (arith, length-append (method_code qs m) (program_code qs ms), code_sum qs ms)

-- so are the lengths of the code
pub main_first-code : (qs ms : Program) → length (program_code qs (main_first ms)) ≡ length (program_code qs ms)
main_first-code qs ms =
    code_sum qs (main_first ms) ∙ sum_of-main_first (λ m. length (method_code qs m)) ms ∙ sym (code_sum qs ms)

-- where some method is a main, there is a first main
mains-some : (ms : Program) → T (any is_main ms) → (m : Method) × (rest : Program) × (mains ms ≡ m ∷ rest)
unfolding mains
mains-some [] t = absurd t
mains-some (m ∷ ms) t = step (is_main m) (mains-some ms) t
  where
    step : (b : Bool) → (T (any is_main ms) → (k : Method) × (rest : Program) × (mains ms ≡ k ∷ rest))
        → T (b || any is_main ms) → (k : Method) × (rest : Program) × (cond b (m ∷ mains ms) (mains ms) ≡ k ∷ rest)
    step true ih t = (m, mains ms, refl)
    step false ih t = ih t

-- and it is method 0
pub main-first : (ms : Program) → T (any is_main ms) → (m : Method) × (method_at (main_first ms) 0 ≡ some m) × T (is_main m)
unfolding main_first method_at
main-first ms t =
    let (m, rest, e) = mains-some ms t in
    let first = subst (All (λ m. T (is_main m) × Unit {0})) e (all-mains (λ m. Unit {0}) ms (any-method ms)) in
    (m, ap (λ ks. method_at (ks ++ without_main ms) 0) e, first.0.0)
