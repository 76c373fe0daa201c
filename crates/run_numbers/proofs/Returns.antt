-- What an op's function has done at its returns, from what its callees did and how its tests came out.
use Prim.Native.Nat.{ℕ, ◌%◌, ◌≤◌, ◌<◌}
use mathlib.Core.Path.{◌≡◌, refl, sym, ◌∙◌, ap, ap₂}
use Rattle.std.specs.Prelude.{Option, None, Some}
use mathlib.Core.Bool.{Bool, true, false, cond}
use mathlib.Core.List.{List}
use borrow.Author.Tests.{lt-ltb, le-ltb, le-leb, lt-leb}
use Rattle.run_store.specs.declared.head.Head.{Head}
use Rattle.run_store.specs.StoreCode.{value_at, top_at}
use Rattle.run_values.specs.ValuesCode.{AfterStep, after_step, int_val, over_two, empty_two}
use Rattle.run_values.specs.declared.steps.StepResult.TheVariants.{WentOn, Empty, OutOfRange}
use Rattle.run_numbers.specs.NumbersCode.{two_numbers, two_op, result_op}

-- what two operands come to, by their numbers
by_numbers : List ℕ → (ℕ → ℕ → AfterStep) → Option (ℕ × ℕ) → AfterStep
by_numbers w k None = after_step Empty w
by_numbers w k (Some xs) = k xs.0 xs.1

two-by : (w : List ℕ) (h : Head) (k : ℕ → ℕ → AfterStep) → by_numbers w k (two_numbers w h) ≡ two_op w h k
unfolding two_op two_numbers by_numbers
two-by w h k = go (empty_two w h)
  where
    x : ℕ
    x = (value_at w (top_at h 2)).number

    y : ℕ
    y = (value_at w (top_at h 1)).number

    go : (b : Bool) → by_numbers w k (cond b None (Some (x, y))) ≡ cond b (after_step Empty w) (k x y)
    go true = refl
    go false = refl

-- one of two operands was empty; or none was, and the function went on
pub two-none : {o : Option (ℕ × ℕ)} (w : List ℕ) (h : Head) (k : ℕ → ℕ → AfterStep) → o ≡ two_numbers w h → o ≡ None
    → after_step Empty w ≡ two_op w h k
unfolding by_numbers
two-none w h k e t = ap (by_numbers w k) (sym t ∙ e) ∙ two-by w h k

pub two-some : {o : Option (ℕ × ℕ)} {x y : ℕ} {d : AfterStep} (w : List ℕ) (h : Head) (k : ℕ → ℕ → AfterStep)
    → o ≡ two_numbers w h → o ≡ Some (x, y) → d ≡ k x y → d ≡ two_op w h k
unfolding by_numbers
two-some w h k e t r = r ∙ ap (by_numbers w k) (sym t ∙ e) ∙ two-by w h k

-- the same by the test alone
pub two-go : {b : Bool} {x y : ℕ} {d : AfterStep} (w : List ℕ) (h : Head) (k : ℕ → ℕ → AfterStep) → b ≡ empty_two w h
    → b ≡ false
    → x ≡ (value_at w (top_at h 2)).number → y ≡ (value_at w (top_at h 1)).number → d ≡ k x y → d ≡ two_op w h k
unfolding two_op
two-go w h k e t p q r = rw (sym e ∙ t) (r ∙ ap₂ k p q)

-- an int in range, or not
pub result_low : (w : List ℕ) (h : Head) (s : ℕ) → s < 2147483648 → after_step OutOfRange w ≡ result_op w h s
unfolding result_op
result_low w h s t = rw (lt-ltb s 2147483648 t)

pub result-high : (w : List ℕ) (h : Head) (s : ℕ) → 2147483648 ≤ s → 6442450944 ≤ s
    → after_step OutOfRange w ≡ result_op w h s
unfolding result_op
result-high w h s t u = rw (le-ltb s 2147483648 t, le-leb 6442450944 s u)

pub result-in : (w : List ℕ) (h : Head) (s : ℕ) → 2147483648 ≤ s → s < 6442450944
    → after_step WentOn (over_two w h (int_val (s % 4294967296))) ≡ result_op w h s
unfolding result_op
result-in w h s t u = rw (le-ltb s 2147483648 t, lt-leb 6442450944 s u)
