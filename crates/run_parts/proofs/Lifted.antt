-- One law lifts whatever is done to a lent part to the store.
use Prim.Native.Nat.{ℕ, ◌+◌, ◌-◌}
use mathlib.Core.Path.{◌≡◌, ◌∙◌, ap, ap₂}
use mathlib.Core.List.{List}
use native.Mathlib.Omega.{arith}
use borrow.Rule.Slice.PartMut.{mid_of, put_mid}
use Rattle.run_values.specs.ValuesCode.{AfterStep, after_step}
use Rattle.run_values.specs.declared.steps.StepResult.{StepResult}
use Rattle.run_parts.specs.PartsCode.{part_at, part_of, with_part, on_part}

-- the words of a store that are lent as a part, from `from` on, and the store with what was made of them
abbrev pub lent : List ℕ → ℕ → List ℕ
lent work from = mid_of from (from + 512 - from) work

abbrev pub returned : List ℕ → ℕ → List ℕ → List ℕ
returned work from ys = put_mid from (from + 512 - from) work ys

size : (a : ℕ) → a + 512 - a ≡ 512
size a = omega arith

-- lent from where part n begins, they are part n
pub part-lent : (work : List ℕ) (n : ℕ) {from : ℕ} → from ≡ part_at n → lent work from ≡ part_of work n
unfolding part_of
part-lent work n {from} at = ap₂ (λ (a k : ℕ). mid_of a k work) at (size from)

part-returned : (work : List ℕ) (n : ℕ) {from : ℕ} → from ≡ part_at n → (ys : List ℕ)
    → returned work from ys ≡ with_part work n ys
unfolding with_part
part-returned work n {from} at ys = ap₂ (λ (a k : ℕ). put_mid a k work ys) at (size from)

pub lifted-words : (work : List ℕ) (n : ℕ) {from : ℕ} → from ≡ part_at n → (ys : List ℕ) (g : List ℕ → List ℕ)
    → ys ≡ g (lent work from) → returned work from ys ≡ with_part work n (g (part_of work n))
lifted-words work n at ys g e =
    part-returned work n at ys ∙ ap (with_part work n) (e ∙ ap g (part-lent work n at))

pub lifted : (work : List ℕ) (n : ℕ) {from : ℕ} → from ≡ part_at n
    → (r : StepResult) (ys : List ℕ) (g : List ℕ → AfterStep)
    → after_step r ys ≡ g (lent work from) → after_step r (returned work from ys) ≡ on_part work n (g (part_of work n))
unfolding on_part
lifted work n at r ys g e =
    ap (after_step r) (part-returned work n at ys)
    ∙ ap (λ (d : AfterStep). after_step d.result (with_part work n d.words)) (e ∙ ap g (part-lent work n at))
