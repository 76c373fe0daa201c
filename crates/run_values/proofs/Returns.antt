-- What an op's function has done at its returns, from what its callees did and how its tests came out.
use Prim.Native.Nat.{ℕ}
use mathlib.Core.Path.{◌≡◌, sym, ◌∙◌, ap}
use mathlib.Core.List.{List}
use borrow.Author.Tests.{eq-eqb, ne_eqb}
use Rattle.run_store.specs.declared.values.Val.{Val}
use Rattle.run_values.specs.ValuesCode.{AfterStep, after_step, unless_empty}
use Rattle.run_values.specs.declared.steps.StepResult.TheVariants.{Empty}

-- a value that was read was empty
pub empty-stops : {u : Val} (v : Val) (w : List ℕ) (d : AfterStep) → u ≡ v → u.tag ≡ 0
    → after_step Empty w ≡ unless_empty v w d
unfolding unless_empty
empty-stops {u} v w d e t = rw (eq-eqb v.tag 0 (ap (λ (x : Val). x.tag) (sym e) ∙ t))

-- or it was not, and the function went on
pub full-goes : {u : Val} (v : Val) (w : List ℕ) (d : AfterStep) {d' : AfterStep} → u ≡ v → (u.tag ≡ 0 → ⊥) → d' ≡ d
    → d' ≡ unless_empty v w d
unfolding unless_empty
full-goes {u} v w d e t p = rw (ne_eqb v.tag 0 (λ z. t (ap (λ (x : Val). x.tag) e ∙ z))) p
