-- What JFALSE has done at its returns, from what its callees did and how its test came out.
use mathlib.Core.Path.{◌≡◌, sym, ◌∙◌, ap}
use mathlib.Core.Bool.{cond}
use lib.Dec.{eqb}
use borrow.Author.Tests.{eq-eqb, ne_eqb}
use Rattle.run_store.specs.declared.values.Val.{Val}
use Rattle.run_values.specs.ValuesCode.{AfterStep}

-- JFALSE on false, and on true
pub jfalse-jumps : {u : Val} {d : AfterStep} (v : Val) (x y : AfterStep) → u ≡ v → u.number ≡ 0 → d ≡ x
    → d ≡ cond (eqb v.number 0) x y
jfalse-jumps v x y e t p = rw (eq-eqb v.number 0 (ap (λ (z : Val). z.number) (sym e) ∙ t)) p

pub jfalse-goes : {u : Val} {d : AfterStep} (v : Val) (x y : AfterStep) → u ≡ v → (u.number ≡ 0 → ⊥) → d ≡ y
    → d ≡ cond (eqb v.number 0) x y
jfalse-goes v x y e t p = rw (ne_eqb v.number 0 (λ z. t (ap (λ (o : Val). o.number) e ∙ z))) p
