-- Laws of tests: what a passed or failed test says, and case distinctions on one.
use mathlib.Core.Path.{◌≡◌, refl, sym, ◌∙◌, subst}
use mathlib.Core.Logic.{◌⊎◌, inl, inr}
use mathlib.Core.Bool.{Bool, true, false, cond, not, ◌&&◌, ◌||◌, true≢false}
use lib.Dec.{T}

-- a test is passed or not, with the equation
pub decide : (b : Bool) → (b ≡ true) ⊎ (b ≡ false)
decide true = inl refl
decide false = inr refl

pub passed : (b : Bool) → T b → b ≡ true
passed true t = refl
passed false t = absurd t

pub passes : {b : Bool} → b ≡ true → T b
passes e = subst T (sym e) tt

pub failed : (b : Bool) → (T b → ⊥) → b ≡ false
failed true f = absurd (f tt)
failed false f = refl

pub clash : {b : Bool} → b ≡ false → T b → ⊥
clash e t = subst T e t

pub or_cases : (a b : Bool) → T (a || b) → T a ⊎ T b
or_cases true b t = inl tt
or_cases false b t = inr t

pub or_left : (a b : Bool) → T a → T (a || b)
or_left true b t = tt
or_left false b t = absurd t

pub or_right : (a b : Bool) → T b → T (a || b)
or_right true b t = tt
or_right false b t = t

pub and_left : (a b : Bool) → T (a && b) → T a
and_left true b t = tt
and_left false b t = absurd t

pub and_right : (a b : Bool) → T (a && b) → T b
and_right true b t = t
and_right false b t = absurd t

pub and_both : (a b : Bool) → T a → T b → T (a && b)
and_both true b t u = u
and_both false b t u = absurd t

-- a property of both branches is one of the choice
pub cond_both : {A : Type 0} (P : A → Type 0) (b : Bool) {x y : A} → P x → P y → P (cond b x y)
cond_both P true p q = p
cond_both P false p q = q

-- the same, where each branch may use how the test came out
pub cond-each : {A : Type 0} (P : A → Type 0) (b : Bool) {x y : A} → (b ≡ true → P x) → (b ≡ false → P y)
    → P (cond b x y)
cond-each P true p q = p refl
cond-each P false p q = q refl

-- a test that passed, and one that failed, in front of an answer
pub took : {A : Type 0} {b : Bool} (t : Bool) (x y : A) {z : A} → b ≡ t → b ≡ true → z ≡ x → z ≡ cond t x y
took t x y e p q = rw (sym e ∙ p) q

pub passed-by : {A : Type 0} {b : Bool} (t : Bool) (x y : A) {z : A} → b ≡ t → b ≡ false → z ≡ y → z ≡ cond t x y
passed-by t x y e p q = rw (sym e ∙ p) q

-- a test that was negated
pub off : (b : Bool) → not b ≡ true → b ≡ false
off true e = sym e
off false e = refl

pub on : (b : Bool) → not b ≡ false → b ≡ true
on true e = refl
on false e = sym e

-- no test both fails and passes
pub never : {A : Type 0} → false ≡ true → A
never e = absurd (true≢false (sym e))
