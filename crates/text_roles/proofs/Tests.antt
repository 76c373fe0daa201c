-- What the code's tests of braces say of the definitions.
use Prim.Native.Nat.{ℕ, zero, suc}
use native.Mathlib.Omega.{arith}
use mathlib.Core.Path.{◌≡◌, refl, sym, ap, ◌∙◌}
use mathlib.Core.Bool.{Bool, true, false, ◌&&◌}
use lib.Dec.{eqb, leb}
use Rattle.text_scan.specs.ScanCode.{is_none, less_one}
use Rattle.text_roles.specs.FoundCode.{level_of}

pub is-none : (n : ℕ) → n ≡ 0 → is_none n ≡ true
unfolding is_none
is-none zero e = refl
is-none (suc n) e = absurd (omega arith)

pub not_none : (n : ℕ) → (n ≡ 0 → ⊥) → is_none n ≡ false
unfolding is_none
not_none zero f = absurd (f refl)
not_none (suc n) f = refl

pub is_one : (n : ℕ) → n ≡ 1 → is_none (less_one n) ≡ true
unfolding is_none less_one
is_one zero e = absurd (omega arith)
is_one (suc n) e = is-none n (omega arith)

pub not-one : (n : ℕ) → (n ≡ 0 → ⊥) → (n ≡ 1 → ⊥) → is_none (less_one n) ≡ false
unfolding is_none less_one
not-one zero f g = absurd (f refl)
not-one (suc n) f g = not_none n (λ e. g (ap suc e))

pub no-braces : (b : ℕ) → b ≡ 0 → 1 ≡ level_of b
unfolding level_of
no-braces zero e = refl
no-braces (suc b) e = absurd (omega arith)

pub some-braces : (b : ℕ) → (b ≡ 0 → ⊥) → b ≡ level_of b
unfolding level_of
some-braces zero f = absurd (f refl)
some-braces (suc b) f = refl

-- a test of two parts, the second being known by an equation
pub begins : (a b c : Bool) {d : Bool} → b ≡ c → (a && b) ≡ d → (a && c) ≡ d
begins a b c e f = ap (λ (t : Bool). a && t) (sym e) ∙ f

pub declared-test : (least b found : ℕ) (is : Bool) (level : ℕ) {d : Bool} → level ≡ level_of b
    → (eqb found 0 && (leb least level && is)) ≡ d → (eqb found 0 && (leb least (level_of b) && is)) ≡ d
declared-test least b found is level e f = ap (λ (n : ℕ). eqb found 0 && (leb least n && is)) (sym e) ∙ f
