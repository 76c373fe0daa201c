-- Laws of two lists related one by one, of two answers that are given or missing together, and of choices by the same
-- test.
use Prim.Native.Nat.{ℕ, zero, suc}
use mathlib.Core.Path.{◌≡◌, refl, ap, ap₂, subst}
use mathlib.Core.Bool.{Bool, true, false, cond, ◌&&◌}
use mathlib.Core.List.{List, ◌++◌}
use mathlib.Core.Option.{Option, none, some, or_else}
use lib.ListN.{get_or, set, length}
use Rattle.lists.specs.Lists.{every, first_some}
use Rattle.simulation.specs.Simulation.{OneByOne, no_more, one_more}

module _ {A B : Type 0} {R : A → B → Type 0} where
  pub one-length : {xs : List A} {ys : List B} → OneByOne R xs ys → length xs ≡ length ys
  one-length no_more = refl
  one-length (one_more r h) = ap suc (one-length h)

  -- at an index, or at the defaults past the end
  pub one_at : {xs : List A} {ys : List B} → OneByOne R xs ys → (i : ℕ) {x : A} {y : B} → R x y
      → R (get_or xs i x) (get_or ys i y)
  one_at no_more i d = d
  one_at (one_more r h) zero d = r
  one_at (one_more r h) (suc i) d = one_at h i d

  -- related elements written at the same index
  pub one_set : {xs : List A} {ys : List B} → OneByOne R xs ys → (i : ℕ) {x : A} {y : B} → R x y
      → OneByOne R (set xs i x) (set ys i y)
  one_set no_more i d = no_more
  one_set (one_more r h) zero d = one_more d h
  one_set (one_more r h) (suc i) d = one_more r (one_set h i d)

  pub one-append : {xs zs : List A} {ys ws : List B} → OneByOne R xs ys → OneByOne R zs ws
      → OneByOne R (xs ++ zs) (ys ++ ws)
  one-append no_more k = k
  one-append (one_more r h) k = one_more r (one-append h k)

  -- a test with the same answer on related elements
  pub one-every : (f : A → Bool) (g : B → Bool) → ((x : A) (y : B) → R x y → f x ≡ g y)
      → {xs : List A} {ys : List B} → OneByOne R xs ys → every f xs ≡ every g ys
  one-every f g e no_more = refl
  one-every f g e (one_more r h) = ap₂ ◌&&◌ (e _ _ r) (one-every f g e h)

-- both answers are given, and related, or both are missing
pub data BothOrNone {A B : Type 0} (R : A → B → Type 0) : Option A → Option B → Type 0 where
  neither : BothOrNone R none none
  given : {x : A} {y : B} → R x y → BothOrNone R (some x) (some y)

module _ {A B : Type 0} {R : A → B → Type 0} where
  or-else : {x x' : Option A} {y y' : Option B} → BothOrNone R x y → BothOrNone R x' y'
      → BothOrNone R (or_else x x') (or_else y y')
  unfolding or_else
  or-else neither h = h
  or-else (given r) h = given r

  pub first-given : (f : ℕ → Option A) (g : ℕ → Option B) → ((i : ℕ) → BothOrNone R (f i) (g i)) → (n : ℕ)
      → BothOrNone R (first_some f n) (first_some g n)
  unfolding first_some
  first-given f g h zero = neither
  first-given f g h (suc n) = or-else (first-given f g h n) (h n)

-- choices by tests with the same answer
pub both_cond : {A B : Type 0} (P : A → B → Type 0) (b b' : Bool) → b ≡ b' → {x y : A} {x' y' : B} → P x x' → P y y'
    → P (cond b x y) (cond b' x' y')
both_cond P b b' e {x} {y} {x'} {y'} h g = subst (λ (c : Bool). P (cond b x y) (cond c x' y')) e (go b)
  where
    go : (c : Bool) → P (cond c x y) (cond c x' y')
    go true = h
    go false = g
