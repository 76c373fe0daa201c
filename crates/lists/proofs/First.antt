-- Tests at the indices below a number: the laws of `first_false`, `all_below`, `first_some` and `below`.
-- `first_false f n` is the one number up to n below which every test passes and at which, if it is below n, the test
-- fails.
use Prim.Native.Nat.{ℕ, zero, suc, ◌+◌, ◌≤◌, ◌<◌}
use native.Mathlib.Omega.{arith}
use native.Mathlib.Nat.{eq-or-lt_of_le, le_of_suc-le-suc}
use native.Mathlib.Numerals.{add-one}
use mathlib.Core.Logic.{◌⊎◌, inl, inr}
use mathlib.Core.Bool.{Bool, true, false, ◌&&◌}
use mathlib.Core.Path.{◌≡◌, refl, sym, subst}
use mathlib.Core.List.{[], ◌∷◌}
use mathlib.Core.Option.{Option, none, some}
use lib.Dec.{T, ltb}
use borrow.Author.Tests.{ltb-true, ltb-false, lt-ltb, le-ltb}
use Rattle.std.specs.Prelude.{Some, None}
use Rattle.std.proofs.lemmas.Option.{none-some, cond_some}
use Rattle.lists.specs.Lists.{any, first_false, first_place, all_below, first_some, below}
use Rattle.lists.proofs.Tests.{decide, cond-each, passes, clash, and_left, and_right, or_left}
use Rattle.lists.proofs.Any.{any-append-left, any-append-right, first_some-found}

-- an index below n + 1 is below n or is n
below-cases : {i n : ℕ} (P : ℕ → Type 0) → ((j : ℕ) → j < n → P j) → P n → i < suc n → P i
below-cases {i} {n} P lower last h = pick (eq-or-lt_of_le (le_of_suc-le-suc h))
  where
    pick : (i ≡ n) ⊎ (i < n) → P i
    pick (inl e) = subst P (sym e) last
    pick (inr l) = lower i l

-- first_false

-- i is the first index at which the test fails, or n where it fails at none below n
pub record IsFirst (f : ℕ → Bool) (n i : ℕ) : Type 0 where
  pub within : i ≤ n
  pub passes : (j : ℕ) → j < i → f j ≡ true
  pub fails : i < n → f i ≡ false

first_found : (f : ℕ → Bool) (n i : ℕ) → IsFirst f n i → i < n → IsFirst f (suc n) i
first_found f n i h l = record { within = omega arith; passes = h.passes; fails = λ k. h.fails l }

first_passes : (f : ℕ → Bool) (n i : ℕ) → IsFirst f n i → n ≤ i → f n ≡ true → IsFirst f (suc n) (suc n)
first_passes f n i h l t = record {
  within = omega arith;
  passes = λ j k. below-cases (λ j. f j ≡ true) (λ j k. h.passes j (omega arith)) t k;
  fails = λ k. absurd (omega arith);
}

first-fails : (f : ℕ → Bool) (n i : ℕ) → IsFirst f n i → n ≤ i → f n ≡ false → IsFirst f (suc n) n
first-fails f n i h l t = record {
  within = omega arith;
  passes = λ j k. h.passes j (omega arith);
  fails = λ k. t;
}

pub first_false-first : (f : ℕ → Bool) (n : ℕ) → IsFirst f n (first_false f n)
unfolding first_false
first_false-first f zero =
    record { within = omega arith; passes = λ j h. absurd (omega arith); fails = λ h. absurd (omega arith) }
first_false-first f (suc n) =
    let h = first_false-first f n in
    let i = first_false f n in
    cond-each (IsFirst f (suc n)) (ltb i n)
    (λ t. first_found f n i h (ltb-true i n t))
    (λ t. let past = ltb-false i n t in
    cond-each (IsFirst f (suc n)) (f n) (first_passes f n i h past) (first-fails f n i h past))

-- there is only one first
first-not-below : (f : ℕ → Bool) (n i j : ℕ) → IsFirst f n i → IsFirst f n j → ¬ (i < j)
first-not-below f n i j h k l = clash (h.fails (omega arith)) (passes (k.passes i l))

pub first-unique : {f : ℕ → Bool} {n i j : ℕ} → IsFirst f n i → IsFirst f n j → i ≡ j
first-unique {f} {n} {i} {j} h k = omega (arith, first-not-below f n i j h k, first-not-below f n j i k h)

-- a search that looks at one index after the other: `first_false f i ≡ i` says that every test below i passes
pub first-begins : (f : ℕ → Bool) → first_false f 0 ≡ 0
unfolding first_false
first-begins f = refl

pub first-goes-on : (f : ℕ → Bool) (i : ℕ) → first_false f i ≡ i → f i ≡ true → first_false f (i + 1) ≡ i + 1
unfolding first_false
first-goes-on f i e t = rw add-one (rw (e, le-ltb i i (omega arith), t))

-- every test below i passes, and the one at i fails or i is the end
pub first-halts : (f : ℕ → Bool) (n i : ℕ) → first_false f i ≡ i → i ≤ n → (i < n → f i ≡ false) → first_false f n ≡ i
first-halts f n i e h t =
    first-unique (first_false-first f n)
    (record { within = h; passes = λ j l. (first_false-first f i).passes j (omega arith); fails = t })

-- every test passes where none is found to fail
pub first_false-all : (f : ℕ → Bool) (n : ℕ) → n ≤ first_false f n → (i : ℕ) → i < n → f i ≡ true
first_false-all f n h i k = (first_false-first f n).passes i (omega arith)

-- all_below

pub all_below-all : (f : ℕ → Bool) (n : ℕ) → T (all_below f n) → (i : ℕ) → i < n → T (f i)
unfolding all_below
all_below-all f zero t i h = absurd (omega arith)
all_below-all f (suc n) t i h =
    below-cases (λ j. T (f j)) (all_below-all f n (and_left (all_below f n) (f n) t)) (and_right (all_below f n) (f n) t) h

pub all_below-next : (f : ℕ → Bool) (n : ℕ) → all_below f (n + 1) ≡ (all_below f n && f n)
unfolding all_below
all_below-next f n = rw add-one refl

-- below

pub any_below : (f : ℕ → Bool) (n i : ℕ) → i < n → T (f i) → T (any f (below n))
unfolding below
any_below f zero i h t = absurd (omega arith)
any_below f (suc n) i h t =
    below-cases (λ j. T (f j) → T (any f (below (suc n))))
    (λ j k u. any-append-left f (below n) (n ∷ []) (any_below f n j k u))
    (λ u. any-append-right f (below n) (n ∷ []) (or_left (f n) false u))
    h t

-- first_some

-- P holds of the answer, if one is given
abbrev pub Given : {A : Type 0} → (A → Type 0) → Option A → Type 0
Given P none = Unit {0}
Given P (some a) = P a

pub first_some-given : {A : Type 0} (P : A → Type 0) (f : ℕ → Option A) → ((i : ℕ) → Given P (f i))
    → (n : ℕ) → Given P (first_some f n)
first_some-given P f h n = found (first_some f n) refl
  where
    found : (o : Option _) → first_some f n ≡ o → Given P o
    found none e = tt
    found (some a) e = let (i, l, q) = first_some-found f n a e in rw q at (h i)

-- first_place

module _ (f : ℕ → Bool) (n i : ℕ) (e : i ≡ first_false f n) where
  pub first_place-found : i < n → first_place f n ≡ Some i
  unfolding first_place
  first_place-found l = rw (← e, lt-ltb i n l) refl

  pub first_place-none : n ≤ i → first_place f n ≡ None
  unfolding first_place
  first_place-none l = rw (← e, le-ltb i n l) refl

-- a search that looks at one index after the other stops at the first that fails, or finds none
pub place-halts : (f : ℕ → Bool) (n i : ℕ) → first_false f i ≡ i → i < n → f i ≡ false → Some i ≡ first_place f n
place-halts f n i e h t =
    sym (first_place-found f n i (sym (first-halts f n i e (omega arith) (λ l. t))) h)

pub place-ends : (f : ℕ → Bool) (n i : ℕ) → first_false f i ≡ i → i ≤ n → n ≤ i → None ≡ first_place f n
place-ends f n i e h k = sym (first_place-none f n i (sym (first-halts f n i e h (λ l. absurd (omega arith)))) k)

-- what an answer of the search says
pub place-some : (f : ℕ → Bool) (n i : ℕ) → first_place f n ≡ Some i → (i ≡ first_false f n) × (i < n)
unfolding first_place
place-some f n i q =
    let (t, e) = cond_some (ltb (first_false f n) n) (first_false f n) i q in
    (sym e, subst (λ (k : ℕ). k < n) e (ltb-true (first_false f n) n t))

pub place-no : (f : ℕ → Bool) (n : ℕ) → first_place f n ≡ None → n ≤ first_false f n
unfolding first_place
place-no f n q = go (decide (ltb (first_false f n) n))
  where
    go : (ltb (first_false f n) n ≡ true) ⊎ (ltb (first_false f n) n ≡ false) → n ≤ first_false f n
    go (inl t) = absurd (none-some (first_false f n) (sym (rw t at q)))
    go (inr t) = ltb-false (first_false f n) n t
