-- What holds of what a reading comes to, token by token: laws for each way in which readings are put together.
use Prim.Native.Nat.{ℕ, zero, suc}
use Prim.Native.String.{String}
use mathlib.Core.Path.{◌≡◌}
use mathlib.Core.Bool.{true, false, cond}
use mathlib.Core.List.{List}
use Rattle.lists.proofs.Tests.{cond-each}
use Rattle.text.specs.Tree.{Name}
use Rattle.text_parse.specs.Tokens.{Token, is_name, name_of}
use Rattle.text_parse.specs.Grammar.{Reading, read, leaves, and_then, first, rest, leaves_at, next?, expect, expect_name, deeper}

-- if the reading comes to a tree, P holds of it and of the tokens after it
pub data Holds {A : Type 0} (P : A → List Token → Type 0) : Reading A → Type 0 where
  holds : {a : A} {us : List Token} → P a us → Holds P (read a us)
  off : {i : ℕ} → Holds P (leaves i)

pub then-holds : {A B : Type 0} {P : A → List Token → Type 0} {Q : B → List Token → Type 0} {r : Reading A}
    {k : A → List Token → Reading B}
    → Holds P r → ((a : A) (us : List Token) → P a us → Holds Q (k a us)) → Holds Q (and_then r k)
unfolding and_then
then-holds (holds p) f = f _ _ p
then-holds off f = off

pub weaker-holds : {A : Type 0} {P Q : A → List Token → Type 0} {r : Reading A}
    → ((a : A) (us : List Token) → P a us → Q a us) → Holds P r → Holds Q r
weaker-holds f (holds p) = holds (f _ _ p)
weaker-holds f off = off

pub both_hold : {A : Type 0} {P Q : A → List Token → Type 0} {r : Reading A} → Holds P r → Holds Q r
    → Holds (λ a us. P a us × Q a us) r
both_hold (holds p) (holds q) = holds (p, q)
both_hold off off = off

pub held : {A : Type 0} {P : A → List Token → Type 0} (a : A) (us : List Token) → Holds P (read a us) → P a us
held a us (holds p) = p

-- a word or a mark is read, or a name
pub data After (s : String) (ts : List Token) : List Token → Type 0 where
  after : next? s ts ≡ true → After s ts (rest ts)

pub data AfterName (ts : List Token) : Name → List Token → Type 0 where
  after-name : is_name (first ts) ≡ true → AfterName ts (name_of (first ts)) (rest ts)

module _ {A : Type 0} {P : A → List Token → Type 0} where
  pub leaves_at-holds : (ts : List Token) → Holds P (leaves_at ts)
  unfolding leaves_at
  leaves_at-holds ts = off

  pub deeper-holds : (left : ℕ) (ts : List Token) {k : ℕ → Reading A} → ((l : ℕ) → Holds P (k l))
      → Holds P (deeper left ts k)
  unfolding deeper
  deeper-holds zero ts f = leaves_at-holds ts
  deeper-holds (suc left) ts f = f left

  pub next-holds : (s : String) (ts : List Token) {x y : Reading A}
      → (After s ts (rest ts) → Holds P x) → (next? s ts ≡ false → Holds P y) → Holds P (cond (next? s ts) x y)
  next-holds s ts f g = cond-each (Holds P) (next? s ts) (λ e. f (after e)) g

  pub expect-holds : (s : String) (ts : List Token) {k : List Token → Reading A}
      → ((us : List Token) → After s ts us → Holds P (k us)) → Holds P (expect s ts k)
  unfolding expect
  expect-holds s ts f = cond-each (Holds P) (next? s ts) (λ e. f (rest ts) (after e)) (λ e. leaves_at-holds ts)

  pub name-holds : (ts : List Token) {k : Name → List Token → Reading A}
      → ((x : Name) (us : List Token) → AfterName ts x us → Holds P (k x us)) → Holds P (expect_name ts k)
  unfolding expect_name
  name-holds ts f =
      cond-each (Holds P) (is_name (first ts)) (λ e. f (name_of (first ts)) (rest ts) (after-name e))
      (λ e. leaves_at-holds ts)
