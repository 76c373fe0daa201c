-- Laws of what holds of the tree that a reading comes to.
use Prim.Native.Nat.{ℕ}
use Prim.Native.String.{String}
use native.Mathlib.Omega.{arith}
use mathlib.Core.Path.{◌≡◌, sym, ◌∙◌, subst}
use mathlib.Core.Bool.{Bool, true, false, cond}
use mathlib.Core.List.{List}
use borrow.Author.Tests.{ne_eqb, eq-eqb}
use lib.Dec.{eqb}
use Rattle.text.specs.Tree.{Name}
use Rattle.text_parse.specs.Tokens.{Token, is, is_name, name_of}
use Rattle.text_parse.specs.Grammar.{Reading, read, leaves, and_then, first, rest, leaves_at, expect, expect_name}
use Rattle.text_tokens.specs.Places.{tokens_at}
use Rattle.text_tokens.specs.KindsCode.{kind_of}
use Rattle.text_tokens.proofs.KindTests.{is-name}
use Rattle.text_types.specs.Every.{Every, every-read, every-left}
use Rattle.text_types.specs.SaysCode.{next_kind, Expected, found, missing, Says, reads, leaves-at}

-- by the grammar alone
module _ {A : Type 0} (Q : A → Type 0) where
  pub every-leaves : (ts : List Token) → Every Q (leaves_at ts)
  unfolding leaves_at
  every-leaves ts = every-left

  pub every-choice : (b : Bool) {x y : Reading A} → Every Q x → Every Q y → Every Q (cond b x y)
  every-choice true p q = p
  every-choice false p q = q

  pub every-expect : (s : String) (ts : List Token) (m : List Token → Reading A) → ((us : List Token) → Every Q (m us))
      → Every Q (expect s ts m)
  unfolding expect
  every-expect s ts m p = every-choice (is s (first ts)) (p (rest ts)) (every-leaves ts)

  pub every-name : (ts : List Token) (m : Name → List Token → Reading A)
      → ((x : Name) (us : List Token) → Every Q (m x us)) → Every Q (expect_name ts m)
  unfolding expect_name
  every-name ts m p = every-choice (is_name (first ts)) (p (name_of (first ts)) (rest ts)) (every-leaves ts)

  pub every-then : {B : Type 0} (r : Reading B) (m : B → List Token → Reading A)
      → ((b : B) (us : List Token) → Every Q (m b us)) → Every Q (and_then r m)
  unfolding and_then
  every-then (read b us) m p = p b us
  every-then (leaves i) m p = every-left

  -- and what holds of the first tree
  pub every-on : {B : Type 0} (P : B → Type 0) (r : Reading B) (m : B → List Token → Reading A) → Every P r
      → ((b : B) (us : List Token) → P b → Every Q (m b us)) → Every Q (and_then r m)
  unfolding and_then
  every-on P (read b us) m (every-read h) p = p b us h
  every-on P (leaves i) m every-left p = every-left

  pub every_of : (P : A → Type 0) {m : Reading A} → ((a : A) → P a → Q a) → Every P m → Every Q m
  every_of P f (every-read p) = every-read (f _ p)
  every_of P f every-left = every-left

-- by places in a text
module _ (text : List ℕ) {A : Type 0} (Q : A → Type 0) where
  token-every : (i k : ℕ) (test : Bool) {q : Bool} {place : ℕ} (m : List Token → Reading A) → (k ≡ 32 → ⊥)
      → test ≡ eqb (next_kind text i) k → Expected text i k q place → (q ≡ true → Every Q (m (tokens_at text place)))
      → Every Q (cond test (m (rest (tokens_at text i))) (leaves_at (tokens_at text i)))
  token-every i k test m f e (found o n p) go =
      rw (e ∙ eq-eqb (next_kind text i) k n) (subst (λ us. Every Q (m us)) (sym (p f).after) (go o))
  token-every i k test m f e (missing o n p) go =
      rw (e ∙ ne_eqb (next_kind text i) k n) (every-leaves Q (tokens_at text i))

  pub expect-every : (s : String) (i k : ℕ) {q : Bool} {place : ℕ} (m : List Token → Reading A) → (k ≡ 32 → ⊥)
      → ((t : Token) → is s t ≡ eqb (kind_of t.bytes) k) → Expected text i k q place
      → (q ≡ true → Every Q (m (tokens_at text place))) → Every Q (expect s (tokens_at text i) m)
  unfolding expect
  expect-every s i k m f test e go =
      token-every i k (is s (first (tokens_at text i))) m f (test (first (tokens_at text i))) e go

  pub name-every : (i : ℕ) {q : Bool} {place : ℕ} (m : Name → List Token → Reading A) → Expected text i 33 q place
      → (q ≡ true → Every Q (m (name_of (first (tokens_at text i))) (tokens_at text place)))
      → Every Q (expect_name (tokens_at text i) m)
  unfolding expect_name
  name-every i m e go =
      token-every i 33 (is_name (first (tokens_at text i))) (m (name_of (first (tokens_at text i)))) (λ g. omega arith)
      (is-name (first (tokens_at text i))) e go

  pub says-every : {B : Type 0} (P : B → Type 0) (low : ℕ) {q : Bool} {place : ℕ} (m : Reading B)
      (k : B → List Token → Reading A) → Says text low P q place m
      → (q ≡ true → (b : B) → P b → Every Q (k b (tokens_at text place))) → Every Q (and_then m k)
  unfolding and_then
  says-every P low (read b us) k (reads o u h w p) go = subst (λ vs. Every Q (k b vs)) (sym u) (go o b p)
  says-every P low (leaves i) k (leaves-at o e) go = every-left

-- a reading that comes to a tree
pub every-at : {A : Type 0} (Q : A → Type 0) {m : Reading A} (a : A) (us : List Token) → m ≡ read a us → Every Q m → Q a
every-at Q a us e h = given (subst (Every Q) e h)
  where
    given : Every Q (read a us) → Q a
    given (every-read q) = q
