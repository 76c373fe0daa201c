-- What is entered through `expect`, a name and `and_then`; and that a reading that goes on declares no less.
use Prim.Native.Nat.{ℕ, suc, ◌+◌, ◌≤◌, ◌<◌}
use Prim.Native.String.{String}
use native.Mathlib.Omega.{arith}
use mathlib.Core.Path.{◌≡◌, refl, sym, ◌∙◌, subst}
use mathlib.Core.Logic.{⊎_elim}
use mathlib.Core.Bool.{Bool, true, false, cond}
use mathlib.Core.List.{List, ◌++◌}
use borrow.Author.Tests.{eq-eqb, ne_eqb}
use lib.Dec.{eqb}
use lib.ListN.{length, length-append}
use Rattle.lists.proofs.Tests.{decide}
use Rattle.text.specs.Tree.{Name, Declared}
use Rattle.std.specs.Prelude.{Result, Ok, Err, is_ok, IsErr}
use Rattle.text_parse.specs.Tokens.{Token, is, is_name, name_of}
use Rattle.text_parse.specs.Grammar.{Reading, read, leaves, and_then, first, rest, leaves_at, expect, expect_name}
use Rattle.text_tokens.specs.Places.{tokens_at}
use Rattle.text_tokens.specs.KindsCode.{kind_of}
use Rattle.text_tokens.proofs.KindTests.{is-name}
use Rattle.text_types.specs.SaysCode.{next_kind, Expected, found, missing, Says, reads, leaves-at}
use Rattle.text_types.proofs.Answers.{passed_ok, passed-found, found_ok}
use Rattle.text_types.specs.Every.{Every, every-read, every-left}
use Rattle.text_types.proofs.TypeLaws.{not-both}
use Rattle.text_declare.specs.Entered.{Tables, Entered, all-entered, too_many}
use Rattle.text_declare.specs.EnterCode.{Enters, enters, left, Onward, a_name}
use Rattle.text_declare.proofs.EnteredLaws.{entered-then}

-- A reading that declares at least so many variables, where it comes to a tree
abbrev pub AtLeast : {A : Type 0} → ℕ → (A → List Declared) → Reading A → Type 0
AtLeast k ds m = Every (λ a. k ≤ length (ds a)) m

-- a name, and what comes after it
pub name-then : {B : Type 0} (ts : List Token) (k : Name → List Token → Reading B)
    → expect_name ts k ≡ and_then (a_name ts) k
unfolding a_name expect_name and_then leaves_at
name-then ts k = choice (is_name (first ts))
  where
    choice : (b : Bool)
        → cond b (k (name_of (first ts)) (rest ts)) (leaves_at ts)
        ≡ and_then (cond b (read (name_of (first ts)) (rest ts)) (leaves_at ts)) k
    choice true = refl
    choice false = refl

-- Where a reading ends

pub not-before : {q ok : Bool} → (q ≡ false → ok ≡ false) → ok ≡ true → q ≡ true
not-before {q} stop o = ⊎_elim (λ p. p) (λ p. not-both o (stop p)) (decide q)

module _ (text : List ℕ) where
  pub onward-token : (i k : ℕ) {ok : Bool} {at : ℕ} → (k ≡ 32 → ⊥) → Expected text i k ok at
      → Onward text (suc i) ok at
  onward-token i k f e o = let pass = passed_ok text i k f o e in (pass.onward, pass.within)

  pub onward-later : (i place : ℕ) {q ok : Bool} {at : ℕ} → Onward text (suc i) q place → (q ≡ false → ok ≡ false)
      → (q ≡ true → Onward text (suc place) ok at) → Onward text (suc i) ok at
  onward-later i place {q} {ok} {at} before stop go o =
      let there = not-before stop o in
      let more : suc i ≤ place = (before there).0 in
      let after = go there o in
      let further : suc place ≤ at = after.0 in
      (omega arith, after.1)

-- a reading that is refused has not stood
pub not-ok : {A E : Type 0} (r : Result A E) → IsErr r → is_ok r ≡ false
not-ok (Ok a) e = not-both e refl
not-ok (Err e) h = refl

-- What is entered

module _ (text : List ℕ) {B : Type 0} (es : B → List Declared) (σ : Tables) (ok : Bool) (at : ℕ) (τ : Tables) where
  abbrev Outcome : Reading B → Type 0
  Outcome m = Enters text es σ ok at τ m

  -- there is no room for them
  pub enters-full : (k : ℕ) {m : Reading B} → 16 < σ.used + k → AtLeast k es m → ok ≡ false → Outcome m
  enters-full k l (every-read {a} h) o =
      let over : 16 < σ.used + length (es a) = omega arith in enters (λ e. not-both e o) (too_many o over)
  enters-full k l every-left o = left o

  -- a token that must stand here
  token-enters : (i k : ℕ) (test q : Bool) (place : ℕ) (m : List Token → Reading B) → (k ≡ 32 → ⊥)
      → test ≡ eqb (next_kind text i) k → Expected text i k q place → (q ≡ false → ok ≡ false)
      → (q ≡ true → Outcome (m (tokens_at text place)))
      → Outcome (cond test (m (rest (tokens_at text i))) (leaves_at (tokens_at text i)))
  unfolding leaves_at
  token-enters i k test q place m f e (found o n p) stop go =
      rw (e ∙ eq-eqb (next_kind text i) k n) (subst (λ us. Outcome (m us)) (sym (p f).after) (go o))
  token-enters i k test q place m f e (missing o n p) stop go =
      rw (e ∙ ne_eqb (next_kind text i) k n) (left (stop o))

  pub expect-enters : (s : String) (i k : ℕ) {q : Bool} {place : ℕ} (m : List Token → Reading B) → (k ≡ 32 → ⊥)
      → ((t : Token) → is s t ≡ eqb (kind_of t.bytes) k) → Expected text i k q place → (q ≡ false → ok ≡ false)
      → (q ≡ true → Outcome (m (tokens_at text place))) → Outcome (expect s (tokens_at text i) m)
  unfolding expect
  expect-enters s i k {q} {place} m f test e stop go =
      token-enters i k (is s (first (tokens_at text i))) q place m f (test (first (tokens_at text i))) e stop go

  pub name-enters : (i : ℕ) {q : Bool} {place : ℕ} (m : Name → List Token → Reading B) → Expected text i 33 q place
      → (q ≡ false → ok ≡ false)
      → (q ≡ true → Outcome (m (name_of (first (tokens_at text i))) (tokens_at text place)))
      → Outcome (expect_name (tokens_at text i) m)
  unfolding expect_name
  name-enters i {q} {place} m e stop go =
      token-enters i 33 (is_name (first (tokens_at text i))) q place (m (name_of (first (tokens_at text i))))
      (λ g. omega arith) (is-name (first (tokens_at text i))) e stop go

  -- a reading that enters nothing, and what comes after it
  pub says_then : {A : Type 0} (Q : A → Type 0) (low : ℕ) {q : Bool} {place : ℕ} (m : Reading A)
      (k : A → List Token → Reading B) → Says text low Q q place m → (q ≡ false → ok ≡ false)
      → (q ≡ true → (a : A) → Q a → Outcome (k a (tokens_at text place))) → Outcome (and_then m k)
  unfolding and_then
  says_then Q low (read a us) k (reads o u h w p) stop go = subst (λ vs. Outcome (k a vs)) (sym u) (go o a p)
  says_then Q low (leaves i) k (leaves-at o e) stop go = left (stop o)

  -- a reading that enters what it declares, after `pre`
  pub enters-then : {A : Type 0} (ds : A → List Declared) (pre : List Declared) (ρ υ : Tables) {q : Bool} {place : ℕ}
      (m : Reading A) (k : A → List Token → Reading B) → Entered text pre σ ρ → Enters text ds ρ q place υ m
      → (q ≡ false → ok ≡ false)
      → (q ≡ true → (a : A) → Entered text (pre ++ ds a) σ υ → Outcome (k a (tokens_at text place)))
      → ((a : A) (us : List Token) → AtLeast (length (pre ++ ds a)) es (k a us)) → Outcome (and_then m k)
  unfolding and_then
  enters-then ds pre ρ υ (read a us) k e (enters u (all-entered o h)) stop go least =
      subst (λ vs. Outcome (k a vs)) (sym (u o)) (go o a (entered-then text pre (ds a) σ ρ υ e h))
  enters-then ds pre ρ υ (read a us) k e (enters u (too_many o l)) stop go least =
      let given = e.given in
      let more = length-append pre (ds a) in
      enters-full (length (pre ++ ds a)) (omega arith) (least a us) (stop o)
  enters-then ds pre ρ υ (leaves i) k e (left o) stop go least = left (stop o)

  -- the tree is read, and what it declares is entered
  pub enters-read : (b : B) → ok ≡ true → Entered text (es b) σ τ → Outcome (read b (tokens_at text at))
  enters-read b o e = enters (λ p. refl) (all-entered o e)

-- after a comma the loop is further on
pub comma-further : (text : List ℕ) (i : ℕ) {q n : Bool} {place middle : ℕ} → next_kind text i ≡ 25
    → Expected text i 25 q place → (q ≡ true → Onward text (suc place) n middle) → n ≡ true
    → (i < middle) × (i < length text)
comma-further text i {q} {n} {place} {middle} k e further o =
    let pass = passed-found text i 25 (λ g. omega arith) k e in
    let on : i < place = pass.onward in
    let more : suc place ≤ middle = (further (found_ok text i 25 k e) o).0 in
    (omega arith, pass.begun)
