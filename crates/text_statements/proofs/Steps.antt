-- Steps of a reading whose tree is of no interest.
use Prim.Native.Nat.{ℕ, suc, ◌≤◌, ◌<◌}
use Prim.Native.String.{String}
use native.Mathlib.Omega.{arith}
use mathlib.Core.Path.{◌≡◌, refl, sym, subst}
use mathlib.Core.Bool.{Bool}
use mathlib.Core.List.{List}
use lib.Dec.{eqb}
use lib.ListN.{length}
use Rattle.text.specs.Tree.{Name}
use Rattle.text_parse.specs.Tokens.{Token, is, name_of}
use Rattle.text_parse.specs.Grammar.{Reading, read, and_then, first, rest, expect, expect_name}
use Rattle.text_tokens.specs.Places.{tokens_at}
use Rattle.text_tokens.specs.KindsCode.{kind_of}
use Rattle.text_tokens.proofs.KindTests.{is-semicolon}
use Rattle.text_types.specs.SaysCode.{Passed, Expected, On}
use Rattle.text_types.proofs.Answers.{says-lower, says-read, expect-says, name-says, then-says}
use Rattle.text_statements.specs.WithinCode.{Reads}

-- what is known of an answer, known otherwise
pub on-as : {before ok : Bool} {place at : ℕ} {S R : Type 0} → On before place ok at S → (S → R)
    → On before place ok at R
on-as o f = record { on = λ e. f (o.on e); off-ok = o.off-ok; off_at = o.off_at }

module _ (text : List ℕ) {B : Type 0} (ok : Bool) (at : ℕ) where
  abbrev Any : B → Type 0
  Any b = Unit {0}

  pub lower : (i : ℕ) {m : Reading B} → Reads text (suc i) ok at m → Reads text i ok at m
  lower i s = says-lower text Any ok at i (suc i) (omega arith) s

  -- a word or mark that must stand at i, and what comes after it
  pub mark-then : (s : String) (i k : ℕ) {q : Bool} {place : ℕ} (m : List Token → Reading B) → (k ≡ 32 → ⊥)
      → ((t : Token) → is s t ≡ eqb (kind_of t.bytes) k) → Expected text i k q place
      → On q place ok at (place ≤ length text → Reads text place ok at (m (tokens_at text place)))
      → Reads text (suc i) ok at (expect s (tokens_at text i) m)
  mark-then s i k {q} {place} m f test e later = expect-says text Any ok at s i k m f test e later

  pub mark-last : (s : String) (i k : ℕ) (b : B) → (k ≡ 32 → ⊥)
      → ((t : Token) → is s t ≡ eqb (kind_of t.bytes) k) → Expected text i k ok at
      → Reads text (suc i) ok at (expect s (tokens_at text i) (λ us. read b us))
  mark-last s i k b f test e =
      expect-says text Any ok at s i k (λ us. read b us) f test e
      (record { on = λ o w. says-read text Any ok at b tt w o; off-ok = λ o. o; off_at = λ o. refl })

  pub name-then : (i : ℕ) {q : Bool} {place : ℕ} (m : Name → List Token → Reading B) → Expected text i 33 q place
      → On q place ok at (place ≤ length text → Reads text place ok at
      (m (name_of (first (tokens_at text i))) (tokens_at text place)))
      → Reads text (suc i) ok at (expect_name (tokens_at text i) m)
  name-then i {q} {place} m e later = name-says text Any ok at i m e later

  -- a reading, and what comes after it
  pub reading-then : {A : Type 0} (i : ℕ) {q : Bool} {place : ℕ} {m : Reading A} (k : A → List Token → Reading B)
      → Reads text i q place m
      → On q place ok at (place ≤ length text → (a : A) → Reads text place ok at (k a (tokens_at text place)))
      → Reads text i ok at (and_then m k)
  reading-then {A} i {q} {place} {m} k s later =
      then-says text Any ok at (λ (a : A). Unit {0}) i m k s (on-as later (λ f w a u. f w a))

  pub reading-last : {A : Type 0} (i : ℕ) {m : Reading A} (f : A → B) → Reads text i ok at m
      → Reads text i ok at (and_then m (λ a us. read (f a) us))
  reading-last i f s =
      reading-then i _ s
      (record { on = λ o w a. says-read text Any ok at (f a) tt w o; off-ok = λ o. o; off_at = λ o. refl })

  -- a reading, and the semicolon after it
  pub closed : {A : Type 0} (i : ℕ) {q : Bool} {place : ℕ} {m : Reading A} (f : A → B) → Reads text i q place m
      → On q place ok at (Expected text place 26 ok at)
      → Reads text i ok at (and_then m (λ a us. expect ";" us (λ vs. read (f a) vs)))
  closed i {q} {place} f s last =
      reading-then i _ s
      (on-as last (λ e w a. lower place (mark-last ";" place 26 (f a) (λ g. omega arith) is-semicolon e)))

  -- what is read after the next token
  pub after-token : (i e : ℕ) (m : List Token → Reading B) → Passed text i e
      → Reads text (suc e) ok at (m (tokens_at text e)) → Reads text (suc i) ok at (m (rest (tokens_at text i)))
  after-token i e m p s =
      let on : i < e = p.onward in
      subst (λ us. Reads text (suc i) ok at (m us)) (sym p.after)
      (says-lower text Any ok at (suc i) (suc e) (omega arith) s)

  pub closed_after : {A : Type 0} (i e : ℕ) {q : Bool} {place : ℕ} (r : List Token → Reading A) (f : A → B)
      → Passed text i e → Reads text (suc e) q place (r (tokens_at text e))
      → On q place ok at (Expected text place 26 ok at)
      → Reads text (suc i) ok at (and_then (r (rest (tokens_at text i))) (λ a us. expect ";" us (λ vs. read (f a) vs)))
  closed_after i e r f p s last =
      after-token i e (λ ts. and_then (r ts) (λ a us. expect ";" us (λ vs. read (f a) vs))) p
      (closed (suc e) f s last)
