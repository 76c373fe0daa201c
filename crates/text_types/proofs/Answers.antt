-- Laws of answers: of the next token, and through `expect`, `expect_name`, `and_then` and a choice.
use Prim.Native.Nat.{ℕ, suc, ◌≤◌, ◌<◌}
use native.Mathlib.Omega.{arith}
use mathlib.Core.Path.{◌≡◌, refl, sym, ap, ◌∙◌, subst}
use mathlib.Core.Logic.{⊎_elim}
use mathlib.Core.Bool.{Bool, true, false, cond}
use mathlib.Core.List.{List, []}
use Prim.Native.String.{String}
use borrow.Author.Tests.{eq-eqb, ne_eqb, lt-ltb, ltb-true, ltb-false}
use lib.Dec.{eqb, ltb}
use lib.ListN.{length}
use lib.Seq.{slice, slice_empty}
use Rattle.lists.proofs.Tests.{decide, clash, passes}
use Rattle.text_parse.specs.Tokens.{Token, is, is_name, name_of}
use Rattle.text_parse.specs.Grammar.{Reading, read, leaves, and_then, first, rest, leaves_at, expect, expect_name}
use Rattle.text.specs.Tree.{Name}
use Rattle.text_tokens.specs.Places.{tokens_at, tokens_after}
use Rattle.text_tokens.specs.PlacesCode.{end_at}
use Rattle.text_tokens.specs.KindsCode.{kind_of}
use Rattle.text_tokens.specs.NextCode.{NextToken, next_at as token_next}
use Rattle.text_tokens.specs.declared.next.TokenAt.{TokenAt}
use Rattle.text_tokens.proofs.EndCases.{end-past}
use Rattle.text_tokens.proofs.KindTests.{is-name}
use Rattle.std.specs.Prelude.{Result, Ok, Err, IsErr, IsErrAnd}
use Rattle.text_types.specs.declared.place.GrammarError.{GrammarError}
use Rattle.text_types.specs.SaysCode.{next_kind, next_at, Passed, Expected, found, missing, Says, reads, leaves-at, On}

-- The next token

kind-empty : kind_of [] ≡ 32
unfolding kind_of
kind-empty = refl

module _ (text : List ℕ) (i : ℕ) (t : TokenAt) (n : NextToken text i t) where
  pub kind-next : next_kind text i ≡ t.kind
  kind-next = ap (λ ts. kind_of (first ts).bytes) n.reads ∙ sym n.kind

  pub at_next : next_at text i ≡ t.start
  at_next = ap (λ ts. (first ts).at) n.reads

  end_same : t.end ≡ end_at text t.start
  unfolding token_next
  end_same = ap (λ u. u.end) n.same ∙ ap (λ u. end_at text u.start) (sym n.same)

  -- the token that ends the text has no bytes
  pub past-kind : length text ≤ t.start → t.kind ≡ 32
  past-kind h =
      n.kind
      ∙ ap (λ (e : ℕ). kind_of (slice t.start e text)) (end_same ∙ end-past text t.start h)
      ∙ ap kind_of (slice_empty t.start text) ∙ kind-empty

  -- the token that stands in the text is read
  passed-in : t.start < length text → Passed text i t.end
  unfolding tokens_after
  passed-in h =
      let starts = n.starts in
      let on = n.onward h in
      record {
        after = ap rest n.reads ∙ rw (lt-ltb t.start (length text) h) refl;
        onward = omega arith;
        begun = omega arith;
        within = n.within (omega arith);
      }

  pub passed-next : (t.kind ≡ 32 → ⊥) → Passed text i t.end
  passed-next f =
      ⊎_elim (λ e. passed-in (ltb-true t.start (length text) e))
      (λ e. absurd (f (past-kind (ltb-false t.start (length text) e))))
      (decide (ltb t.start (length text)))

  pub found-next : (k : ℕ) → t.kind ≡ k → Expected text i k true t.end
  found-next k e = found refl (kind-next ∙ e) (λ f. passed-next (λ g. f (sym e ∙ g)))

  pub missing-next : (k : ℕ) → (t.kind ≡ k → ⊥) → Expected text i k false t.start
  missing-next k f = missing refl (λ e. f (sym kind-next ∙ e)) (sym at_next)

-- An answer and what comes after it

pub on-here : {ok : Bool} {at : ℕ} {S : Type 0} → S → On ok at ok at S
on-here s = record { on = λ e. s; off-ok = λ e. e; off_at = λ e. refl }

pub off-here : {before : Bool} {place at : ℕ} {ok : Bool} {S : Type 0} → before ≡ false → ok ≡ false → at ≡ place
    → On before place ok at S
off-here b o a = record { on = λ e. absurd (clash b (passes e)); off-ok = λ e. o; off_at = λ e. a }

pub on-there : {before : Bool} {place at : ℕ} {ok : Bool} {S : Type 0} → before ≡ true → S → On before place ok at S
on-there b s = record {
  on = λ e. s;
  off-ok = λ e. absurd (clash e (passes b));
  off_at = λ e. absurd (clash e (passes b));
}

-- the same where the answer is shown: what is read goes on, and what is refused stays refused
pub then : {place at : ℕ} {ok : Bool} {S : Type 0} → S → On true place ok at S
then s = on-there refl s

pub gone : {at : ℕ} {S : Type 0} → On false at false at S
gone = off-here refl refl refl

-- a refusal that is passed on is the same
pub stays : {A : Type 0} {e : GrammarError} {r : Result A GrammarError} → IsErr r × IsErrAnd r (λ y. y ≡ e) → r ≡ Err e
stays {A} {e} {r} h = same r h
  where
    same : (r : Result A GrammarError) → IsErr r × IsErrAnd r (λ y. y ≡ e) → r ≡ Err e
    same (Ok a) h = absurd (clash refl (passes h.0))
    same (Err d) h = ap Err h.1

-- one step and a later one
pub on-later : {before mid ok : Bool} {place middle at : ℕ} {S R Q : Type 0} → On before place mid middle S
    → On mid middle ok at R → (S → Q) → On before place ok at Q
on-later a b f = record {
  on = λ e. f (a.on e);
  off-ok = λ e. b.off-ok (a.off-ok e);
  off_at = λ e. b.off_at (a.off-ok e) ∙ a.off_at e;
}

-- Readings with an answer of the property P

module _ (text : List ℕ) {B : Type 0} (P : B → Type 0) (ok : Bool) (at : ℕ) where
  abbrev Answer : ℕ → Reading B → Type 0
  Answer low m = Says text low P ok at m

  pub says-lower : {m : Reading B} (low high : ℕ) → low ≤ high → Answer high m → Answer low m
  says-lower low high l (reads o u h w p) = reads o u (omega arith) w p
  says-lower low high l (leaves-at o e) = leaves-at o e

  -- the tree is read
  pub says-read : (b : B) → P b → at ≤ length text → ok ≡ true → Answer at (read b (tokens_at text at))
  says-read b p w o = reads o refl (omega arith) w p

  -- a token that must stand here
  pub token-says : (i k : ℕ) (test q : Bool) (place : ℕ) (m : List Token → Reading B) → (k ≡ 32 → ⊥)
      → test ≡ eqb (next_kind text i) k → Expected text i k q place
      → On q place ok at (place ≤ length text → Answer place (m (tokens_at text place)))
      → Answer (suc i) (cond test (m (rest (tokens_at text i))) (leaves_at (tokens_at text i)))
  unfolding leaves_at
  token-says i k test q place m f e (found o n p) later =
      let pass = p f in
      let on : i < place = pass.onward in
      rw (e ∙ eq-eqb (next_kind text i) k n)
      (subst (λ us. Answer (suc i) (m us)) (sym pass.after)
      (says-lower (suc i) place (omega arith) (later.on o pass.within)))
  token-says i k test q place m f e (missing o n p) later =
      rw (e ∙ ne_eqb (next_kind text i) k n) (leaves-at (later.off-ok o) (later.off_at o ∙ p))

  pub expect-says : (s : String) (i k : ℕ) {q : Bool} {place : ℕ} (m : List Token → Reading B) → (k ≡ 32 → ⊥)
      → ((t : Token) → is s t ≡ eqb (kind_of t.bytes) k) → Expected text i k q place
      → On q place ok at (place ≤ length text → Answer place (m (tokens_at text place)))
      → Answer (suc i) (expect s (tokens_at text i) m)
  unfolding expect
  expect-says s i k {q} {place} m f test e later =
      token-says i k (is s (first (tokens_at text i))) q place m f (test (first (tokens_at text i))) e later

  pub name-says : (i : ℕ) {q : Bool} {place : ℕ} (m : Name → List Token → Reading B) → Expected text i 33 q place
      → On q place ok at (place ≤ length text → Answer place
      (m (name_of (first (tokens_at text i))) (tokens_at text place)))
      → Answer (suc i) (expect_name (tokens_at text i) m)
  unfolding expect_name
  name-says i {q} {place} m e later =
      token-says i 33 (is_name (first (tokens_at text i))) q place (m (name_of (first (tokens_at text i))))
      (λ g. omega arith)
      (is-name (first (tokens_at text i))) e later

  -- a reading, and what comes after it
  pub then-says : {A : Type 0} (Q : A → Type 0) (low : ℕ) {q : Bool} {place : ℕ} (m : Reading A)
      (k : A → List Token → Reading B) → Says text low Q q place m
      → On q place ok at (place ≤ length text → (a : A) → Q a → Answer place (k a (tokens_at text place)))
      → Answer low (and_then m k)
  unfolding and_then
  then-says Q low {q} {place} (read a us) k (reads o u h w p) later =
      subst (λ vs. Answer low (k a vs)) (sym u) (says-lower low place h (later.on o w a p))
  then-says Q low {q} {place} (leaves i) k (leaves-at o e) later = leaves-at (later.off-ok o) (later.off_at o ∙ e)

-- what is said of the tree, said otherwise
pub says-also : (text : List ℕ) {A : Type 0} (P Q : A → Type 0) (low : ℕ) {ok : Bool} {at : ℕ} {m : Reading A}
    → ((a : A) → P a → Q a) → Says text low P ok at m → Says text low Q ok at m
says-also text P Q low f (reads o u h w p) = reads o u h w (f _ p)
says-also text P Q low f (leaves-at o e) = leaves-at o e

-- where the text is refused, nothing is said of a tree
pub says-left : {text : List ℕ} {A : Type 0} {P Q : A → Type 0} {low at : ℕ} {m : Reading A} → Says text low P false at m
    → Says text low Q false at m
says-left (reads o u h w p) = absurd (clash refl (passes o))
says-left (leaves-at o e) = leaves-at o e

-- a token of a kind that stands is passed
pub passed-found : (text : List ℕ) (i k : ℕ) {q : Bool} {place : ℕ} → (k ≡ 32 → ⊥) → next_kind text i ≡ k
    → Expected text i k q place → Passed text i place
passed-found text i k f e (found o n p) = p f
passed-found text i k f e (missing o n p) = absurd (n e)

pub passed_ok : (text : List ℕ) (i k : ℕ) {q : Bool} {place : ℕ} → (k ≡ 32 → ⊥) → q ≡ true → Expected text i k q place
    → Passed text i place
passed_ok text i k f t (found o n p) = p f
passed_ok text i k f t (missing o n p) = absurd (clash o (passes t))

-- and the answer says whether it stands
pub found_ok : (text : List ℕ) (i k : ℕ) {q : Bool} {place : ℕ} → next_kind text i ≡ k → Expected text i k q place
    → q ≡ true
found_ok text i k e (found o n p) = o
found_ok text i k e (missing o n p) = absurd (n e)

pub ok-found : (text : List ℕ) (i k : ℕ) {q : Bool} {place : ℕ} → q ≡ true → Expected text i k q place
    → next_kind text i ≡ k
ok-found text i k e (found o n p) = n
ok-found text i k e (missing o n p) = absurd (clash o (passes e))

pub ok-missing : (text : List ℕ) (i k : ℕ) {q : Bool} {place : ℕ} → q ≡ false → Expected text i k q place
    → next_kind text i ≡ k → ⊥
ok-missing text i k e (found o n p) g = clash e (passes o)
ok-missing text i k e (missing o n p) g = n g

-- where a reading that comes to a tree ends
pub says-bounds : (text : List ℕ) {A : Type 0} (P : A → Type 0) (low : ℕ) {ok : Bool} {at : ℕ} (m : Reading A)
    → ok ≡ true → Says text low P ok at m → (low ≤ at) × (at ≤ length text)
says-bounds text P low m t (reads o u h w p) = (h, w)
says-bounds text P low m t (leaves-at o e) = absurd (clash o (passes t))
