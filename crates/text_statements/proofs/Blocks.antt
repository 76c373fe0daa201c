-- A block that opens within the open ones.
use Prim.Native.Nat.{ℕ, zero, suc, ◌+◌, ◌-◌, ◌<◌}
use native.Mathlib.Omega.{arith}
use mathlib.Core.Path.{◌≡◌, refl, sym, ap, ◌∙◌, subst}
use mathlib.Core.Logic.{⊎_elim}
use mathlib.Core.Bool.{Bool, true}
use mathlib.Core.List.{List, [], ◌∷◌}
use lib.ListN.{get_or}
use Rattle.text.specs.Tree.{Declaration, Declared, declared_by}
use Rattle.text_parse.specs.Grammar.{Reading, read, leaves, Scopes}
use Rattle.text_parse.specs.Equations.{declarations_from}
use Rattle.text_tokens.specs.Places.{tokens_at}
use Rattle.lists.proofs.Tests.{decide, clash, passes}
use Rattle.text_types.specs.SaysCode.{Expected, On, Says, reads, leaves-at}
use Rattle.text_types.proofs.Answers.{passed_ok}
use Rattle.text_scopes.specs.OpenCode.{BlockAt, BodyAt, Opened, method-body, inner_block}
use Rattle.text_statements.specs.WithinCode.{Reads, DeclarationsEnd, Inside}

-- the places of the blocks before block n are the same
abbrev pub SameBelow : ℕ → List ℕ → List ℕ → Type 0
SameBelow n starts inner = (k : ℕ) → k < n → get_or inner k 0 ≡ get_or starts k 0

module _ (text starts inner : List ℕ) where
  opened-same : {n : ℕ} {scopes : Scopes} → SameBelow n starts inner → Opened text starts n scopes
      → Opened text inner n scopes
  opened-same h (method-body {ds} b) =
      method-body (subst (λ (i : ℕ). BodyAt text i ds) (sym (h 0 (omega arith))) b)
  opened-same h (inner_block {n} {ds} o b) =
      inner_block (opened-same (λ k l. h k (omega arith)) o)
      (subst (λ (i : ℕ). BlockAt text i ds) (sym (h (suc n) (omega arith))) b)

  none_open : {scopes : Scopes} → Opened text starts 0 scopes → ⊥
  none_open o = by_count o refl
    where
      by_count : {n : ℕ} {scopes : Scopes} → Opened text starts n scopes → n ≡ 0 → ⊥
      by_count (method-body b) e = absurd (omega arith)
      by_count (inner_block o b) e = absurd (omega arith)

  opened-next : (n : ℕ) {i : ℕ} {scopes : Scopes} {ds : List Declared} → SameBelow n starts inner → get_or inner n 0 ≡ i
      → Opened text starts n scopes → BlockAt text i ds → Opened text inner (suc n) (ds ∷ scopes)
  opened-next zero h e o b = absurd (none_open o)
  opened-next (suc n) {i} {scopes} {ds} h e o b =
      inner_block (opened-same h o) (subst (λ (j : ℕ). BlockAt text j ds) (sym e) b)

  pub opened-more : {n i : ℕ} {scopes : Scopes} {ds : List Declared} → SameBelow n starts inner → get_or inner n 0 ≡ i
      → Opened text starts n scopes → BlockAt text i ds → Opened text inner (n + 1) (ds ∷ scopes)
  opened-more {n} {i} {scopes} {ds} h e o b =
      let more : suc n ≡ n + 1 = omega arith in
      subst (λ (m : ℕ). Opened text inner m (ds ∷ scopes)) more (opened-next n h e o b)

-- a reading that comes to a tree comes to this one
pub read_as : (text : List ℕ) {A : Type 0} (low : ℕ) {ok : Bool} {at : ℕ} (m : Reading A) → Reads text low ok at m
    → Says text low (λ a. m ≡ read a (tokens_at text at)) ok at m
read_as text low (read a us) (reads o u h w p) = reads o u h w (ap (read a) u)
read_as text low (leaves i) (leaves-at o e) = leaves-at o e

-- the block of the declarations that are read
pub block_at : (text : List ℕ) (i at : ℕ) (list : List Declaration)
    → declarations_from [] (tokens_at text i) ≡ read list (tokens_at text at) → BlockAt text i (declared_by list)
block_at text i at list e = record { list = list; after = tokens_at text at; reading = e; declares = refl }

module _ (text starts inner : List ℕ) (n left : ℕ) where
  inside-by : {i p : ℕ} {ok : Bool} → Inside text starts n (left + 1) → SameBelow n starts inner → get_or inner n 0 ≡ i
      → ok ≡ true → (m : Reading (List Declaration)) → m ≡ declarations_from [] (tokens_at text i)
      → Reads text i ok p m → Inside text inner (n + 1) left
  inside-by {i} {p} o b f t (read ds us) e (reads s u h w k) =
      let most = o.levels in record {
        scopes = declared_by ds ∷ o.scopes;
        opened = opened-more text starts inner b f o.opened (block_at text i p ds (sym e ∙ ap (read ds) u));
        levels = omega arith;
      }
  inside-by o b f t (leaves j) e (leaves-at s u) = absurd (clash s (passes t))

  -- after the declarations the block is open
  pub inside-more : (i : ℕ) {q1 q2 : Bool} {p1 p2 : ℕ} → Inside text starts n (left + 1)
      → Expected text i 21 q1 p1 → On q1 p1 q2 p2 (DeclarationsEnd text p1 q2 p2) → q2 ≡ true
      → SameBelow n starts inner → get_or inner n 0 ≡ p1 → Inside text inner (n + 1) left
  inside-more i {q1} {q2} {p1} {p2} o s1 s2 t b f =
      ⊎_elim
      (λ e. inside-by o b f t (declarations_from [] (tokens_at text p1)) refl
      (s2.on e (passed_ok text i 21 (λ g. omega arith) e s1).within))
      (λ e. absurd (clash (s2.off-ok e) (passes t)))
      (decide q1)

-- one level of those that are left
pub inside-level : (text starts : List ℕ) (n left : ℕ) → (left ≡ 0 → ⊥) → Inside text starts n left
    → Inside text starts n (left - 1 + 1)
inside-level text starts n left f o =
    let same : left ≡ left - 1 + 1 = omega arith in subst (λ (l : ℕ). Inside text starts n l) same o

pub inside-less : (text starts : List ℕ) (n left : ℕ) → Inside text starts n left → Inside text starts n (left - 1)
inside-less text starts n left o =
    let most = o.levels in
    record { scopes = o.scopes; opened = o.opened; levels = omega arith }
