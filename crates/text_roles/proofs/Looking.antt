-- Looking for a name's declaration by places is looking for it by tokens.
use Prim.Native.Nat.{ℕ, zero, suc, ◌+◌, ◌≤◌, ◌<◌}
use native.Mathlib.Omega.{arith}
use mathlib.Core.Path.{◌≡◌, refl, sym, ap, ◌∙◌}
use mathlib.Core.Bool.{Bool, true, false, cond, ◌&&◌, not}
use mathlib.Core.List.{List, [], ◌∷◌}
use lib.Dec.{eqb, eqb→eq, leb, ltb}
use lib.Seq.{slice}
use borrow.Author.Tests.{eq-eqb, ltb-true, ltb-false, le-leb, lt-leb}
use Rattle.lists.specs.Lists.{same}
use Rattle.lists.proofs.Tests.{passes, passed, clash, and_left, and_right, off}
use Rattle.text_parse.specs.Tokens.{Token}
use Rattle.text_parse.specs.Grammar.{first, rest}
use Rattle.text_tokens.specs.Places.{tokens_at}
use Rattle.text_tokens.specs.KindsCode.{kind_of}
use Rattle.text_tokens.specs.NextCode.{NextToken}
use Rattle.text_tokens.specs.declared.next.TokenAt.{TokenAt}
use Rattle.text_types.specs.SaysCode.{next_kind, next_at, Passed}
use Rattle.text_types.proofs.Answers.{kind-next, at_next}
use Rattle.text_scan.specs.ScanCode.{kind_at, is_none, mode_after, braces_after, brace_role, role}
use Rattle.text_methods.proofs.Ending.{end-alone, passes-token}
use Rattle.text_methods.proofs.Finding.{split_at, braces-most}
use Rattle.text_roles.specs.FoundCode.{found_after, found_up_to}

abbrev pub goes_on : ℕ → ℕ → ℕ → Bool
goes_on k start to = not (eqb k 32) && ltb start to

-- at the token that ends the text nothing is declared
pub end-role : (m b f : ℕ) → role m b 32 f ≡ 0
unfolding role brace_role is_none
end-role m zero f = refl
end-role m (suc b) f = refl

found-at-end : (least : ℕ) (x : List ℕ) (to m b found : ℕ) (ts : List Token) → kind_at ts ≡ 32 → rest ts ≡ []
    → found_up_to least x to m b found ts ≡ found
unfolding found_up_to found_after kind_of
found-at-end least x to m b found [] e r = refl
found-at-end least x to m b found (t ∷ ts) e r =
    ap (λ us. found_up_to least x to m b found (t ∷ us)) r
    ∙ ap (λ (k : ℕ). cond (leb to t.at) found
    (found_after least b (role m b k 32) (same x t.bytes) found)) e
    ∙ ap (λ (j : ℕ). cond (leb to t.at) found (found_after least b j (same x t.bytes) found)) (end-role m b 32)
    ∙ by (leb to t.at)
  where
    by : (c : Bool) → cond c found found ≡ found
    by true = refl
    by false = refl

pub found-there : (least : ℕ) (x : List ℕ) (to m b found : ℕ) (ts : List Token) → to ≤ (first ts).at
    → found_up_to least x to m b found ts ≡ found
unfolding found_up_to
found-there least x to m b found [] l = refl
found-there least x to m b found (t ∷ ts) l = rw (le-leb to t.at l) refl

-- one token, by its place
module _ (text : List ℕ) (least : ℕ) (x : List ℕ) (to at m b found : ℕ) (t u : TokenAt) (n : NextToken text at t)
    (p : NextToken text t.end u) (f : next_kind text at ≡ 32 → ⊥) (l : t.start < to) where
  pub found-step : found_up_to least x to m b found (tokens_at text at)
      ≡ found_up_to least x to (mode_after m b t.kind) (braces_after b t.kind)
      (found_after least b (role m b t.kind u.kind) (same x (slice t.start t.end text)) found)
      (tokens_at text t.end)
  unfolding found_up_to
  found-step =
      ap (found_up_to least x to m b found) (split_at text at t n f)
      ∙ rw (lt-leb to t.start l) refl
      ∙ ap (λ (k : ℕ). onward k (kind_at (tokens_at text t.end))) (sym n.kind)
      ∙ ap (onward t.kind) (kind-next text t.end u p)
    where
      onward : ℕ → ℕ → ℕ
      onward k j =
          found_up_to least x to (mode_after m b k) (braces_after b k)
          (found_after least b (role m b k j) (same x (slice t.start t.end text)) found) (tokens_at text t.end)

-- what a search that began at `from` has come to at a place
pub record LookSoFar (text : List ℕ) (least : ℕ) (x : List ℕ) (from to at m b found : ℕ) (more : Bool) : Type 0 where
  pub more-is : more ≡ goes_on (next_kind text at) (next_at text at) to
  pub braces-low : b ≤ at
  pub finds : found_up_to least x to 0 0 0 (tokens_at text from) ≡ found_up_to least x to m b found (tokens_at text at)

module _ (text : List ℕ) (least : ℕ) (x : List ℕ) (from to : ℕ) where
  pub look-begins : (t : TokenAt) → NextToken text from t → (more : Bool) → more ≡ goes_on t.kind t.start to
      → LookSoFar text least x from to from 0 0 0 more
  look-begins t n more e = record {
    more-is =
        e ∙ ap (λ (k : ℕ). goes_on k t.start to) (sym (kind-next text from t n))
        ∙ ap (λ (i : ℕ). goes_on (next_kind text from) i to) (sym (at_next text from t n));
    braces-low = omega arith;
    finds = refl;
  }

  module _ (at m b found : ℕ) (more : Bool) (s : LookSoFar text least x from to at m b found more) where
    not_end : more ≡ true → next_kind text at ≡ 32 → ⊥
    not_end e q =
        clash (off (eqb (next_kind text at) 32) (passed (not (eqb (next_kind text at) 32))
        (and_left (not (eqb (next_kind text at) 32)) (ltb (next_at text at) to) (passes (sym s.more-is ∙ e)))))
        (passes (eq-eqb (next_kind text at) 32 q))

    pub look-passes : more ≡ true → (t : TokenAt) → NextToken text at t → Passed text at t.end
    look-passes e t n = passes-token text at t n (not_end e)

    pub look-goes : more ≡ true → (t u : TokenAt) → NextToken text at t → NextToken text t.end u
        → (r : ℕ) (is : Bool) (found' m' b' : ℕ) (more' : Bool) → r ≡ role m b t.kind u.kind
        → is ≡ same x (slice t.start t.end text) → found' ≡ found_after least b r is found
        → m' ≡ mode_after m b t.kind → b' ≡ braces_after b t.kind → more' ≡ goes_on u.kind u.start to
        → LookSoFar text least x from to t.end m' b' found' more'
    look-goes e t u n p r is found' m' b' more' rr ii ff mm bb oo =
        let low : b ≤ at = s.braces-low in
        let most : braces_after b t.kind ≤ b + 1 = braces-most b t.kind in
        let onward : at < t.end = (look-passes e t n).onward in
        let before : next_at text at < to =
        ltb-true (next_at text at) to (passed (ltb (next_at text at) to)
        (and_right (not (eqb (next_kind text at) 32)) (ltb (next_at text at) to) (passes (sym s.more-is ∙ e)))) in
        let start : next_at text at ≡ t.start = at_next text at t n in
        let us = tokens_at text t.end in
        let then =
        found_after least b (role m b t.kind u.kind) (same x (slice t.start t.end text)) found in
        record {
          more-is = look-begins-more t u p more' oo;
          braces-low = omega arith;
          finds =
              s.finds ∙ found-step text least x to at m b found t u n p (not_end e) (omega arith)
              ∙ ap (λ (j : ℕ). found_up_to least x to j (braces_after b t.kind) then us) (sym mm)
              ∙ ap (λ (j : ℕ). found_up_to least x to m' j then us) (sym bb)
              ∙ ap (λ (c : Bool). found_up_to least x to m' b'
              (found_after least b (role m b t.kind u.kind) c found) us) (sym ii)
              ∙ ap (λ (j : ℕ). found_up_to least x to m' b' (found_after least b j is found) us) (sym rr)
              ∙ ap (λ (j : ℕ). found_up_to least x to m' b' j us) (sym ff);
        }
      where
        look-begins-more : (t u : TokenAt) → NextToken text t.end u → (o : Bool)
            → o ≡ goes_on u.kind u.start to
            → o ≡ goes_on (next_kind text t.end) (next_at text t.end) to
        look-begins-more t u p o q =
            q ∙ ap (λ (k : ℕ). goes_on k u.start to) (sym (kind-next text t.end u p))
            ∙ ap (λ (i : ℕ). goes_on (next_kind text t.end) i to) (sym (at_next text t.end u p))

    pub look-done : more ≡ false → found ≡ found_up_to least x to 0 0 0 (tokens_at text from)
    look-done e = sym (s.finds ∙ by (eqb (next_kind text at) 32) refl)
      where
        by : (c : Bool) → eqb (next_kind text at) 32 ≡ c → found_up_to least x to m b found (tokens_at text at) ≡ found
        by true q =
            let last : next_kind text at ≡ 32 = eqb→eq (next_kind text at) 32 (passes q) in
            found-at-end least x to m b found (tokens_at text at) last (end-alone text at last)
        by false q =
            found-there least x to m b found (tokens_at text at)
            (ltb-false (next_at text at) to
            (sym (ap (λ (c : Bool). not c && ltb (next_at text at) to) q) ∙ sym s.more-is ∙ e))
