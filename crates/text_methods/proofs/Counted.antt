-- Counting arguments by places is counting them by tokens.
use Prim.Native.Nat.{ℕ, zero, suc, ◌+◌, ◌≤◌, ◌<◌}
use native.Mathlib.Omega.{arith}
use mathlib.Core.Path.{◌≡◌, refl, sym, ap, ◌∙◌}
use mathlib.Core.Bool.{Bool, true, false, cond, ◌&&◌, ◌||◌}
use mathlib.Core.List.{List, [], ◌∷◌}
use lib.Dec.{eqb, eqb→eq}
use borrow.Author.Tests.{eq-eqb, ne_eqb}
use Rattle.lists.proofs.Tests.{passes, clash}
use Rattle.text_parse.specs.Tokens.{Token}
use Rattle.text_parse.specs.Grammar.{rest}
use Rattle.text_tokens.specs.Places.{tokens_at}
use Rattle.text_tokens.specs.KindsCode.{kind_of}
use Rattle.text_tokens.specs.NextCode.{NextToken}
use Rattle.text_tokens.specs.declared.next.TokenAt.{TokenAt}
use Rattle.text_types.specs.SaysCode.{next_kind, Passed}
use Rattle.text_scan.specs.ScanCode.{kind_at, is_none, less_one, depth_after, count_after, count_from, argument_count}
use Rattle.text_scan.proofs.Counting.{count-token}
use Rattle.text_methods.proofs.Tests.{none-test}
use Rattle.text_methods.proofs.Ending.{end-alone, passes-token}

-- the count ends before a token of this kind
abbrev pub count_ends : ℕ → ℕ → Bool
count_ends d k = eqb k 32 || (eqb d 0 && eqb k 20)

-- what a count that began at `from` has come to at a place
pub record CountSoFar (text : List ℕ) (from at d n k : ℕ) (ended : Bool) : Type 0 where
  pub kind-is : k ≡ next_kind text at
  pub ended_is : ended ≡ count_ends d k
  pub depth_low : d ≤ at
  pub count_low : n ≤ at + 1
  pub counts : count_from 0 1 (tokens_at text from) ≡ count_from d n (tokens_at text at)

or-left-off : (a b : Bool) → (a || b) ≡ false → a ≡ false
or-left-off true b e = e
or-left-off false b e = refl

or-right-off : (a b : Bool) → (a || b) ≡ false → b ≡ false
or-right-off true b e = absurd (clash e tt)
or-right-off false b e = e

depth-most : (d k : ℕ) → depth_after d k ≤ d + 1
unfolding depth_after less_one
depth-most zero k = by (eqb k 19) (eqb k 20)
  where
    by : (a b : Bool) → cond a 1 (cond b 0 0) ≤ 0 + 1
    by true b = omega arith
    by false true = omega arith
    by false false = omega arith
depth-most (suc d) k = by (eqb k 19) (eqb k 20)
  where
    by : (a b : Bool) → cond a (suc (suc d)) (cond b d (suc d)) ≤ suc d + 1
    by true b = omega arith
    by false true = omega arith
    by false false = omega arith

count_most : (d n k : ℕ) → count_after d n k ≤ n + 1
unfolding count_after
count_most d n k = by (is_none d && eqb k 25)
  where
    by : (b : Bool) → cond b (suc n) n ≤ n + 1
    by true = omega arith
    by false = omega arith

-- at the token that ends the text, and at the closing bracket
pub count-at-end : (d n : ℕ) (ts : List Token) → kind_at ts ≡ 32 → rest ts ≡ [] → count_from d n ts ≡ n
unfolding count_from count_after
count-at-end d n [] e r = refl
count-at-end d n (t ∷ ts) e r =
    ap (λ us. cond (is_none d && eqb (kind_of t.bytes) 20) n
    (count_from (depth_after d (kind_of t.bytes)) (count_after d n (kind_of t.bytes)) us)) r
    ∙ ap (λ (k : ℕ). cond (is_none d && eqb k 20) n (cond (is_none d && eqb k 25) (suc n) n)) e ∙ by (is_none d)
  where
    by : (b : Bool) → cond (b && false) n (cond (b && false) (suc n) n) ≡ n
    by true = refl
    by false = refl

count-at-close : (d n : ℕ) (ts : List Token) → (eqb d 0 && eqb (kind_at ts) 20) ≡ true → count_from d n ts ≡ n
unfolding count_from
count-at-close d n [] e = refl
count-at-close d n (t ∷ ts) e =
    ap (λ (b : Bool). cond b n (count_from (depth_after d (kind_of t.bytes)) (count_after d n (kind_of t.bytes)) ts))
    (ap (λ (b : Bool). b && eqb (kind_of t.bytes) 20) (none-test d) ∙ e)

module _ (text : List ℕ) (from : ℕ) where
  pub count-begins : (k : ℕ) (e : Bool) → k ≡ next_kind text from → e ≡ count_ends 0 k
      → CountSoFar text from from 0 1 k e
  count-begins k e p q = record {
    kind-is = p;
    ended_is = q;
    depth_low = omega arith;
    count_low = omega arith;
    counts = refl;
  }

  module _ (at d n k : ℕ) (e : Bool) (c : CountSoFar text from at d n k e) where
    going : e ≡ false → eqb (next_kind text at) 32 ≡ false
    going f =
        ap (λ (j : ℕ). eqb j 32) (sym c.kind-is) ∙ or-left-off (eqb k 32) (eqb d 0 && eqb k 20)
        (sym c.ended_is ∙ f)

    pub count-passes : e ≡ false → (t : TokenAt) → NextToken text at t → Passed text at t.end
    count-passes f t next =
        passes-token text at t next (λ z. clash (going f) (passes (eq-eqb (next_kind text at) 32 z)))

    pub count-goes : e ≡ false → (t : TokenAt) → NextToken text at t → (d' n' k' : ℕ) (e' : Bool)
        → d' ≡ depth_after d k → n' ≡ count_after d n k → k' ≡ next_kind text t.end → e' ≡ count_ends d' k'
        → CountSoFar text from t.end d' n' k' e'
    count-goes f t next d' n' k' e' dd nn kk ee =
        let p = count-passes f t next in
        let onward : at < t.end = p.onward in
        let low : d ≤ at = c.depth_low in
        let most : depth_after d k ≤ d + 1 = depth-most d k in
        let low_count : n ≤ at + 1 = c.count_low in
        let most-count : count_after d n k ≤ n + 1 = count_most d n k in
        record {
          kind-is = kk;
          ended_is = ee;
          depth_low = omega arith;
          count_low = omega arith;
          counts =
              c.counts
              ∙ count-token d n k (tokens_at text at) (sym c.kind-is)
              (ap (λ (j : ℕ). eqb j 32) c.kind-is ∙ going f)
              (ap (λ (b : Bool). b && eqb k 20) (none-test d)
              ∙ or-right-off (eqb k 32) (eqb d 0 && eqb k 20) (sym c.ended_is ∙ f))
              ∙ ap (count_from (depth_after d k) (count_after d n k)) p.after
              ∙ ap (λ (j : ℕ). count_from j (count_after d n k) (tokens_at text t.end)) (sym dd)
              ∙ ap (λ (j : ℕ). count_from d' j (tokens_at text t.end)) (sym nn);
        }

    pub count-done : e ≡ true → n ≡ count_from 0 1 (tokens_at text from)
    count-done f = sym (c.counts ∙ by (eqb k 32) refl)
      where
        by : (b : Bool) → eqb k 32 ≡ b → count_from d n (tokens_at text at) ≡ n
        by true z =
            let last : next_kind text at ≡ 32 =
            sym c.kind-is ∙ eqb→eq k 32 (passes z) in
            count-at-end d n (tokens_at text at) last (end-alone text at last)
        by false z =
            count-at-close d n (tokens_at text at)
            (ap (λ (j : ℕ). eqb d 0 && eqb j 20) (sym c.kind-is)
            ∙ sym (ap (λ (b : Bool). b || (eqb d 0 && eqb k 20)) z) ∙ sym c.ended_is ∙ f)

-- none before the closing bracket, and else those that are counted
pub no_arguments : (text : List ℕ) (i k : ℕ) → k ≡ next_kind text i → k ≡ 20 → 0 ≡ argument_count (tokens_at text i)
unfolding argument_count
no_arguments text i k e f =
    sym (ap (λ (b : Bool). cond b 0 (count_from 0 1 (tokens_at text i))) (eq-eqb (next_kind text i) 20 (sym e ∙ f)))

pub some-arguments : (text : List ℕ) (i k : ℕ) {n : ℕ} → k ≡ next_kind text i → (k ≡ 20 → ⊥)
    → n ≡ count_from 0 1 (tokens_at text i) → n ≡ argument_count (tokens_at text i)
unfolding argument_count
some-arguments text i k e f q =
    q ∙ sym (ap (λ (b : Bool). cond b 0 (count_from 0 1 (tokens_at text i)))
    (ne_eqb (next_kind text i) 20 (λ z. f (e ∙ z))))
