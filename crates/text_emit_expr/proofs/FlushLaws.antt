-- Instructions that wait for the end of an expression, written one after the other.
use Prim.Native.Nat.{ℕ, zero, suc, ◌+◌, ◌*◌, ◌-◌, ◌≤◌, ◌<◌}
use native.Mathlib.Omega.{arith}
use mathlib.Core.Path.{◌≡◌, refl, sym, ap, ◌∙◌, subst}
use mathlib.Core.Logic.{◌⊎◌, inl, inr, ⊎_elim}
use mathlib.Core.Bool.{Bool, true, false, cond, ◌&&◌}
use mathlib.Core.List.{List, [], ◌∷◌}
use mathlib.Core.Option.{none}
use borrow.Author.Tests.{ne_eqb, ltb-true, ltb-false, leb-true, eqb-true}
use lib.Dec.{T, eqb, leb, ltb}
use lib.ListN.{get_or}
use Rattle.lists.proofs.Tests.{decide, passes, passed, or_cases, and_left, and_right}
use Rattle.text.specs.Translation.{instruction, Scope}
use Rattle.text_parse.specs.Tokens.{Token}
use Rattle.text_parse.specs.Grammar.{Scopes, operator_at}
use Rattle.text_tokens.specs.Places.{tokens_at}
use Rattle.text_numbering.specs.CodeBy.{number_fits}
use Rattle.text_emit_expr.specs.RestCode.{Frame, waiting, prefixed, ended_rest, rest_of, frames_in}
use Rattle.text_emit_expr.specs.EndsCode.{Leads, Standing, Pop, popped, no_place, top_of, goes, Flush}
use Rattle.text_emit_expr.specs.declared.state.StateAt.{StateAt}
use Rattle.text_emit_expr.proofs.StackLaws.{top-bracket, top-nothing, top-entry}
use Rattle.text_emit_expr.proofs.EndedRest.{operator-waits, put-waits, whole-ended}
use Rattle.text_emit_expr.proofs.StateLaws.{pop-leads, pop-stands}

-- an entry is on top, with no bracket open above it
pub record HasTop (p : List ℕ) (s : StateAt) : Type 0 where
  pub closed : s.unclosed ≡ 0
  pub some : 0 < s.entries
  pub op : top_of p s ≡ get_or p (3 * (s.entries - 1)) 0

pub has-top : (p : List ℕ) (s : StateAt) → (top_of p s ≡ 0 → ⊥) → HasTop p s
has-top p s f =
    let closed : s.unclosed ≡ 0 =
    ⊎_elim (λ e. absurd (f (sym (top-bracket p s (ltb-true 0 s.unclosed e)))))
    (λ e. (let h : s.unclosed ≤ 0 = ltb-false 0 s.unclosed e in omega arith)) (decide (ltb 0 s.unclosed)) in
    let some : s.entries ≡ 0 → ⊥ = λ e. f (sym (top-nothing p s e)) in record {
      closed = closed;
      some = positive s.entries some;
      op = sym (top-entry p s closed some);
    }
  where
    positive : (n : ℕ) → (n ≡ 0 → ⊥) → 0 < n
    positive zero g = absurd (g refl)
    positive (suc n) g = omega arith

-- which ops go
pub goes-cases : (o : ℕ) (puts : Bool) → goes o puts ≡ true → (19 ≤ o) ⊎ ((o ≡ 4) × (puts ≡ true))
goes-cases o puts e =
    ⊎_elim (λ (t : T (leb 19 o)). inl (leb-true 19 o (passed (leb 19 o) t)))
    (λ (t : T (eqb o 4 && puts)). inr
    (eqb-true o 4 (passed (eqb o 4) (and_left (eqb o 4) puts t)), passed puts (and_right (eqb o 4) puts t)))
    (or_cases (leb 19 o) (eqb o 4 && puts) (passes e))

pub fits-other : (o a : ℕ) → (o ≡ 1 → ⊥) → number_fits (instruction o a) ≡ true
unfolding number_fits
fits-other o a f = rw (ne_eqb o 1 f) refl

pub leads-then : (scopes : Scopes) (sc : Scope) (text p code : List ℕ) (s : StateAt) (p₁ code₁ : List ℕ) (s₁ : StateAt)
    (p₂ code₂ : List ℕ) (s₂ : StateAt) → Leads scopes sc text p code s p₁ code₁ s₁
    → Leads scopes sc text p₁ code₁ s₁ p₂ code₂ s₂ → Leads scopes sc text p code s p₂ code₂ s₂
leads-then scopes sc text p code s p₁ code₁ s₁ p₂ code₂ s₂ f g r h = f r (g r h)

-- what is written so far
pub record FlushSoFar (p code : List ℕ) (s : StateAt) (puts : Bool) (code' : List ℕ) (t : StateAt) : Type 0 where
  pub stands : (text : List ℕ) → Standing text p s → Standing text p t
  pub leads : (scopes : Scopes) (sc : Scope) (text : List ℕ)
      → (puts ≡ true → operator_at (tokens_at text s.at) ≡ none) → Leads scopes sc text p code s p code' t
  pub at : t.at ≡ s.at

module _ (p code : List ℕ) (s : StateAt) (puts : Bool) where
  pub going-begun : FlushSoFar p code s puts code s
  going-begun = record { stands = λ text h. h; leads = λ scopes sc text n r h. h; at = refl }

  module _ (code₁ : List ℕ) (t : StateAt) (g : FlushSoFar p code s puts code₁ t) (two : t.phase ≡ 2)
      (more : goes (top_of p t) puts ≡ true) where
    going-topped : HasTop p t
    going-topped = has-top p t (λ e. passes (sym (ap (λ (o : ℕ). goes o puts) e) ∙ more))

    pub going-some : 0 < t.entries
    going-some = going-topped.some

    abbrev o : ℕ
    o = get_or p (3 * (t.entries - 1)) 0

    abbrev a : ℕ
    a = get_or p (3 * (t.entries - 1) + 1) 0

    going-op : (19 ≤ o) ⊎ ((o ≡ 4) × (puts ≡ true))
    going-op = goes-cases o puts (sym (ap (λ (i : ℕ). goes i puts) going-topped.op) ∙ more)

    waiting-rest : (scopes : Scopes) (sc : Scope) (k : List Frame) (ts : List Token)
        → (puts ≡ true → operator_at ts ≡ none)
        → (19 ≤ o) ⊎ ((o ≡ 4) × (puts ≡ true))
        → ended_rest scopes sc (waiting o a ∷ k) ts ≡ prefixed (instruction o a ∷ []) (ended_rest scopes sc k ts)
    waiting-rest scopes sc k ts n (inl le) = operator-waits scopes sc k ts o a le
    waiting-rest scopes sc k ts n (inr (e, q)) =
        subst (λ (i : ℕ). ended_rest scopes sc (waiting i a ∷ k) ts
        ≡ prefixed (instruction i a ∷ []) (ended_rest scopes sc k ts)) (sym e)
        (put-waits scopes sc k ts a
        ∙ ap (prefixed (instruction 4 a ∷ [])) (whole-ended scopes sc k ts (n q)))

    op_fits : (19 ≤ o) ⊎ ((o ≡ 4) × (puts ≡ true)) → number_fits (instruction o a) ≡ true
    op_fits (inl le) = fits-other o a (λ e. omega arith)
    op_fits (inr (e, q)) = fits-other o a (λ f. omega arith)

    pub going_on : (code₂ : List ℕ) (u : StateAt) → Pop p code₁ t 2 t.at code₂ u → FlushSoFar p code s puts code₂ u
    unfolding rest_of
    going_on code₂ u w = record {
      stands = λ text h.
          (let st : Standing text p t = g.stands text h in
          pop-stands text p t st code₁ code₂ u 2 t.at w going-topped.some going-topped.closed (omega arith)
          st.inside);
      leads = λ scopes sc text n.
          (let k : List Frame = frames_in p (t.entries - 1) (get_or p (3 * (t.entries - 1) + 2) 0) in
          let ts : List Token = tokens_at text t.at in
          leads-then scopes sc text p code s p code₁ t p code₂ u (g.leads scopes sc text n)
          (pop-leads scopes sc text p code₁ t code₂ u 2 t.at w going-topped.some going-topped.closed
          (op_fits going-op)
          (ap (λ (i : ℕ). rest_of scopes sc i (waiting o a ∷ k) ts) two
          ∙ waiting-rest scopes sc k ts
          (λ q. ap (λ (i : ℕ). operator_at (tokens_at text i)) g.at ∙ n q) going-op)
          (subst (λ (i : ℕ). cond (eqb i 0) (suc t.at) t.at ≤ t.at) (sym two) (omega arith))));
      at = place w ∙ g.at;
    }
      where
        place : Pop p code₁ t 2 t.at code₂ u → u.at ≡ t.at
        place (popped h e w) = ap (λ (x : StateAt). x.at) e
        place (no_place h e) = ap (λ (x : StateAt). x.at) e

    -- the phase is the same, or it has given up; and an entry less waits
    pub going-phase : (code₂ : List ℕ) (u : StateAt) → Pop p code₁ t 2 t.at code₂ u → (u.phase ≡ 4 → ⊥)
        → (u.phase ≡ 2) × (u.entries ≡ t.entries - 1)
    going-phase code₂ u (popped h e w) f = (ap (λ (x : StateAt). x.phase) e, ap (λ (x : StateAt). x.entries) e)
    going-phase code₂ u (no_place h e) f = absurd (f (ap (λ (x : StateAt). x.phase) e))

  pub flush-full : (code₁ : List ℕ) (t : StateAt) → FlushSoFar p code s puts code₁ t → t.phase ≡ 4
      → Flush p code s puts code₁ t
  flush-full code₁ t g e = record { stands = g.stands; leads = g.leads; phase = inl e; at = g.at }

  pub flush-done : (code₁ : List ℕ) (t : StateAt) → FlushSoFar p code s puts code₁ t → t.phase ≡ 2
      → goes (top_of p t) puts ≡ false → Flush p code s puts code₁ t
  flush-done code₁ t g e f = record { stands = g.stands; leads = g.leads; phase = inr (e, f); at = g.at }
