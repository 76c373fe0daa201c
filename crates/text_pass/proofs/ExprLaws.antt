-- From the pass by places to the grammar's reading of an expression.
use Prim.Native.Nat.{ℕ, suc, ◌+◌, ◌≤◌, ◌<◌}
use native.Mathlib.Omega.{arith}
use mathlib.Core.Path.{◌≡◌, refl, sym, ap, ◌∙◌, subst}
use mathlib.Core.Logic.{◌⊎◌, ⊎_elim}
use mathlib.Core.Bool.{Bool, true, false, cond, true≢false}
use mathlib.Core.List.{List, [], ◌∷◌, ◌++◌}
use lib.ListN.{length, drop}
use Rattle.lists.proofs.Tests.{cond_both}
use Rattle.text.specs.Tree.{Expr}
use Rattle.text_parse.specs.Tokens.{Token, is_white, extends, finished, tokens_from, is, is_name, is_numeral}
use Rattle.text_parse.specs.Grammar.{Reading, read, leaves, and_then, first, Scopes, enough}
use Rattle.text_parse.specs.Left.{Leaving, leaving, Ended}
use Rattle.text_parse.specs.Equations.{expr_from}
use Rattle.text_parse.proofs.Progress.{progress}
use Rattle.text_tokens.specs.Places.{tokens_at}
use Rattle.text_tokens.specs.NextCode.{NextToken, next_at}
use Rattle.text_tokens.specs.declared.next.TokenAt.{TokenAt}
use Rattle.text_types.specs.SaysCode.{Passed, Says, reads, leaves-at}
use Rattle.text_expr.specs.PhasesCode.{operand, bare, over, closed, is_operator, ended, after_new, bare_step, step, follow, pass}
use Rattle.text_expr.specs.LevelsCode.{assigned, opens, Action, stay, assigns, unassigns, opens_level, closes_level, next_argument, astray, beyond, operand_action, action, phase_after, count_after, levels_after}
use Rattle.text_expr.proofs.Same.{expr-passes}
use Rattle.text_expr.proofs.Notes.{Continues}
use Rattle.text_effect.specs.EffectCode.{phase_in, effect_in}
use Rattle.text_window.specs.WindowCode.{counts_after, brackets_after, depth_after, stops_on, Window}
use Rattle.std.specs.Prelude.{is_ok}
use Rattle.text_types.specs.Answer.{place_at}
use Rattle.text_pass.specs.WalkCode.{State, begins, doing, after, Leads, Standing, answer_of}
use Rattle.text_effect.specs.declared.phase.Phase.{Phase}
use Rattle.text_effect.specs.declared.phase.Effect.{Effect}
use Rattle.text_effect.specs.declared.phase.Effect.TheVariants.{Stay, Assigns, Unassigns, OpensBracket, OpensCall, Closes, NextArgument, Astray, Beyond}
use Rattle.text_window.proofs.WindowLaws.{window-after}
use Rattle.text_pass.proofs.WalkLaws.{goes-passed, pass_from, pass-astray, pass-beyond, leads-on, leads-pass, leads-moved, few-open, few-levels, closes-one}

-- The tokens from a place on end with the one that ends the text.
finished-ended : (begun : List ℕ) (at : ℕ) (ts : List Token) → Ended ts → Ended (finished begun at ts)
unfolding finished
finished-ended [] at ts e = e
finished-ended (b ∷ bs) at [] e = absurd e
finished-ended (b ∷ bs) at (t ∷ ts) e = e

from-ended : (bs begun : List ℕ) (at i : ℕ) → Ended (tokens_from begun at i bs)
unfolding tokens_from
from-ended [] begun at i = finished-ended begun at (record { bytes = []; at = i } ∷ []) refl
from-ended (b ∷ bs) begun at i =
    cond_both Ended (extends begun b) (from-ended bs (begun ++ (b ∷ [])) at (suc i))
    (finished-ended begun at _
    (cond_both Ended (is_white b) (from-ended bs [] i (suc i)) (from-ended bs (b ∷ []) i (suc i))))

tokens-ended : (text : List ℕ) (i : ℕ) → Ended (tokens_at text i)
unfolding tokens_at
tokens-ended text i = from-ended (drop i text) [] i i

-- what is left of a reading that comes to a tree
left-of : {P : List Token → Type 0} {A : Type 0} {r : Reading A} (a : A) (us : List Token) → Leaving P r → r ≡ read a
    us
    → P us
left-of {P} a us h e = of (subst (Leaving P) e h)
  where
    of : Leaving P (read a us) → P us
    of (leaving p) = p

module _ (scopes : Scopes) where
  -- with nothing open, an expression ends before whatever follows it
  bare_ends : (us : List Token) → Ended us → pass scopes us bare [] ≡ read tt us
  unfolding pass step bare_step after_new ended closed follow
  bare_ends [] e = absurd e
  bare_ends (t ∷ us) e = by (is_operator t)
    where
      by : (b : Bool) → follow (pass scopes us) t us (cond b over over) ≡ read tt (t ∷ us)
      by true = refl
      by false = refl

  expr-ended : (ts : List Token) (e : Expr) (us : List Token) → expr_from scopes ts ≡ read e us → Ended ts → Ended us
  unfolding expr_from
  expr-ended ts e us q h = (left-of e us (progress.expr-on (enough ts) scopes ts) q).ended h

  -- what the pass comes to, by what the grammar's reading comes to
  pass-read : (ts : List Token) (e : Expr) (us : List Token) → Ended ts → expr_from scopes ts ≡ read e us
      → pass scopes ts operand [] ≡ read tt us
  unfolding and_then
  pass-read ts e us h q =
      expr-passes scopes ts
      ∙ ap (λ (r : Reading Expr). and_then r (λ x vs. pass scopes vs bare [])) q
      ∙ bare_ends us (expr-ended ts e us q h)

  pass-leaves : (ts : List Token) (i : ℕ) → expr_from scopes ts ≡ leaves i → pass scopes ts operand [] ≡ leaves i
  unfolding and_then
  pass-leaves ts i q =
      expr-passes scopes ts ∙ ap (λ (r : Reading Expr). and_then r (λ x vs. pass scopes vs bare [])) q

-- two readings that come to the same
leaves-same : (i j : ℕ) → ◌≡◌ {A = Reading (Unit {0})} (leaves i) (leaves j) → i ≡ j
leaves-same i j e = cc

read_same : (us vs : List Token) → ◌≡◌ {A = Reading (Unit {0})} (read tt us) (read tt vs) → us ≡ vs
read_same us vs e = cc

never_both : (us : List Token) (i : ℕ) → ◌≡◌ {A = Reading (Unit {0})} (read tt us) (leaves i) → ⊥
never_both us i e = let z : ◌≡◌ {A = ℕ} 0 1 = cc in omega arith

module _ (scopes : Scopes) (text : List ℕ) (from : ℕ) where
  abbrev ts : List Token
  ts = tokens_at text from

  abbrev ExprSays : Bool → ℕ → Reading Expr → Type 0
  ExprSays ok at r = Says text (suc from) (λ (e : Expr). Unit {0}) ok at r

  astray-says : (i : ℕ) → pass scopes ts operand [] ≡ leaves i → ExprSays false i (expr_from scopes ts)
  astray-says i p = by (expr_from scopes ts) refl
    where
      by : (r : Reading Expr) → expr_from scopes ts ≡ r → ExprSays false i r
      by (read e us) q =
          absurd (never_both us i (sym (pass-read scopes ts e us (tokens-ended text from) q) ∙ p))
      by (leaves j) q = leaves-at refl (leaves-same i j (sym p ∙ pass-leaves scopes ts j q))

  beyond-says : (at : ℕ) → pass scopes ts operand [] ≡ read tt (tokens_at text at) → from < at → at ≤ length text
      → ExprSays true at (expr_from scopes ts)
  beyond-says at p l w = by (expr_from scopes ts) refl
    where
      by : (r : Reading Expr) → expr_from scopes ts ≡ r → ExprSays true at r
      by (read e us) q =
          reads refl (read_same us (tokens_at text at) (sym (pass-read scopes ts e us (tokens-ended text from) q) ∙ p))
          l w
          tt
      by (leaves j) q = absurd (never_both (tokens_at text at) j (sym p ∙ pass-leaves scopes ts j q))

  -- an expression has an operand
  abbrev Within : Action → Type 0
  Within (stay p) = Unit {0}
  Within assigns = Unit {0}
  Within unassigns = Unit {0}
  Within (opens_level b) = Unit {0}
  Within closes_level = Unit {0}
  Within next_argument = Unit {0}
  Within (astray i) = Unit {0}
  Within beyond = ⊥

  operand-within : (t : Token) → Within (operand_action t)
  unfolding operand_action
  operand-within t =
      cond_both Within (is "new" t) tt
      (cond_both Within (is_numeral t) tt
      (cond_both Within (is "true" t) tt
      (cond_both Within (is "false" t) tt
      (cond_both Within (is "(" t) tt
      (cond_both Within (is "recv" t) tt
      (cond_both Within (is "measure" t) tt (cond_both Within (is_name t) tt tt)))))))

  begins-within : Within (doing scopes text (begins from))
  unfolding action
  begins-within = operand-within (first ts)

  starts-empty : pass_from scopes text (begins from) ≡ pass scopes ts operand []
  unfolding opens assigned
  starts-empty = refl

  -- where the pass stands
  module _
      (at : ℕ)
      (phase : Phase)
      (room low depth : ℕ)
      (counts brackets : List ℕ)
      (s : Standing scopes text from at phase room low depth counts brackets)
    where
      abbrev pub here : State
      here = record { at = at; phase = phase_in text phase; count = s.count; levels = s.levels }

      comes : pass scopes ts operand [] ≡ pass_from scopes text here
      comes = sym starts-empty ∙ leads-pass scopes text s.leads

      moved : doing scopes text here ≡ beyond → (from < at) × (at ≤ length text)
      moved e =
          ⊎_elim
          (λ q. absurd (subst Within (ap (doing scopes text) q ∙ e) begins-within))
          (λ h. h) (leads-moved scopes text s.leads)

      -- the pass stops
      pub stop-says : (e : Effect) → stops_on e ≡ true → effect_in text e ≡ doing scopes text here
          → ExprSays (is_ok (answer_of at e)) (place_at (answer_of at e)) (expr_from scopes ts)
      unfolding stops_on effect_in answer_of
      stop-says (Stay p) h q = absurd (true≢false (sym h))
      stop-says Assigns h q = absurd (true≢false (sym h))
      stop-says Unassigns h q = absurd (true≢false (sym h))
      stop-says OpensBracket h q = absurd (true≢false (sym h))
      stop-says OpensCall h q = absurd (true≢false (sym h))
      stop-says Closes h q = absurd (true≢false (sym h))
      stop-says NextArgument h q = absurd (true≢false (sym h))
      stop-says (Astray i) h q = astray-says i (comes ∙ pass-astray scopes text here i (sym q))
      stop-says Beyond h q =
          let m = moved (sym q) in beyond-says at (comes ∙ pass-beyond scopes text here (sym q)) m.0 m.1

      -- the pass goes on
      module _
          (t : TokenAt)
          (n : NextToken text at t)
          (e : Effect)
          (q : effect_in text e ≡ doing scopes text here)
          (g : Continues (effect_in text e))
          (size : length text < 18446744073709551616)
          (p : Phase)
          (ph : phase_in text p ≡ phase_after (effect_in text e))
        where
          abbrev pub next : State
          next = record {
            at = t.end;
            phase = phase_in text p;
            count = count_after (effect_in text e) s.count s.levels;
            levels = levels_after (effect_in text e) s.count s.levels;
          }

          pub next-after : after scopes text here ≡ next
          next-after =
              ap
              (λ (x : Action). record {
                at = (next_at text at).end;
                phase = phase_after x;
                count = count_after x s.count s.levels;
                levels = levels_after x s.count s.levels;
              }) (sym q)
              ∙ ap
              (λ (u : TokenAt). record {
                at = u.end;
                phase = phase_after (effect_in text e);
                count = count_after (effect_in text e) s.count s.levels;
                levels = levels_after (effect_in text e) s.count s.levels;
              }) (sym n.same)
              ∙ ap
              (λ x. record {
                at = t.end;
                phase = x;
                count = count_after (effect_in text e) s.count s.levels;
                levels = levels_after (effect_in text e) s.count s.levels;
              }) (sym ph)

          pub next-leads : Leads scopes text (begins from) next
          next-leads =
              subst (Leads scopes text (begins from)) next-after (leads-on scopes text s.leads (subst Continues q g))

          pub next-window : Window room low (depth_after e depth) (counts_after low depth e counts)
              (brackets_after low depth e brackets)
              next.count next.levels
          next-window =
              let passes : Passed text at (after scopes text here).at = goes-passed scopes text here (subst Continues
              q g)
              in
              let begun : at < length text = passes.begun in
              let few : s.count ≤ at = few-open scopes text from here s.leads in
              let deep : depth ≡ length s.levels = s.window.deep in
              let shallow : length s.levels ≤ at = few-levels scopes text from here s.leads in
              window-after room low depth counts brackets s.count s.levels s.window (omega arith)
              (omega arith) text e g
              (λ c. closes-one scopes text from here s.leads (sym q ∙ c))

          abbrev pub stands_on : Standing scopes text from t.end p room low (depth_after e depth)
              (counts_after low depth e counts)
              (brackets_after low depth e brackets)
          stands_on = record { count = next.count; levels = next.levels; leads = next-leads; window = next-window }
