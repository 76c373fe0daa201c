-- Steps: from what is written, pushed and left to what a step ensures.
use Prim.Native.Nat.{ℕ, suc, ◌≤◌, ◌<◌}
use native.Mathlib.Omega.{arith}
use mathlib.Core.Path.{◌≡◌, refl, sym, ap, ◌∙◌, subst}
use mathlib.Core.Bool.{Bool, true, false, cond}
use mathlib.Core.List.{List, [], ◌∷◌}
use lib.Dec.{eqb}
use lib.ListN.{length}
use Rattle.text.specs.Translation.{Instruction, Scope}
use Rattle.text_parse.specs.Tokens.{Token}
use Rattle.text_parse.specs.Grammar.{read, Scopes}
use Rattle.text_tokens.specs.Places.{tokens_at}
use Rattle.text_slots.specs.Placing.{Placing}
use Rattle.text_numbering.specs.CodeBy.{number_fits}
use Rattle.text_emit_expr.specs.RestCode.{Frame, bracket, waiting, prefixed, ended_rest, whole_rest, operand_rest, rest_of}
use Rattle.text_emit_expr.specs.EndsCode.{frames_of, lowest, Leads, Standing, gave_up, opened, Emission, emitted, too_many, Push, pushed, too-deep, Steps}
use Rattle.text_emit_expr.specs.declared.state.StateAt.{StateAt}
use Rattle.text_emit_expr.proofs.StackLaws.{frames-bracket}
use Rattle.text_emit_expr.proofs.EndsLaws.{Refused}
use Rattle.text_emit_expr.proofs.StateLaws.{rest_from, gave-up-leads, same-leads, emit-leads, push-leads, gave-up-stands, emit-stands, push-stands}

pub lowest-least : (s : StateAt) → lowest s ≤ suc s.at
lowest-least s = by (eqb s.phase 0)
  where
    by : (b : Bool) → cond b (suc s.at) s.at ≤ suc s.at
    by true = omega arith
    by false = omega arith

pub lowest-most : (phase at : ℕ) → at ≤ cond (eqb phase 0) (suc at) at
lowest-most phase at = by (eqb phase 0)
  where
    by : (b : Bool) → at ≤ cond b (suc at) at
    by true = omega arith
    by false = omega arith

lowest-on : (s : StateAt) (phase at : ℕ) → s.at < at → lowest s ≤ cond (eqb phase 0) (suc at) at
lowest-on s phase at h =
    let a : lowest s ≤ suc s.at = lowest-least s in
    let b : at ≤ cond (eqb phase 0) (suc at) at = lowest-most phase at in
    omega arith

-- what is left in each phase
module _ (scopes : Scopes) (sc : Scope) (k : List Frame) (ts : List Token) (phase : ℕ) where
  pub phase-operand : phase ≡ 0 → rest_of scopes sc phase k ts ≡ operand_rest scopes sc k ts
  unfolding rest_of
  phase-operand e = rw e refl

  pub phase-whole : phase ≡ 1 → rest_of scopes sc phase k ts ≡ whole_rest scopes sc k ts
  unfolding rest_of
  phase-whole e = rw e refl

  pub phase-ended : phase ≡ 2 → rest_of scopes sc phase k ts ≡ ended_rest scopes sc k ts
  unfolding rest_of
  phase-ended e = rw e refl

  pub phase-done : phase ≡ 3 → rest_of scopes sc phase k ts ≡ read [] ts
  unfolding rest_of
  phase-done e = rw e refl

module _ (text scope : List ℕ) (n : ℕ) (p code : List ℕ) (s : StateAt) where
  -- what holds of what is left, in each scope, where it comes to something
  abbrev pub Whenever : (Scopes → Scope → Type 0) → Type 0
  Whenever P =
      (scopes : Scopes) (sc : Scope) → Placing text scope n sc → n ≤ 16 → (c : List Instruction) (us : List Token)
      → rest_from scopes sc text p s ≡ read c us → P scopes sc

  -- an answer is asked for only where what is left comes to something
  whenever-leads : (p' code' : List ℕ) (s' : StateAt)
      → Whenever (λ scopes sc. Leads scopes sc text p code s p' code' s')
      → n ≤ 16 → (scopes : Scopes) (sc : Scope) → Placing text scope n sc → Leads scopes sc text p code s p' code' s'
  whenever-leads p' code' s' f le scopes sc pl r h c us e = f scopes sc pl le c us e r h c us e

  pub emit-steps : (code' : List ℕ) (s' : StateAt) (i : Instruction) (phase at : ℕ)
      → Emission code s i phase at code' s'
      → s.at < at → at ≤ length text
      → Whenever (λ scopes sc. (number_fits i ≡ true)
      × (rest_from scopes sc text p s ≡ prefixed (i ∷ []) (rest_of scopes sc phase (frames_of p s) (tokens_at text at))))
      → Steps text scope n p code s p code' s'
  emit-steps code' s' i phase at m on w f = record {
    stands = λ st. emit-stands text p s st code code' s' i phase at m (omega arith) w;
    onward = further m;
    back = not_back m;
    leads = λ st. whenever-leads p code' s' (λ scopes sc pl le c us e.
        (let both = f scopes sc pl le c us e in
        emit-leads scopes sc text p code s code' s' i phase at m both.0 both.1 (lowest-on s phase at on)));
  }
    where
      further : Emission code s i phase at code' s' → s'.phase < 3 → s.at < s'.at
      further (emitted h e w) l = subst (λ (t : StateAt). s.at < t.at) (sym e) on
      further (too_many h e) l = absurd (let four : s'.phase ≡ 4 = ap (λ (t : StateAt). t.phase) e in omega arith)

      not_back : Emission code s i phase at code' s' → s.at ≤ s'.at
      not_back (emitted h e w) = let same : s'.at ≡ at = ap (λ (t : StateAt). t.at) e in omega arith
      not_back (too_many h e) = let same : s'.at ≡ s.at = ap (λ (t : StateAt). t.at) e in omega arith

  pub push-steps : (p' : List ℕ) (s' : StateAt) (o a at : ℕ) → Push p s o a at p' s' → s.at < at → at ≤ length text
      → Whenever (λ scopes sc.
      rest_from scopes sc text p s ≡ operand_rest scopes sc (waiting o a ∷ frames_of p s) (tokens_at text at))
      → Steps text scope n p code s p' code s'
  push-steps p' s' o a at m on w f = record {
    stands = λ st. push-stands text p s st p' s' o a at m on w;
    onward = further m;
    back = not_back m;
    leads = λ st. whenever-leads p' code s' (λ scopes sc pl le c us e.
        (let low : lowest s ≤ suc s.at = lowest-least s in
        push-leads scopes sc text p code s p' s' o a at m st (f scopes sc pl le c us e) (omega arith)));
  }
    where
      further : Push p s o a at p' s' → s'.phase < 3 → s.at < s'.at
      further (pushed h e w) l = subst (λ (t : StateAt). s.at < t.at) (sym e) on
      further (too-deep h w e) l = absurd (let four : s'.phase ≡ 4 = ap (λ (t : StateAt). t.phase) e in omega arith)

      not_back : Push p s o a at p' s' → s.at ≤ s'.at
      not_back (pushed h e w) = let same : s'.at ≡ at = ap (λ (t : StateAt). t.at) e in omega arith
      not_back (too-deep h w e) = let same : s'.at ≡ s.at = ap (λ (t : StateAt). t.at) e in omega arith

  -- the code gives up where what is left does not fit, or where the text is not in the grammar
  pub give-up-steps : (code' : List ℕ) (s' : StateAt) → s' ≡ gave_up s
      → Whenever (λ scopes sc. Refused s.count (rest_from scopes sc text p s))
      → Steps text scope n p code s p code' s'
  give-up-steps code' s' e f = record {
    stands = λ st. gave-up-stands text p s st p s' st.spacious e;
    onward = λ l. absurd (let four : s'.phase ≡ 4 = ap (λ (t : StateAt). t.phase) e in omega arith);
    back = (let same : s'.at ≡ s.at = ap (λ (t : StateAt). t.at) e in omega arith);
    leads = λ st. whenever-leads p code' s' (λ scopes sc pl le c us q.
        gave-up-leads scopes sc text p code p code' s s' e (f scopes sc pl le c us q));
  }

  pub stuck-steps : (code' : List ℕ) (s' : StateAt) → s' ≡ gave_up s → Whenever (λ scopes sc. ⊥)
      → Steps text scope n p code s p code' s'
  stuck-steps code' s' e f =
      give-up-steps code' s' e (λ scopes sc pl le c us q. absurd (f scopes sc pl le c us q))

  -- the phase and the place change, and what is left is the same
  pub same-steps : (s' : StateAt) → s'.count ≡ s.count → s.at < s'.at → (Standing text p s → Standing text p s')
      → Whenever (λ scopes sc. rest_from scopes sc text p s ≡ rest_from scopes sc text p s')
      → Steps text scope n p code s p code s'
  same-steps s' q on st f = record {
    stands = st;
    onward = λ l. on;
    back = omega arith;
    leads = λ h. whenever-leads p code s' (λ scopes sc pl le c us e.
        same-leads scopes sc text p p code s s' (f scopes sc pl le c us e) (sym q)
        (lowest-on s s'.phase s'.at on));
  }

  -- a bracket more is open
  pub bracket-stands : (at : ℕ) → s.at < at → at ≤ length text → Standing text p s
      → Standing text p
      (opened s at)
  bracket-stands at on w st =
      let deep : length (frames_of p s) ≤ s.at = st.shallow in record {
        inside = w;
        shallow = rw (frames-bracket p s.entries s.unclosed) (omega arith);
        room = st.room;
        few = st.few;
        spacious = st.spacious;
      }

  pub bracket-steps : (at : ℕ) → s.at < at → at ≤ length text
      → Whenever (λ scopes sc.
      rest_from scopes sc text p s ≡ operand_rest scopes sc (bracket ∷ frames_of p s) (tokens_at text at))
      → Steps text scope n p code s p code
      (opened s at)
  unfolding rest_of
  bracket-steps at on w f =
      same-steps
      (opened s at)
      refl on (bracket-stands at on w)
      (λ scopes sc pl le c us e. f scopes sc pl le c us e
      ∙ ap (λ k. operand_rest scopes sc k (tokens_at text at)) (sym (frames-bracket p s.entries s.unclosed)))
