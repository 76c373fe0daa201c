-- The steps at the tokens that begin an operand.
use Prim.Native.Nat.{ℕ, ◌≤◌, ◌<◌}
use native.Mathlib.Omega.{arith}
use mathlib.Core.Path.{◌≡◌, refl, sym, ap, ◌∙◌, subst}
use mathlib.Core.Bool.{Bool, true, false, cond}
use mathlib.Core.List.{List, [], ◌∷◌}
use borrow.Author.Tests.{ltb-false, le-leb, lt-leb, ne_eqb}
use lib.Dec.{eqb, ltb}
use lib.Seq.{slice}
use Rattle.text.specs.Tree.{Name}
use Rattle.text.specs.Translation.{Instruction, instruction, INT, Scope}
use Rattle.text_parse.specs.Tokens.{Token, name_of, numeral_of}
use Rattle.text_parse.specs.Grammar.{and_then, first, rest, leaves_at, expect_name, Scopes, allocation}
use Rattle.text_tokens.specs.Places.{tokens_at, token_of}
use Rattle.text_tokens.specs.KindsCode.{kind_of}
use Rattle.text_tokens.specs.NextCode.{NextToken}
use Rattle.text_tokens.specs.Numbers.{capped}
use Rattle.text_tokens.specs.declared.next.TokenAt.{TokenAt}
use Rattle.text_tokens.proofs.KindTests.{is-new, is-name}
use Rattle.text_types.specs.SaysCode.{Passed}
use Rattle.text_types.proofs.Answers.{kind-next, passed-next}
use Rattle.text_numbering.specs.CodeBy.{number_fits}
use Rattle.text_emit_expr.specs.RestCode.{Frame, bracket, prefixed, ended_rest, whole_rest, operand_rest, rest_of}
use Rattle.text_emit_expr.specs.EndsCode.{frames_of, gave_up, opened, Emission, Steps}
use Rattle.text_emit_expr.specs.PartsCode.{Reach, AllocatedUpTo}
use Rattle.text_emit_expr.specs.declared.state.StateAt.{StateAt}
use Rattle.text_emit_expr.proofs.RestLaws.{code_of, operand-kind, number-rest, true-rest, false-rest, bracket-rest, new-rest}
use Rattle.text_emit_expr.proofs.EndedRest.{not_left}
use Rattle.text_emit_expr.proofs.EndsLaws.{Refused, large-refused}
use Rattle.text_emit_expr.proofs.StateLaws.{rest_from}
use Rattle.text_emit_expr.proofs.FlushLaws.{fits-other}
use Rattle.text_emit_expr.proofs.PartLaws.{token-is, ReadsBoth, both_read, then-both}
use Rattle.text_emit_expr.proofs.StepLaws.{phase-operand, emit-steps, give-up-steps, stuck-steps, bracket-steps}

-- numbers up to 32767 are kept apart
capped_small : (m v : ℕ) → v ≡ capped m → v < 32768 → v ≡ m
unfolding capped
capped_small m v e h = by (ltb m 32768) refl e
  where
    by : (b : Bool) → ltb m 32768 ≡ b → v ≡ cond b m 32768 → v ≡ m
    by true b q = q
    by false b q = absurd (omega arith)

capped-large : (m v : ℕ) → v ≡ capped m → 32768 ≤ v → 32768 ≤ m
unfolding capped
capped-large m v e h = by (ltb m 32768) refl e
  where
    by : (b : Bool) → ltb m 32768 ≡ b → v ≡ cond b m 32768 → 32768 ≤ m
    by true b q = omega arith
    by false b q = ltb-false m 32768 b

number-fits : (v : ℕ) → v < 32768 → number_fits (instruction 1 v) ≡ true
unfolding number_fits
number-fits v h = le-leb v 32767 (omega arith)

number-too-large : (v : ℕ) → 32768 ≤ v → number_fits (INT v) ≡ false
unfolding number_fits
number-too-large v h = lt-leb v 32767 (omega arith)

module _ (text scope : List ℕ) (n : ℕ) (p code : List ℕ) (s : StateAt) (t : TokenAt) (operand-phase : s.phase ≡ 0)
    (next : NextToken text s.at t) where
  abbrev pub ts : List Token
  ts = tokens_at text s.at

  abbrev pub k : List Frame
  k = frames_of p s

  pub kind-of : (i : ℕ) → t.kind ≡ i → kind_of (first ts).bytes ≡ i
  kind-of i e = kind-next text s.at t next ∙ e

  pub pass_of : (i : ℕ) → t.kind ≡ i → (i ≡ 32 → ⊥) → Passed text s.at t.end
  pass_of i e f = passed-next text s.at t next (λ g. f (sym e ∙ g))

  pub here : (scopes : Scopes) (sc : Scope) → rest_from scopes sc text p s ≡ operand_rest scopes sc k ts
  here scopes sc = phase-operand scopes sc k ts s.phase operand-phase

  -- an instruction and then an operand has ended, before the token at this place
  pub whole-at : (scopes : Scopes) (sc : Scope) (i : Instruction) (us : List Token) (at : ℕ) → us ≡ tokens_at text at
      → prefixed (i ∷ []) (whole_rest scopes sc k us) ≡ prefixed (i ∷ []) (rest_of scopes sc 1 k (tokens_at text at))
  unfolding rest_of
  whole-at scopes sc i us at e = ap (λ vs. prefixed (i ∷ []) (whole_rest scopes sc k vs)) e

  abbrev pub x : Name
  x = name_of (first ts)

  pub name-spelt : x.spelling ≡ slice t.start t.end text
  name-spelt = ap (λ (u : Token). u.bytes) (token-is text s.at t next)

  pub name-place : x.at ≡ t.start
  name-place = ap (λ (u : Token). u.at) (token-is text s.at t next)

  -- Values

  module _ (code' : List ℕ) (s' : StateAt) where
    pub number-steps : (v : ℕ) → t.kind ≡ 34 → v ≡ capped (numeral_of (token_of text t.start t.end)) → v < 32768
        → Emission code s (instruction 1 v) 1 t.end code' s' → Steps text scope n p code s p code' s'
    number-steps v e c h m =
        let pass = pass_of 34 e (λ g. omega arith) in
        let same : v ≡ numeral_of (first ts) =
        capped_small (numeral_of (token_of text t.start t.end)) v c h
        ∙ ap numeral_of (sym (token-is text s.at t next)) in
        emit-steps text scope n p code s code' s' (instruction 1 v) 1 t.end m pass.onward pass.within
        (λ scopes sc pl le d us q. (
          number-fits v h,
          here scopes sc ∙ number-rest scopes sc k ts (kind-of 34 e)
              ∙ ap (λ (j : ℕ). prefixed (INT j ∷ []) (whole_rest scopes sc k (rest ts))) (sym same)
              ∙ whole-at scopes sc (INT v) (rest ts) t.end pass.after,
        ))

    pub large-steps : (v : ℕ) → t.kind ≡ 34 → v ≡ capped (numeral_of (token_of text t.start t.end)) → 32768 ≤ v
        → s' ≡ gave_up s → Steps text scope n p code s p code' s'
    large-steps v e c h g =
        let m : ℕ = numeral_of (first ts) in
        let large : 32768 ≤ m =
        subst (λ (j : ℕ). 32768 ≤ j) (ap numeral_of (sym (token-is text s.at t next)))
        (capped-large (numeral_of (token_of text t.start t.end)) v c h) in
        give-up-steps text scope n p code s code' s' g
        (λ scopes sc pl le d us q. subst (Refused s.count)
        (sym (here scopes sc ∙ number-rest scopes sc k ts (kind-of 34 e)))
        (large-refused s.count (INT m) (whole_rest scopes sc k (rest ts)) (number-too-large m large)))

    pub true-steps : t.kind ≡ 17 → Emission code s (instruction 2 1) 1 t.end code' s'
        → Steps text scope n p code s p code' s'
    true-steps e m =
        let pass = pass_of 17 e (λ g. omega arith) in
        emit-steps text scope n p code s code' s' (instruction 2 1) 1 t.end m pass.onward pass.within
        (λ scopes sc pl le d us q. (
          fits-other 2 1 (λ g. omega arith),
          here scopes sc ∙ true-rest scopes sc k ts (kind-of 17 e)
              ∙ whole-at scopes sc (instruction 2 1) (rest ts) t.end pass.after,
        ))

    pub false-steps : t.kind ≡ 18 → Emission code s (instruction 2 0) 1 t.end code' s'
        → Steps text scope n p code s p code' s'
    false-steps e m =
        let pass = pass_of 18 e (λ g. omega arith) in
        emit-steps text scope n p code s code' s' (instruction 2 0) 1 t.end m pass.onward pass.within
        (λ scopes sc pl le d us q. (
          fits-other 2 0 (λ g. omega arith),
          here scopes sc ∙ false-rest scopes sc k ts (kind-of 18 e)
              ∙ whole-at scopes sc (instruction 2 0) (rest ts) t.end pass.after,
        ))

    -- new T ( )
    pub new-steps : (op argument at : ℕ) → t.kind ≡ 8 → AllocatedUpTo text t.end op argument at
        → Reach text t.end at → (op ≡ 1 → ⊥) → Emission code s (instruction op argument) 2 at code' s'
        → Steps text scope n p code s p code' s'
    unfolding and_then rest_of
    new-steps op argument at e up reach f m =
        let pass = pass_of 8 e (λ g. omega arith) in
        let further = reach pass.within in
        let on : s.at < t.end = pass.onward in
        let far : t.end ≤ at = further.0 in
        emit-steps text scope n p code s code' s' (instruction op argument) 2 at m (omega arith) further.1
        (λ scopes sc pl le d us q. (
          fits-other op argument f,
          (let left = here scopes sc
              ∙ new-rest scopes sc k ts (is-new (first ts) ∙ ap (λ (j : ℕ). eqb j 8) (kind-of 8 e)) in
              left ∙ of scopes sc pass
              (then-both (allocation (rest ts)) (λ e us. prefixed (code_of scopes sc e) (ended_rest scopes sc k us)) d us
              (sym left ∙ q))),
        ))
      where
        of : {d : List Instruction} {us : List Token} (scopes : Scopes) (sc : Scope) → Passed text s.at t.end
            → ReadsBoth (allocation (rest ts)) (λ e us. prefixed (code_of scopes sc e) (ended_rest scopes sc k us)) d us
            → and_then (allocation (rest ts)) (λ e us. prefixed (code_of scopes sc e) (ended_rest scopes sc k us))
            ≡ prefixed (instruction op argument ∷ []) (rest_of scopes sc 2 k (tokens_at text at))
        of scopes sc pass (both_read y vs a b) =
            let r = up y vs (ap allocation (sym pass.after) ∙ a) in
            ap (λ m. and_then m (λ e us. prefixed (code_of scopes sc e) (ended_rest scopes sc k us))) a
            ∙ ap (λ c. prefixed c (ended_rest scopes sc k vs)) (r.1 sc)
            ∙ ap (λ us. prefixed (instruction op argument ∷ []) (ended_rest scopes sc k us)) r.0.left

    -- tokens that begin no operand
    pub other-steps : (t.kind ≡ 34 → ⊥) → (t.kind ≡ 17 → ⊥) → (t.kind ≡ 18 → ⊥) → (t.kind ≡ 9 → ⊥)
        → (t.kind ≡ 8 → ⊥) → (t.kind ≡ 19 → ⊥) → (t.kind ≡ 15 → ⊥) → (t.kind ≡ 33 → ⊥) → s' ≡ gave_up s
        → Steps text scope n p code s p code' s'
    unfolding expect_name leaves_at and_then
    other-steps a b c d e f g h q =
        stuck-steps text scope n p code s code' s' q
        (λ scopes sc pl le cs us r.
        not_left {i = (first ts).at}
        (here scopes sc ∙ operand-kind scopes sc k ts t.kind (kind-of t.kind refl) (ne_eqb t.kind 8 e)
        ∙ rw (
          ne_eqb t.kind 34 a,
          ne_eqb t.kind 17 b,
          ne_eqb t.kind 18 c,
          ne_eqb t.kind 19 f,
          ne_eqb t.kind 15 g,
          ne_eqb t.kind 9 d,
          is-name (first ts) ∙ ap (λ (j : ℕ). eqb j 33) (kind-of t.kind refl) ∙ ne_eqb t.kind 33 h,
        ) refl) r)

  -- ( E
  pub open-steps : t.kind ≡ 19 → Steps text scope n p code s p code (opened s t.end)
  open-steps e =
      let pass = pass_of 19 e (λ g. omega arith) in
      bracket-steps text scope n p code s t.end pass.onward pass.within
      (λ scopes sc pl le c us q. here scopes sc ∙ bracket-rest scopes sc k ts (kind-of 19 e)
      ∙ ap (operand_rest scopes sc (bracket ∷ k)) pass.after)
