-- The steps at a name, at recv and at measure.
use Prim.Native.Nat.{ℕ, suc, ◌+◌, ◌*◌, ◌≤◌, ◌<◌}
use native.Mathlib.Omega.{arith}
use mathlib.Core.Path.{◌≡◌, refl, sym, ap, ◌∙◌, subst}
use mathlib.Core.Bool.{Bool, true, false, cond}
use mathlib.Core.List.{List, [], ◌∷◌}
use borrow.Author.Tests.{eqb-true}
use Rattle.lists.specs.Lists.{put_from}
use Rattle.text.specs.Tree.{Name}
use Rattle.text.specs.Translation.{Instruction, instruction, GET, MEAS, Scope, slot_of}
use Rattle.text_parse.specs.Tokens.{Token}
use Rattle.text_parse.specs.Grammar.{Reading, read, leaves, and_then, first, rest, Scopes, is_withends, measured_name}
use Rattle.text_tokens.specs.Places.{tokens_at}
use Rattle.text_tokens.specs.KindsCode.{kind_of}
use Rattle.text_tokens.specs.NextCode.{NextToken}
use Rattle.text_tokens.specs.declared.next.TokenAt.{TokenAt}
use Rattle.text_tokens.proofs.KindTests.{is_open}
use Rattle.text_types.specs.SaysCode.{Passed}
use Rattle.text_types.proofs.Answers.{kind-next, passed-next}
use Rattle.text_slots.specs.Placing.{Placing, SlotAnswer}
use Rattle.text_emit_expr.specs.RestCode.{Frame, waiting, prefixed, whole_rest, operand_rest, rest_of}
use Rattle.text_emit_expr.specs.EndsCode.{frames_of, lowest, Ends, EndsFrom, Leads, gave_up, Emission, emitted, too_many, Push, Steps}
use Rattle.text_emit_expr.specs.PartsCode.{Reach, MeasuredUpTo}
use Rattle.text_emit_expr.specs.declared.state.StateAt.{StateAt}
use Rattle.text_emit_expr.proofs.RestLaws.{prefixed-twice, recv-rest, measure-rest}
use Rattle.text_emit_expr.proofs.NameRest.{assign-rest, call-empty, call-begun, variable-rest}
use Rattle.text_emit_expr.proofs.EndedRest.{not_left, expect-read}
use Rattle.text_emit_expr.proofs.EndsLaws.{Refused, refused-ends, full-refused, ends-lower, ends-put}
use Rattle.text_emit_expr.proofs.StateLaws.{gave-up-no, emit-stands}
use Rattle.text_emit_expr.proofs.FlushLaws.{fits-other}
use Rattle.text_emit_expr.proofs.PartLaws.{ReadsBoth, both_read, then-both}
use Rattle.text_emit_expr.proofs.StepLaws.{lowest-least, emit-steps, push-steps, give-up-steps, stuck-steps}
use Rattle.text_emit_expr.proofs.OperandLaws.{x, kind-of, pass_of, here, whole-at, name-spelt, name-place}

module _ (text scope : List ℕ) (n : ℕ) (p code : List ℕ) (s : StateAt) (t : TokenAt) (operand-phase : s.phase ≡ 0)
    (next : NextToken text s.at t) where
  abbrev us : List Token
  us = tokens_at text s.at

  abbrev j : List Frame
  j = frames_of p s

  abbrev y : Name
  y = x text scope n p code s t operand-phase next

  at_here : (scopes : Scopes) (sc : Scope) → rest_of scopes sc s.phase j us ≡ operand_rest scopes sc j us
  at_here = here text scope n p code s t operand-phase next

  name-kind : (i : ℕ) → t.kind ≡ i → kind_of (first us).bytes ≡ i
  name-kind = kind-of text scope n p code s t operand-phase next

  passed : (i : ℕ) → t.kind ≡ i → (i ≡ 32 → ⊥) → Passed text s.at t.end
  passed = pass_of text scope n p code s t operand-phase next

  slot_same : (slot : ℕ) (ends : Bool) → SlotAnswer text scope n t.start t.end slot ends → (sc : Scope)
      → Placing text scope n sc → n ≤ 16 → slot ≡ slot_of sc y
  slot_same slot ends a sc pl le =
      (a sc y pl le (name-spelt text scope n p code s t operand-phase next)).0

  -- The token after it
  module _ (u : TokenAt) (after : NextToken text t.end u) where
    second-kind : Passed text s.at t.end → (i : ℕ) → u.kind ≡ i → kind_of (first (rest us)).bytes ≡ i
    second-kind pass i e =
        ap (λ vs. kind_of (first vs).bytes) pass.after ∙ kind-next text t.end u after ∙ e

    second-not : Passed text s.at t.end → (i : ℕ) → (u.kind ≡ i → ⊥) → kind_of (first (rest us)).bytes ≡ i → ⊥
    second-not pass i f e =
        f (sym (kind-next text t.end u after) ∙ sym (ap (λ vs. kind_of (first vs).bytes) pass.after) ∙ e)

    second-passed : (i : ℕ) → u.kind ≡ i → (i ≡ 32 → ⊥) → Passed text t.end u.end
    second-passed i e f = passed-next text t.end u after (λ g. f (sym e ∙ g))

    second-rest : Passed text s.at t.end → Passed text t.end u.end → rest (rest us) ≡ tokens_at text u.end
    second-rest a b = ap rest a.after ∙ b.after

    -- recv ( E
    pub recv-steps : (p' : List ℕ) (s' : StateAt) → t.kind ≡ 15 → u.kind ≡ 19 → Push p s 16 0 u.end p' s'
        → Steps text scope n p code s p' code s'
    recv-steps p' s' e f m =
        let a = passed 15 e (λ g. omega arith) in
        let b = second-passed 19 f (λ g. omega arith) in
        let l : s.at < t.end = a.onward in
        let r : t.end < u.end = b.onward in
        push-steps text scope n p code s p' s' 16 0 u.end m (omega arith) b.within
        (λ scopes sc pl le c vs q.
        (let f : List Token → Reading (List Instruction) = λ us. operand_rest scopes sc (waiting 16 0 ∷ j) us in
        let left = at_here scopes sc ∙ recv-rest scopes sc j us (name-kind 15 e) in
        q ∙ sym (expect-read "(" (rest us) f c vs (sym left ∙ q)).1 ∙ ap f (second-rest a b)))

    pub recv-stuck : (code' : List ℕ) (s' : StateAt) → t.kind ≡ 15 → (u.kind ≡ 19 → ⊥) → s' ≡ gave_up s
        → Steps text scope n p code s p code' s'
    recv-stuck code' s' e f g =
        let a = passed 15 e (λ g. omega arith) in
        stuck-steps text scope n p code s code' s' g
        (λ scopes sc pl le c vs q.
        (let left = at_here scopes sc ∙ recv-rest scopes sc j us (name-kind 15 e) in
        let found = (expect-read "(" (rest us) (λ us. operand_rest scopes sc (waiting 16 0 ∷ j) us) c vs
        (sym left ∙ q)).0 in
        second-not a 19 f
        (eqb-true (kind_of (first (rest us)).bytes) 19 (sym (is_open (first (rest us))) ∙ found))))

    -- x = E
    pub assign-steps : (p' : List ℕ) (s' : StateAt) (slot : ℕ) (ends : Bool) → t.kind ≡ 33 → u.kind ≡ 29
        → SlotAnswer text scope n t.start t.end slot ends → Push p s 4 slot u.end p' s'
        → Steps text scope n p code s p' code s'
    assign-steps p' s' slot ends e f answer m =
        let a = passed 33 e (λ g. omega arith) in
        let b = second-passed 29 f (λ g. omega arith) in
        let l : s.at < t.end = a.onward in
        let r : t.end < u.end = b.onward in
        push-steps text scope n p code s p' s' 4 slot u.end m (omega arith) b.within
        (λ scopes sc pl le c vs q.
        (let left = at_here scopes sc ∙ assign-rest scopes sc j us (name-kind 33 e) (second-kind a 29 f) in
        left
        ∙ cond-read (is_withends scopes y) y.at (operand_rest scopes sc (waiting 4 (slot_of sc y) ∷ j) (rest (rest us)))
        (sym left ∙ q)
        ∙ ap (λ (i : ℕ). operand_rest scopes sc (waiting 4 i ∷ j) (rest (rest us)))
        (sym (slot_same slot ends answer sc pl le))
        ∙ ap (operand_rest scopes sc (waiting 4 slot ∷ j)) (second-rest a b)))
      where
        cond-read : (b : Bool) (i : ℕ) (m : Reading (List Instruction)) {c : List Instruction} {vs : List Token}
            → cond b (leaves i) m ≡ read c vs → cond b (leaves i) m ≡ m
        cond-read true i m h = absurd (not_left refl h)
        cond-read false i m h = refl

    -- the variable
    pub variable-steps : (code' : List ℕ) (s' : StateAt) (slot : ℕ) (ends : Bool) → t.kind ≡ 33 → (u.kind ≡ 29 → ⊥)
        → (u.kind ≡ 19 → ⊥) → SlotAnswer text scope n t.start t.end slot ends
        → Emission code s (instruction 3 slot) 1 t.end code' s' → Steps text scope n p code s p code' s'
    variable-steps code' s' slot ends e f g answer m =
        let a = passed 33 e (λ g. omega arith) in
        emit-steps text scope n p code s code' s' (instruction 3 slot) 1 t.end m a.onward a.within
        (λ scopes sc pl le c vs q. (
          fits-other 3 slot (λ g. omega arith),
          at_here scopes sc
              ∙ variable-rest scopes sc j us (name-kind 33 e) (second-not a 29 f) (second-not a 19 g)
              ∙ ap (λ (i : ℕ). prefixed (GET i ∷ []) (whole_rest scopes sc j (rest us)))
              (sym (slot_same slot ends answer sc pl le))
              ∙ whole-at text scope n p code s t operand-phase next scopes sc (GET slot) (rest us) t.end a.after,
        ))

    -- f ( .., and the token after the bracket
    module _ (v : TokenAt) (third : NextToken text u.end v) (e : t.kind ≡ 33) (f : u.kind ≡ 19) where
      abbrev first-passed : Passed text s.at t.end
      first-passed = passed 33 e (λ g. omega arith)

      abbrev bracket-passed : Passed text t.end u.end
      bracket-passed = second-passed 19 f (λ g. omega arith)

      third-kind : kind_of (first (rest (rest us))).bytes ≡ v.kind
      third-kind =
          ap (λ vs. kind_of (first vs).bytes) (second-rest first-passed bracket-passed)
          ∙ kind-next text u.end v third

      pub call-empty-steps : (code' : List ℕ) (s' : StateAt) → v.kind ≡ 20
          → Emission code s (instruction 12 t.start) 1 v.end code' s' → Steps text scope n p code s p code' s'
      call-empty-steps code' s' g m =
          let b = passed-next text u.end v third (λ h. omega (arith, g, h)) in
          let l : s.at < t.end = first-passed.onward in
          let r : t.end < u.end = bracket-passed.onward in
          let h : u.end < v.end = b.onward in
          emit-steps text scope n p code s code' s' (instruction 12 t.start) 1 v.end m (omega arith) b.within
          (λ scopes sc pl le c vs q. (
            fits-other 12 t.start (λ g. omega arith),
            at_here scopes sc
                ∙ call-empty scopes sc j us (name-kind 33 e) (second-kind first-passed 19 f) (third-kind ∙ g)
                ∙ ap (λ (i : ℕ). prefixed (instruction 12 i ∷ []) (whole_rest scopes sc j (rest (rest (rest us)))))
                (name-place text scope n p code s t operand-phase next)
                ∙ whole-at text scope n p code s t operand-phase next scopes sc (instruction 12 t.start)
                (rest (rest (rest us))) v.end
                (ap rest (second-rest first-passed bracket-passed) ∙ b.after),
          ))

      pub call-begun-steps : (p' : List ℕ) (s' : StateAt) → (v.kind ≡ 20 → ⊥)
          → Push p s 12 t.start u.end p' s' → Steps text scope n p code s p' code s'
      call-begun-steps p' s' g m =
          let l : s.at < t.end = first-passed.onward in
          let r : t.end < u.end = bracket-passed.onward in
          push-steps text scope n p code s p' s' 12 t.start u.end m (omega arith) bracket-passed.within
          (λ scopes sc pl le c vs q.
          at_here scopes sc
          ∙ call-begun scopes sc j us (name-kind 33 e) (second-kind first-passed 19 f) (λ h. g (sym third-kind ∙ h))
          ∙ ap (λ (i : ℕ). operand_rest scopes sc (waiting 12 i ∷ j) (rest (rest us)))
          (name-place text scope n p code s t operand-phase next)
          ∙ ap (operand_rest scopes sc (waiting 12 t.start ∷ j)) (second-rest first-passed bracket-passed))

  -- measure ( StdBasis , q )
  module _ (start end at slot : ℕ) (ends : Bool) (e : t.kind ≡ 9) (up : MeasuredUpTo text t.end start end at)
      (reach : Reach text t.end at) (answer : SlotAnswer text scope n start end slot ends) where
    abbrev both : List Instruction
    both = GET slot ∷ MEAS ∷ []

    measured-left : (scopes : Scopes) (sc : Scope) → Placing text scope n sc → n ≤ 16 → (c : List Instruction)
        (vs : List Token) → rest_of scopes sc s.phase j us ≡ read c vs
        → rest_of scopes sc s.phase j us ≡ prefixed both (rest_of scopes sc 1 j (tokens_at text at))
    unfolding and_then rest_of
    measured-left scopes sc pl le c vs q =
        let left = at_here scopes sc ∙ measure-rest scopes sc j us (name-kind 9 e) in
        left ∙ of (passed 9 e (λ g. omega arith))
        (then-both (measured_name (rest us))
        (λ q us. prefixed (GET (slot_of sc q) ∷ MEAS ∷ []) (whole_rest scopes sc j us)) c vs (sym left ∙ q))
      where
        of : Passed text s.at t.end
            → ReadsBoth (measured_name (rest us))
            (λ q us. prefixed (GET (slot_of sc q) ∷ MEAS ∷ []) (whole_rest scopes sc j us)) c vs
            → and_then (measured_name (rest us))
            (λ q us. prefixed (GET (slot_of sc q) ∷ MEAS ∷ []) (whole_rest scopes sc j us))
            ≡ prefixed both (whole_rest scopes sc j (tokens_at text at))
        of pass (both_read q ws a b) =
            let r = up q ws (ap measured_name (sym pass.after) ∙ a) in
            ap (λ m. and_then m (λ q us. prefixed (GET (slot_of sc q) ∷ MEAS ∷ []) (whole_rest scopes sc j us))) a
            ∙ ap (λ (i : ℕ). prefixed (GET i ∷ MEAS ∷ []) (whole_rest scopes sc j ws))
            (sym (answer sc q pl le r.1).0)
            ∙ ap (λ us. prefixed both (whole_rest scopes sc j us)) r.0.left

    apart : (scopes : Scopes) (sc : Scope)
        → prefixed both (rest_of scopes sc 1 j (tokens_at text at))
        ≡ prefixed (GET slot ∷ []) (prefixed (MEAS ∷ []) (rest_of scopes sc 1 j (tokens_at text at)))
    apart scopes sc = sym (prefixed-twice (GET slot ∷ []) (MEAS ∷ []) (rest_of scopes sc 1 j (tokens_at text at)))

    -- no place is left for the first instruction
    pub measure-full : (code' : List ℕ) (s' : StateAt) → Emission code s (GET slot) 1 at code' s' → s'.phase ≡ 4
        → Steps text scope n p code s p code' s'
    measure-full code' s' (emitted h q w) f =
        absurd (let one : s'.phase ≡ 1 = ap (λ (z : StateAt). z.phase) q in omega arith)
    measure-full code' s' (too_many h q) f =
        give-up-steps text scope n p code s code' s' q
        (λ scopes sc pl le c vs r. subst (Refused s.count)
        (sym (measured-left scopes sc pl le c vs r ∙ apart scopes sc))
        (full-refused s.count (GET slot) (prefixed (MEAS ∷ []) (rest_of scopes sc 1 j (tokens_at text at))) h))

    -- the first is written, and the second is or has no place
    second-leads : (code₁ code₂ : List ℕ) (s₁ s₂ : StateAt) (scopes : Scopes) (sc : Scope)
        → s₁ ≡ record { phase = 1; at = at; unclosed = s.unclosed; entries = s.entries; count = s.count + 1 }
        → code₁ ≡ put_from code (2 * s.count) (3 ∷ slot ∷ []) → Emission code₁ s₁ MEAS 1 at code₂ s₂
        → rest_of scopes sc s.phase j us ≡ prefixed both (rest_of scopes sc 1 j (tokens_at text at))
        → s.at < at
        → Leads scopes sc text p code s p code₂ s₂
    second-leads code₁ code₂ s₁ s₂ scopes sc q w m left on r ends =
        let s'' : StateAt = record {
          phase = 1;
          at = at;
          unclosed = s.unclosed;
          entries = s.entries;
          count = s.count + 1;
        } in
        let m' : Reading (List Instruction) = rest_of scopes sc 1 j (tokens_at text at) in
        let one : Emission code₁ s'' MEAS 1 at code₂ s₂ =
        subst (λ (z : StateAt). Emission code₁ z MEAS 1 at code₂ s₂) q m in
        let low : lowest s ≤ suc s.at = lowest-least s in
        subst (λ z. Ends text (lowest s) s.count code z r) (sym (left ∙ apart scopes sc))
        (ends-put text (lowest s) s.count code (GET slot) (prefixed (MEAS ∷ []) m') r
        (fits-other 3 slot (λ g. omega arith))
        (subst (λ (z : List ℕ). Ends text (lowest s) (s.count + 1) z (prefixed (MEAS ∷ []) m') r) w
        (ends-lower text (lowest s) at (s.count + 1) code₁ (prefixed (MEAS ∷ []) m') r (omega arith)
        (meas one))))
      where
        meas : Emission code₁ (record {
          phase = 1;
          at = at;
          unclosed = s.unclosed;
          entries = s.entries;
          count = s.count + 1;
        }) MEAS 1 at code₂ s₂
            → Ends text at (s.count + 1) code₁ (prefixed (MEAS ∷ []) (rest_of scopes sc 1 j (tokens_at text at))) r
        meas (emitted h e₂ w₂) =
            ends-put text at (s.count + 1) code₁ MEAS (rest_of scopes sc 1 j (tokens_at text at)) r
            (fits-other 11 0 (λ g. omega arith))
            (subst (λ (z : List ℕ). Ends text at (s.count + 1 + 1) z (rest_of scopes sc 1 j (tokens_at text at)) r) w₂
            (subst (λ (z : StateAt). EndsFrom scopes sc text p code₂ z r) e₂ ends))
        meas (too_many h e₂) =
            refused-ends text at (s.count + 1) code₁
            (prefixed (MEAS ∷ []) (rest_of scopes sc 1 j (tokens_at text at))) r
            (gave-up-no scopes sc text p code₂
            (record { phase = 1; at = at; unclosed = s.unclosed; entries = s.entries; count = s.count + 1 }) r
            (subst (λ (z : StateAt). EndsFrom scopes sc text p code₂ z r) e₂ ends))
            (full-refused (s.count + 1) MEAS (rest_of scopes sc 1 j (tokens_at text at)) h)

    pub measure-steps : (code₁ code₂ : List ℕ) (s₁ s₂ : StateAt) → Emission code s (GET slot) 1 at code₁ s₁
        → (s₁.phase ≡ 4 → ⊥) → Emission code₁ s₁ MEAS 1 at code₂ s₂ → Steps text scope n p code s p code₂ s₂
    measure-steps code₁ code₂ s₁ s₂ (too_many h q) f m = absurd (f (ap (λ (z : StateAt). z.phase) q))
    measure-steps code₁ code₂ s₁ s₂ (emitted h q w) f m =
        let pass = passed 9 e (λ g. omega arith) in
        let further = reach pass.within in
        let on : s.at < t.end = pass.onward in
        let far : t.end ≤ at = further.0 in
        let here₁ : s₁.at ≡ at = ap (λ (z : StateAt). z.at) q in
        record {
          stands = λ st.
              (let st₁ = emit-stands text p s st code code₁ s₁ (GET slot) 1 at (emitted h q w) (omega arith)
              further.1 in
              emit-stands text p s₁ st₁ code₁ code₂ s₂ MEAS 1 at m (omega arith) further.1);
          onward = λ l. subst (λ (i : ℕ). s.at < i) (sym (place m l)) (omega arith);
          back = (let r : s₁.at ≤ s₂.at = not_back m in omega arith);
          leads = λ st le scopes sc pl r ends c vs z.
              second-leads code₁ code₂ s₁ s₂ scopes sc q w m (measured-left scopes sc pl le c vs z) (omega arith) r ends
              c vs z;
        }
      where
        not_back : Emission code₁ s₁ MEAS 1 at code₂ s₂ → s₁.at ≤ s₂.at
        not_back (emitted h e₂ w₂) =
            let a : s₂.at ≡ at = ap (λ (z : StateAt). z.at) e₂ in
            let b : s₁.at ≡ at = ap (λ (z : StateAt). z.at) q in omega arith
        not_back (too_many h e₂) = let a : s₂.at ≡ s₁.at = ap (λ (z : StateAt). z.at) e₂ in omega arith

        place : Emission code₁ s₁ MEAS 1 at code₂ s₂ → s₂.phase < 3 → s₂.at ≡ at
        place (emitted h e₂ w₂) l = ap (λ (z : StateAt). z.at) e₂
        place (too_many h e₂) l =
            absurd (let four : s₂.phase ≡ 4 = ap (λ (z : StateAt). z.phase) e₂ in omega arith)
