-- The steps where an operand or an expression has ended.
use Prim.Native.Nat.{ℕ, zero, suc, ◌+◌, ◌*◌, ◌-◌, ◌≤◌, ◌<◌}
use native.Mathlib.Omega.{arith}
use mathlib.Core.Path.{◌≡◌, refl, sym, ap, ◌∙◌, subst}
use mathlib.Core.Logic.{◌⊎◌, inl, inr, ⊎_elim}
use mathlib.Core.Bool.{Bool, true, false, cond, ◌&&◌, ◌||◌}
use mathlib.Core.List.{List, [], ◌∷◌}
use mathlib.Core.Option.{Option, none, some}
use borrow.Author.Tests.{eqb-true, eqb-false, ne_eqb, leb-false, ltb-true, ltb-false}
use lib.Dec.{eqb, leb, ltb}
use lib.ListN.{length, get_or}
use Rattle.lists.proofs.Tests.{passes, clash, decide}
use Rattle.text.specs.Tree.{Operator, plus, minus, equals, less_than}
use Rattle.text.specs.Translation.{Instruction, instruction, operator_op, Scope}
use Rattle.text_parse.specs.Tokens.{Token}
use Rattle.text_parse.specs.Grammar.{read, leaves, first, rest, leaves_at, Scopes, operator_at}
use Rattle.text_tokens.specs.Places.{tokens_at}
use Rattle.text_tokens.specs.KindsCode.{kind_of}
use Rattle.text_tokens.specs.NextCode.{NextToken}
use Rattle.text_tokens.specs.declared.next.TokenAt.{TokenAt}
use Rattle.text_tokens.proofs.KindTests.{is-plus, is-minus, is-equals, is-less}
use Rattle.text_types.specs.SaysCode.{Passed}
use Rattle.text_types.proofs.Answers.{kind-next, passed-next}
use Rattle.text_slots.specs.Placing.{Placing}
use Rattle.text_emit_expr.specs.RestCode.{Frame, waiting, prefixed, ended_rest, whole_rest, operand_rest, rest_of, frames_in}
use Rattle.text_emit_expr.specs.EndsCode.{frames_of, lowest, Leads, Standing, gone, bracket_closed, operator_word, Push, Pop, popped, no_place, top_of, goes, Flush, Steps}
use Rattle.text_emit_expr.specs.declared.state.StateAt.{StateAt}
use Rattle.text_emit_expr.proofs.StackLaws.{frames-none, frames-top, frames-unclosed, top-entry}
use Rattle.text_emit_expr.proofs.EndedRest.{not_left, operator-rest, whole-ended, other-waits, put-waits, bracket-closes, recv-closes, call-closes, call-goes-on, bracket-open, recv-open, call-open}
use Rattle.text_emit_expr.proofs.StateLaws.{rest_from, same-leads, pop-leads, gone-stands, pop-stands}
use Rattle.text_emit_expr.proofs.FlushLaws.{HasTop, has-top, fits-other, leads-then}
use Rattle.text_emit_expr.proofs.StepLaws.{phase-whole, phase-ended, Whenever, push-steps, same-steps}

-- Operators by the kinds of their tokens

-- the operator of a token
pub data OperatorHere (ts : List Token) (word : ℕ) : Type 0 where
  operator-here : (o : Operator) → operator_at ts ≡ some o → operator_op o ≡ word → OperatorHere ts word

module _ (ts : List Token) (kind : ℕ) (e : kind_of (first ts).bytes ≡ kind) where
  abbrev chosen : Bool → Bool → Bool → Bool → Option Operator
  chosen a b c d = cond a (some plus) (cond b (some minus) (cond c (some equals) (cond d (some less_than) none)))

  abbrev word : Bool → Bool → Bool → Bool → ℕ
  word a b c d = cond a 19 (cond b 20 (cond c 21 (cond d 22 0)))

  operator-kind : operator_at ts ≡ chosen (eqb kind 27) (eqb kind 28) (eqb kind 30) (eqb kind 31)
  unfolding operator_at
  operator-kind =
      let at : (j : ℕ) → eqb (kind_of (first ts).bytes) j ≡ eqb kind j = λ j. ap (λ (m : ℕ). eqb m j) e in
      rw (
        is-plus (first ts) ∙ at 27,
        is-minus (first ts) ∙ at 28,
        is-equals (first ts) ∙ at 30,
        is-less (first ts) ∙ at 31,
      ) refl

  pub no-operator : operator_word kind ≡ 0 → operator_at ts ≡ none
  unfolding operator_word
  no-operator z = operator-kind ∙ by (eqb kind 27) (eqb kind 28) (eqb kind 30) (eqb kind 31) z
    where
      by : (a b c d : Bool) → word a b c d ≡ 0 → chosen a b c d ≡ none
      by true b c d z = absurd (omega arith)
      by false true c d z = absurd (omega arith)
      by false false true d z = absurd (omega arith)
      by false false false true z = absurd (omega arith)
      by false false false false z = refl

  pub an-operator : (operator_word kind ≡ 0 → ⊥) → OperatorHere ts (operator_word kind)
  unfolding operator_word operator_op
  an-operator f = by (eqb kind 27) (eqb kind 28) (eqb kind 30) (eqb kind 31) operator-kind f
    where
      by : (a b c d : Bool) → operator_at ts ≡ chosen a b c d
          → (word a b c d ≡ 0 → ⊥) → OperatorHere ts (word a b c d)
      by true b c d q f = operator-here plus q refl
      by false true c d q f = operator-here minus q refl
      by false false true d q f = operator-here equals q refl
      by false false false true q f = operator-here less_than q refl
      by false false false false q f = absurd (f refl)

  pub operator-kinds : (operator_word kind ≡ 0 → ⊥) → (kind ≡ 20 → ⊥) × (kind ≡ 25 → ⊥) × (kind ≡ 32 → ⊥)
  unfolding operator_word
  operator-kinds f = (
    (λ g. f (ap operator_word g)),
    (λ g. f (ap operator_word g)),
    (λ g. f (ap operator_word g)),
  )

-- Joining

-- what comes before a step, at the same place
module _ (text scope : List ℕ) (n : ℕ) (p code : List ℕ) (s : StateAt) (p₁ code₁ : List ℕ) (s₁ : StateAt) where
  abbrev pub Stands : Type 0
  Stands = Standing text p s → Standing text p₁ s₁

  abbrev pub LeadsOn : Type 0
  LeadsOn = Standing text p s → n ≤ 16 → (scopes : Scopes) (sc : Scope) → Placing text scope n sc
      → Leads scopes sc text p code s p₁ code₁ s₁

  pub join-steps : Stands → LeadsOn → s₁.at ≡ s.at → (p₂ code₂ : List ℕ) (s₂ : StateAt)
      → Steps text scope n p₁ code₁ s₁ p₂ code₂ s₂ → Steps text scope n p code s p₂ code₂ s₂
  join-steps f g e p₂ code₂ s₂ r = record {
    stands = λ st. r.stands (f st);
    onward = λ l. (let h : s₁.at < s₂.at = r.onward l in omega arith);
    back = (let h : s₁.at ≤ s₂.at = r.back in omega arith);
    leads = λ st le scopes sc pl.
        leads-then scopes sc text p code s p₁ code₁ s₁ p₂ code₂ s₂ (g st le scopes sc pl)
        (r.leads (f st) le scopes sc pl);
  }

  -- where it has given up
  pub last-steps : Stands → LeadsOn → s₁.at ≡ s.at → s₁.phase ≡ 4 → Steps text scope n p code s p₁ code₁ s₁
  last-steps f g q e = record { stands = f; onward = λ l. absurd (omega arith); back = omega arith; leads = g }

module _ (text scope : List ℕ) (n : ℕ) (p code : List ℕ) (s : StateAt) (t : TokenAt)
    (next : NextToken text s.at t) where
  abbrev ts : List Token
  ts = tokens_at text s.at

  abbrev k : List Frame
  k = frames_of p s

  kind-here : kind_of (first ts).bytes ≡ t.kind
  kind-here = kind-next text s.at t next

  passed-by : (i : ℕ) → t.kind ≡ i → (i ≡ 32 → ⊥) → Passed text s.at t.end
  passed-by i e f = passed-next text s.at t next (λ g. f (sym e ∙ g))

  -- the expression has ended before t, and nothing waits
  pub over-steps : s.phase ≡ 2
      → Whenever text scope n p code s (λ scopes sc. ended_rest scopes sc k ts ≡ read [] ts)
      → Steps text scope n p code s p code (gone s 3 s.at)
  unfolding rest_of
  over-steps two f = record {
    stands = λ st. gone-stands text p s st 3 s.at (omega arith) st.inside;
    onward = λ l. absurd (omega arith);
    back = omega arith;
    leads = λ st le scopes sc pl r ends c us e.
        same-leads scopes sc text p p code s (gone s 3 s.at)
        (phase-ended scopes sc k ts s.phase two ∙ f scopes sc pl le c us e) refl
        (subst (λ (i : ℕ). cond (eqb i 0) (suc s.at) s.at ≤ s.at) (sym two) (omega arith)) r ends c us e;
  }

  -- an operator after an operand
  pub operator-steps : (p' : List ℕ) (s' : StateAt) (op : ℕ) → s.phase ≡ 1 → op ≡ operator_word t.kind
      → (op ≡ 0 → ⊥) → Push p s op 0 t.end p' s' → Steps text scope n p code s p' code s'
  operator-steps p' s' op one e f m =
      let not_none : operator_word t.kind ≡ 0 → ⊥ = λ z. f (e ∙ z) in
      let pass : Passed text s.at t.end =
      passed-by t.kind refl (operator-kinds ts t.kind kind-here not_none).2 in
      push-steps text scope n p code s p' s' op 0 t.end m pass.onward pass.within
      (λ scopes sc pl le c us q. of scopes sc pass (an-operator ts t.kind kind-here not_none))
    where
      of : (scopes : Scopes) (sc : Scope) → Passed text s.at t.end → OperatorHere ts (operator_word t.kind)
          → rest_from scopes sc text p s ≡ operand_rest scopes sc (waiting op 0 ∷ k) (tokens_at text t.end)
      of scopes sc pass (operator-here o a w) =
          phase-whole scopes sc k ts s.phase one ∙ operator-rest scopes sc k ts o a
          ∙ ap (λ (i : ℕ). operand_rest scopes sc (waiting i 0 ∷ k) (rest ts)) (w ∙ sym e)
          ∙ ap (operand_rest scopes sc (waiting op 0 ∷ k)) pass.after

  -- What stands on top where neither operators nor PUT do

  abbrev op : ℕ
  op = get_or p (3 * (s.entries - 1)) 0

  abbrev argument : ℕ
  argument = get_or p (3 * (s.entries - 1) + 1) 0

  abbrev below : List Frame
  below = frames_in p (s.entries - 1) (get_or p (3 * (s.entries - 1) + 2) 0)

  top-frames : s.unclosed ≡ 0 → 0 < s.entries → k ≡ waiting op argument ∷ below
  top-frames e h = ap (λ (u : ℕ). frames_in p s.entries u) e ∙ frames-top p s.entries h

  no_frames : s.unclosed ≡ 0 → s.entries ≡ 0 → k ≡ []
  no_frames e f =
      ap (λ (u : ℕ). frames_in p s.entries u) e ∙ ap (λ (i : ℕ). frames_in p i 0) f ∙ frames-none p

  -- nothing is left: no frame, or the text is not in the grammar
  module _ (scopes : Scopes) (sc : Scope) where
    abbrev Comes : Type 0
    Comes = (c : List Instruction) (us : List Token) → ended_rest scopes sc k ts ≡ read c us
        → ended_rest scopes sc k ts ≡ read [] ts

    none-comes : k ≡ [] → Comes
    unfolding ended_rest
    none-comes e c us q = ap (λ j. ended_rest scopes sc j ts) e

    leaves-comes : (i : ℕ) → ended_rest scopes sc k ts ≡ leaves i → Comes
    leaves-comes i e c us q = absurd (not_left e q)

    bracket-comes : 0 < s.unclosed → (t.kind ≡ 20 → ⊥) → Comes
    unfolding leaves_at
    bracket-comes h f =
        leaves-comes (first ts).at
        (ap (λ j. ended_rest scopes sc j ts) (frames-unclosed p s.entries s.unclosed h)
        ∙ bracket-open scopes sc (frames_in p s.entries (s.unclosed - 1)) ts (λ e. f (sym kind-here ∙ e)))

    -- an entry on top that waits for no end of an expression
    entry-comes : s.unclosed ≡ 0 → 0 < s.entries → (op ≡ 4 → ⊥) → op < 19
        → (op ≡ 16 → t.kind ≡ 20 → ⊥) → (op ≡ 12 → t.kind ≡ 20 → ⊥) → (op ≡ 12 → t.kind ≡ 25 → ⊥) → Comes
    unfolding leaves_at
    entry-comes e h f l a b d = by (eqb op 16) refl (eqb op 12) refl
      where
        left : ended_rest scopes sc k ts ≡ ended_rest scopes sc (waiting op argument ∷ below) ts
        left = ap (λ j. ended_rest scopes sc j ts) (top-frames e h)

        by : (b₁ : Bool) → eqb op 16 ≡ b₁ → (b₂ : Bool) → eqb op 12 ≡ b₂ → Comes
        by true q b₂ r =
            let is : op ≡ 16 = eqb-true op 16 q in
            leaves-comes (first ts).at
            (left ∙ ap (λ (o : ℕ). ended_rest scopes sc (waiting o argument ∷ below) ts) is
            ∙ recv-open scopes sc below ts argument (λ z. a is (sym kind-here ∙ z)))
        by false q true r =
            let is : op ≡ 12 = eqb-true op 12 r in
            leaves-comes (first ts).at
            (left ∙ ap (λ (o : ℕ). ended_rest scopes sc (waiting o argument ∷ below) ts) is
            ∙ call-open scopes sc below ts argument (λ z. b is (sym kind-here ∙ z)) (λ z. d is (sym kind-here ∙ z)))
        by false q false r =
            leaves-comes 0
            (left ∙ other-waits scopes sc below ts op argument f (eqb-false op 16 q) (eqb-false op 12 r) l)

    -- nothing on top goes on with t
    over-comes : (top_of p s ≡ 4 → ⊥) → top_of p s < 19 → (top_of p s ≡ 16 → t.kind ≡ 20 → ⊥)
        → (top_of p s ≡ 12 → t.kind ≡ 20 → ⊥) → (top_of p s ≡ 12 → t.kind ≡ 25 → ⊥)
        → (0 < s.unclosed → t.kind ≡ 20 → ⊥) → Comes
    over-comes f l a b d u =
        ⊎_elim (λ h. bracket-comes (ltb-true 0 s.unclosed h) (u (ltb-true 0 s.unclosed h)))
        (λ h. (let closed : s.unclosed ≡ 0 = (let g : s.unclosed ≤ 0 = ltb-false 0 s.unclosed h in omega arith) in
        ⊎_elim (λ z. none-comes (no_frames closed (eqb-true s.entries 0 z)))
        (λ z. (let some : s.entries ≡ 0 → ⊥ = eqb-false s.entries 0 z in
        let same : op ≡ top_of p s = top-entry p s closed some in
        entry-comes closed (positive s.entries some) (λ e. f (sym same ∙ e)) (omega arith)
        (λ e. a (sym same ∙ e)) (λ e. b (sym same ∙ e)) (λ e. d (sym same ∙ e))))
        (decide (eqb s.entries 0)))) (decide (ltb 0 s.unclosed))
      where
        positive : (m : ℕ) → (m ≡ 0 → ⊥) → 0 < m
        positive zero g = absurd (g refl)
        positive (suc m) g = omega arith

  over_by : s.phase ≡ 2 → ((scopes : Scopes) (sc : Scope) → Comes scopes sc)
      → Steps text scope n p code s p code (gone s 3 s.at)
  over_by two f =
      over-steps two (λ scopes sc pl le c us q.
      f scopes sc c us (sym (phase-ended scopes sc k ts s.phase two) ∙ q))

  -- which ops stay: where PUTs go too, and where they do not
  stays-below : (o : ℕ) (puts : Bool) → goes o puts ≡ false → o < 19
  stays-below o puts e = leb-false 19 o (left_false (leb 19 o) (eqb o 4 && puts) e)
    where
      left_false : (a b : Bool) → (a || b) ≡ false → a ≡ false
      left_false true b h = absurd (passes (sym h))
      left_false false b h = refl

  stays_put : (o : ℕ) → goes o true ≡ false → o ≡ 4 → ⊥
  stays_put o e f = clash (sym (ap (λ (i : ℕ). goes i true) f) ∙ e) tt

  -- a closing bracket that is none of this expression
  pub close-over : s.phase ≡ 2 → t.kind ≡ 20 → goes (top_of p s) true ≡ false → (top_of p s ≡ 12 → ⊥)
      → (top_of p s ≡ 16 → ⊥) → s.unclosed ≤ 0 → Steps text scope n p code s p code (gone s 3 s.at)
  close-over two e g a b u =
      over_by two (λ scopes sc. over-comes scopes sc (stays_put (top_of p s) g) (stays-below (top_of p s) true g)
      (λ z y. b z) (λ z y. a z) (λ z y. a z) (λ h y. absurd (omega arith)))

  -- another token
  pub end-over : s.phase ≡ 2 → (t.kind ≡ 20 → ⊥) → goes (top_of p s) true ≡ false
      → (top_of p s ≡ 12 → t.kind ≡ 25 → ⊥) → Steps text scope n p code s p code (gone s 3 s.at)
  end-over two e g d =
      over_by two (λ scopes sc. over-comes scopes sc (stays_put (top_of p s) g) (stays-below (top_of p s) true g)
      (λ z. e) (λ z. e) d (λ h. e))

  -- an operator after new T() with no assignment open
  pub new-over : s.phase ≡ 2 → (operator_word t.kind ≡ 0 → ⊥) → goes (top_of p s) false ≡ false
      → (top_of p s ≡ 4 → ⊥) → Steps text scope n p code s p code (gone s 3 s.at)
  new-over two f g d =
      let other = operator-kinds ts t.kind kind-here f in
      over_by two (λ scopes sc. over-comes scopes sc d (stays-below (top_of p s) false g)
      (λ z. other.0) (λ z. other.0) (λ z. other.1) (λ h. other.0))

  -- the closing bracket of a call or of recv
  pub close-pop : (code' : List ℕ) (s' : StateAt) → s.phase ≡ 2 → t.kind ≡ 20
      → (top_of p s ≡ 12) ⊎ (top_of p s ≡ 16) → Pop p code s 1 t.end code' s' → Steps text scope n p code s p code' s'
  unfolding rest_of
  close-pop code' s' two e which m =
      let pass : Passed text s.at t.end = passed-by 20 e (λ g. omega arith) in
      let on : s.at < t.end = pass.onward in
      let some : HasTop p s =
      has-top p s (λ z. absurd (⊎_elim (λ q. omega (arith, q, z)) (λ q. omega (arith, q, z)) which)) in
      record {
        stands = λ st. pop-stands text p s st code code' s' 1 t.end m some.some some.closed (omega arith)
            pass.within;
        onward = further m on;
        back = not_back m on;
        leads = λ st le scopes sc pl.
            pop-leads scopes sc text p code s code' s' 1 t.end m some.some some.closed
            (fits-other op argument (other which some.op))
            (phase-ended scopes sc (waiting op argument ∷ below) ts s.phase two
            ∙ left scopes sc which some.op
            ∙ ap (λ us. prefixed (instruction op argument ∷ []) (whole_rest scopes sc below us)) pass.after)
            (subst (λ (i : ℕ). cond (eqb i 0) (suc s.at) s.at ≤ t.end) (sym two) (omega arith));
      }
    where
      further : Pop p code s 1 t.end code' s' → s.at < t.end → s'.phase < 3 → s.at < s'.at
      further (popped h q w) on l = subst (λ (z : StateAt). s.at < z.at) (sym q) on
      further (no_place h q) on l =
          absurd (let four : s'.phase ≡ 4 = ap (λ (z : StateAt). z.phase) q in omega arith)

      not_back : Pop p code s 1 t.end code' s' → s.at < t.end → s.at ≤ s'.at
      not_back (popped h q w) on = let same : s'.at ≡ t.end = ap (λ (z : StateAt). z.at) q in omega arith
      not_back (no_place h q) on = let same : s'.at ≡ s.at = ap (λ (z : StateAt). z.at) q in omega arith

      other : (top_of p s ≡ 12) ⊎ (top_of p s ≡ 16) → top_of p s ≡ op → op ≡ 1 → ⊥
      other (inl a) b c = omega arith
      other (inr a) b c = omega arith

      left : (scopes : Scopes) (sc : Scope) → (top_of p s ≡ 12) ⊎ (top_of p s ≡ 16) → top_of p s ≡ op
          → ended_rest scopes sc (waiting op argument ∷ below) ts
          ≡ prefixed (instruction op argument ∷ []) (whole_rest scopes sc below (rest ts))
      left scopes sc (inl a) b =
          subst (λ (o : ℕ). ended_rest scopes sc (waiting o argument ∷ below) ts
          ≡ prefixed (instruction o argument ∷ []) (whole_rest scopes sc below (rest ts))) (sym a ∙ b)
          (call-closes scopes sc below ts argument (kind-here ∙ e))
      left scopes sc (inr a) b =
          subst (λ (o : ℕ). ended_rest scopes sc (waiting o argument ∷ below) ts
          ≡ prefixed (instruction o argument ∷ []) (whole_rest scopes sc below (rest ts))) (sym a ∙ b)
          (recv-closes scopes sc below ts argument (kind-here ∙ e))

  -- a plain closing bracket
  pub close-bracket-steps : s.phase ≡ 2 → t.kind ≡ 20 → 0 < s.unclosed
      → Steps text scope n p code s p code (bracket_closed s t.end)
  unfolding rest_of
  close-bracket-steps two e h =
      let pass : Passed text s.at t.end = passed-by 20 e (λ g. omega arith) in
      let on : s.at < t.end = pass.onward in
      let inner : List Frame = frames_in p s.entries (s.unclosed - 1) in
      same-steps text scope n p code s (bracket_closed s t.end) refl on
      (λ st. (let deep : suc (length inner) ≤ s.at =
      subst (λ j. length j ≤ s.at) (frames-unclosed p s.entries s.unclosed h) st.shallow in
      record { inside = pass.within; shallow = omega arith; room = st.room; few = st.few; spacious = st.spacious }))
      (λ scopes sc pl le c us q. phase-ended scopes sc k ts s.phase two
      ∙ ap (λ j. ended_rest scopes sc j ts) (frames-unclosed p s.entries s.unclosed h)
      ∙ bracket-closes scopes sc inner ts (kind-here ∙ e)
      ∙ ap (whole_rest scopes sc inner) pass.after)

  -- the next argument of a call
  pub comma-steps : s.phase ≡ 2 → t.kind ≡ 25 → top_of p s ≡ 12
      → Steps text scope n p code s p code (gone s 0 t.end)
  unfolding rest_of
  comma-steps two e a =
      let pass : Passed text s.at t.end = passed-by 25 e (λ g. omega arith) in
      let on : s.at < t.end = pass.onward in
      let some : HasTop p s = has-top p s (λ z. omega (arith, a, z)) in
      let frames : k ≡ waiting 12 argument ∷ below =
      top-frames some.closed some.some
      ∙ ap (λ (o : ℕ). waiting o argument ∷ below) (sym some.op ∙ a) in
      same-steps text scope n p code s (gone s 0 t.end) refl on
      (λ st. gone-stands text p s st 0 t.end (omega arith) pass.within)
      (λ scopes sc pl le c us q. phase-ended scopes sc k ts s.phase two
      ∙ ap (λ j. ended_rest scopes sc j ts) frames
      ∙ call-goes-on scopes sc below ts argument (kind-here ∙ e)
      ∙ ap (λ j. operand_rest scopes sc j (rest ts)) (sym frames)
      ∙ ap (operand_rest scopes sc k) pass.after)

  -- PUT of the assignment that is open innermost, before an operator
  module _ (code' : List ℕ) (s' : StateAt) (two : s.phase ≡ 2) (four : top_of p s ≡ 4)
      (m : Pop p code s 1 s.at code' s') where
    put-topped : HasTop p s
    put-topped = has-top p s (λ z. omega (arith, four, z))

    pub put-stands : Stands text scope n p code s p code' s'
    put-stands st =
        pop-stands text p s st code code' s' 1 s.at m put-topped.some put-topped.closed (omega arith)
        st.inside

    pub put-leads : LeadsOn text scope n p code s p code' s'
    unfolding rest_of
    put-leads st le scopes sc pl =
        let is : op ≡ 4 = sym put-topped.op ∙ four in
        pop-leads scopes sc text p code s code' s' 1 s.at m put-topped.some put-topped.closed
        (fits-other op argument (λ z. omega (arith, is, z)))
        (phase-ended scopes sc (waiting op argument ∷ below) ts s.phase two
        ∙ subst (λ (o : ℕ). ended_rest scopes sc (waiting o argument ∷ below) ts
        ≡ prefixed (instruction o argument ∷ []) (whole_rest scopes sc below ts)) (sym is)
        (put-waits scopes sc below ts argument))
        (subst (λ (i : ℕ). cond (eqb i 0) (suc s.at) s.at ≤ s.at) (sym two) (omega arith))

    pub put-place : s'.at ≡ s.at
    put-place = of m
      where
        of : Pop p code s 1 s.at code' s' → s'.at ≡ s.at
        of (popped h q w) = ap (λ (z : StateAt). z.at) q
        of (no_place h q) = ap (λ (z : StateAt). z.at) q

    pub put-at : (s'.phase ≡ 4 → ⊥) → (s'.phase ≡ 1) × (s'.at ≡ s.at)
    put-at f = of m
      where
        of : Pop p code s 1 s.at code' s' → (s'.phase ≡ 1) × (s'.at ≡ s.at)
        of (popped h q w) = (ap (λ (z : StateAt). z.phase) q, ap (λ (z : StateAt). z.at) q)
        of (no_place h q) = absurd (f (ap (λ (z : StateAt). z.phase) q))

-- The end of an expression before a token that is no operator: phase 1 or 2
module _ (text scope : List ℕ) (n : ℕ) (p code : List ℕ) (s : StateAt) (t : TokenAt)
    (next : NextToken text s.at t) (code₁ : List ℕ) (e : StateAt) where
  -- with operators alone, after new T()
  pub flush-leads : s.phase ≡ 2 → Flush p code s false code₁ e → LeadsOn text scope n p code s p code₁ e
  flush-leads two f st le scopes sc pl = f.leads scopes sc text (λ z. absurd (passes z))

  module _ (one : 1 ≤ s.phase) (two : s.phase ≤ 2) (z : operator_word t.kind ≡ 0)
      (f : Flush p code (gone s 2 s.at) true code₁ e) where
    pub end-stands : Stands text scope n p code s p code₁ e
    end-stands st = f.stands text (gone-stands text p s st 2 s.at (omega arith) st.inside)

    none_here : operator_at (tokens_at text s.at) ≡ none
    none_here = no-operator (tokens_at text s.at) t.kind (kind-next text s.at t next) z

    phases : (s.phase ≡ 1) ⊎ (s.phase ≡ 2)
    phases = of (eqb s.phase 1) refl
      where
        of : (b : Bool) → eqb s.phase 1 ≡ b → (s.phase ≡ 1) ⊎ (s.phase ≡ 2)
        of true q = inl (eqb-true s.phase 1 q)
        of false q = inr (let h : s.phase ≡ 1 → ⊥ = eqb-false s.phase 1 q in two-of s.phase one two h)
          where
            two-of : (m : ℕ) → 1 ≤ m → m ≤ 2 → (m ≡ 1 → ⊥) → m ≡ 2
            two-of zero a b g = absurd (omega arith)
            two-of (suc zero) a b g = absurd (g refl)
            two-of (suc (suc m)) a b g = omega arith

    pub end-leads : LeadsOn text scope n p code s p code₁ e
    unfolding rest_of
    end-leads st le scopes sc pl =
        leads-then scopes sc text p code s p code (gone s 2 s.at) p code₁ e
        (same-leads scopes sc text p p code s (gone s 2 s.at)
        (⊎_elim (λ q. phase-whole scopes sc (frames_of p s) (tokens_at text s.at) s.phase q
        ∙ whole-ended scopes sc (frames_of p s) (tokens_at text s.at) none_here)
        (λ q. phase-ended scopes sc (frames_of p s) (tokens_at text s.at) s.phase q) phases) refl low)
        (f.leads scopes sc text (λ q. none_here))
      where
        low : lowest s ≤ s.at
        low = rw (ne_eqb s.phase 0 (λ g. omega arith)) (omega arith)

    pub end-last : e.phase ≡ 4 → Steps text scope n p code s p code₁ e
    end-last q = last-steps text scope n p code s p code₁ e end-stands end-leads f.at q

    pub end-then : (p₂ code₂ : List ℕ) (s₂ : StateAt) → Steps text scope n p code₁ e p₂ code₂ s₂
        → Steps text scope n p code s p₂ code₂ s₂
    end-then p₂ code₂ s₂ r = join-steps text scope n p code s p code₁ e end-stands end-leads f.at p₂ code₂ s₂ r

  module _ (two : s.phase ≡ 2) (f : Flush p code s false code₁ e) where
    pub new-last : e.phase ≡ 4 → Steps text scope n p code s p code₁ e
    new-last q = last-steps text scope n p code s p code₁ e (f.stands text) (flush-leads two f) f.at q

    pub new_then : (p₂ code₂ : List ℕ) (s₂ : StateAt) → Steps text scope n p code₁ e p₂ code₂ s₂
        → Steps text scope n p code s p₂ code₂ s₂
    new_then p₂ code₂ s₂ r =
        join-steps text scope n p code s p code₁ e (f.stands text) (flush-leads two f) f.at p₂ code₂ s₂ r

-- where what waits for the end of an expression is written
pub flushed : (p code : List ℕ) (s : StateAt) (puts : Bool) (code₁ : List ℕ) (e : StateAt) → Flush p code s puts code₁ e
    → (e.phase ≡ 4 → ⊥) → (e.phase ≡ 2) × (goes (top_of p e) puts ≡ false)
flushed p code s puts code₁ e f g = ⊎_elim (λ q. absurd (g q)) (λ q. q) f.phase

pub token-after : (text : List ℕ) (t : TokenAt) (i j : ℕ) → j ≡ i → NextToken text i t → NextToken text j t
token-after text t i j e n = subst (λ (m : ℕ). NextToken text m t) (sym e) n

-- the code's tests
pub which-of : (o i : ℕ) → o ≡ i → (eqb o 12 || eqb o 16) ≡ true → (i ≡ 12) ⊎ (i ≡ 16)
which-of o i e q = by (eqb o 12) refl (eqb o 16) refl q
  where
    by : (a : Bool) → eqb o 12 ≡ a → (b : Bool) → eqb o 16 ≡ b → (a || b) ≡ true → (i ≡ 12) ⊎ (i ≡ 16)
    by true a b c d = inl (sym e ∙ eqb-true o 12 a)
    by false a true c d = inr (sym e ∙ eqb-true o 16 c)
    by false a false c d = absurd (passes d)

pub which-not : (o i : ℕ) → o ≡ i → (eqb o 12 || eqb o 16) ≡ false → (i ≡ 12 → ⊥) × (i ≡ 16 → ⊥)
which-not o i e q = by (eqb o 12) refl (eqb o 16) refl q
  where
    by : (a : Bool) → eqb o 12 ≡ a → (b : Bool) → eqb o 16 ≡ b → (a || b) ≡ false → (i ≡ 12 → ⊥) × (i ≡ 16 → ⊥)
    by true a b c d = absurd (passes (sym d))
    by false a true c d = absurd (passes (sym d))
    by false a false c d = ((λ z. eqb-false o 12 a (e ∙ z)), (λ z. eqb-false o 16 c (e ∙ z)))

pub comma-of : (k o i : ℕ) → o ≡ i → (eqb k 25 && eqb o 12) ≡ true → (k ≡ 25) × (i ≡ 12)
comma-of k o i e q = by (eqb k 25) refl (eqb o 12) refl q
  where
    by : (a : Bool) → eqb k 25 ≡ a → (b : Bool) → eqb o 12 ≡ b → (a && b) ≡ true → (k ≡ 25) × (i ≡ 12)
    by true a true c d = (eqb-true k 25 a, sym e ∙ eqb-true o 12 c)
    by true a false c d = absurd (passes d)
    by false a b c d = absurd (passes d)

pub comma-not : (k o i : ℕ) → o ≡ i → (eqb k 25 && eqb o 12) ≡ false → i ≡ 12 → k ≡ 25 → ⊥
comma-not k o i e q y z = clash (sym (ap (λ (m : ℕ). eqb m 25 && eqb o 12) z
    ∙ ap (λ (m : ℕ). eqb 25 25 && eqb m 12) (e ∙ y)) ∙ q) tt

pub topped-some : (p : List ℕ) (s : StateAt) → (top_of p s ≡ 12) ⊎ (top_of p s ≡ 16) → 0 < s.entries
topped-some p s w =
    (has-top p s (λ z. absurd (⊎_elim (λ q. omega (arith, q, z)) (λ q. omega (arith, q, z)) w))).some

pub put_some : (p : List ℕ) (s : StateAt) → top_of p s ≡ 4 → 0 < s.entries
put_some p s e = (has-top p s (λ z. omega (arith, e, z))).some

pub flush-of : (p code : List ℕ) (s z : StateAt) {puts : Bool} {code₁ : List ℕ} {e : StateAt} → z ≡ gone s 2 s.at
    → Flush p code z puts code₁ e → Flush p code (gone s 2 s.at) puts code₁ e
flush-of p code s z {puts} {code₁} {e} q f = subst (λ x. Flush p code x puts code₁ e) q f

-- the same step to a state under another name
pub steps-same : {text scope : List ℕ} {n : ℕ} {p code : List ℕ} {s : StateAt} {p' code' : List ℕ} (r s' : StateAt)
    → r ≡ s' → Steps text scope n p code s p' code' s' → Steps text scope n p code s p' code' r
steps-same {text} {scope} {n} {p} {code} {s} {p'} {code'} r s' e h =
    subst (λ x. Steps text scope n p code s p' code' x) (sym e) h

pub gone-asked : (s z : StateAt) → z ≡ gone s 2 s.at → s.entries ≤ 4096 → (z.phase ≡ 2) × (z.entries ≤ 4096)
gone-asked s z e h = (ap (λ (x : StateAt). x.phase) e, subst (λ (x : StateAt). x.entries ≤ 4096) (sym e) h)
