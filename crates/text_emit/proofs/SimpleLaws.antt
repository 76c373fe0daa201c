-- Statements that hold no other: their parts one after the other.
use Prim.Native.Nat.{ℕ, ◌+◌, ◌≤◌, ◌<◌}
use Prim.Native.String.{String}
use native.Mathlib.Omega.{arith}
use mathlib.Core.Path.{◌≡◌, refl, sym, ap, ◌∙◌, subst}
use mathlib.Core.Bool.{Bool, true}
use mathlib.Core.List.{List, [], ◌∷◌, ◌++◌, append_assoc}
use lib.Dec.{eqb}
use lib.ListN.{length}
use lib.Seq.{slice}
use Rattle.lists.proofs.Tests.{clash, passes}
use Rattle.text.specs.Tree.{Name, Declared, method_of}
use Rattle.text.specs.Translation.{Instruction, GET, DROP, MEAS, RET, FORK, SEND, slot_of, assign_code}
use Rattle.text_parse.specs.Tokens.{Token, is}
use Rattle.text_parse.specs.Grammar.{Reading, read, leaves, first, measured_name}
use Rattle.text_parse.specs.Equations.{expr_from, arguments_rule, recv_rule, send_rule, fork_rule}
use Rattle.text_tokens.specs.KindsCode.{kind_of}
use Rattle.text_tokens.specs.NextCode.{NextToken}
use Rattle.text_tokens.specs.declared.next.TokenAt.{TokenAt}
use Rattle.text_tokens.proofs.KindTests.{is_open, is-close, is-comma, is-semicolon, is-assign}
use Rattle.text_scan.proofs.Holding.{Holds, holds, off, After, AfterName, after-name, then-holds, expect-holds, name-holds}
use Rattle.text_slots.specs.Placing.{SlotAnswer}
use Rattle.text_emit_expr.specs.PartsCode.{MeasuredUpTo}
use Rattle.text_numbering.specs.CodeBy.{number_fits, code_by, arguments_by, place_of}
use Rattle.text_code.specs.OutcomeCode.{Tables, Outcome, all-written, over}
use Rattle.text_code.specs.StatementBy.{invoke_by, statement_by}
use Rattle.text_code.proofs.Forms.{outcome-same, outcome-lower, pass-after, pass-name}
use Rattle.text_emit.proofs.PutLaws.{slot-word}
use Rattle.text_emit.specs.Reached.{EmitState}
use Rattle.text_emit.specs.EmitCode.{tables_of, passed_by, PutsOne, Emits, StatementEmits, StatementFrom, InvokeFrom, PutsValue, PutsInvocation, give_rule, measure_rule, assign_rule, invoke_rule}

-- what holds of every tree that a reading comes to
pub holds_read : {A : Type 0} {P : A → List Token → Type 0} (r : Reading A)
    → ((a : A) (us : List Token) → r ≡ read a us → P a us) → Holds P r
holds_read (read a us) f = holds (f a us refl)
holds_read (leaves i) f = off

module _ (text : List ℕ) (n : ℕ) (scope : List ℕ) where
  -- where an emission stands
  abbrev pub At : List ℕ → List ℕ → ℕ → List Instruction → List Declared → List Token → Tables → EmitState → Type 0
  At row code low b es us σ e = Outcome text low b es us σ e.ok e.at (tables_of e n scope row code)

  module _ {row code : List ℕ} {low : ℕ} {b : List Instruction} {es : List Declared} {σ : Tables} {us vs : List Token}
      {e r : EmitState} (p : r ≡ passed_by text e) where
    pub step-token : (s : String) (k : ℕ) → ((t : Token) → is s t ≡ eqb (kind_of t.bytes) k) → (k ≡ 32 → ⊥)
        → After s us vs → At row code low b es us σ e → At row code (1 + low) b es vs σ r
    step-token s k test f t h =
        subst (At row code (1 + low) b es vs σ) (sym p) (pass-after text s k test f t h)

    pub step-name : {x : Name} → AfterName us x vs → At row code low b es us σ e → At row code (1 + low) b es vs σ r
    step-name t h = subst (At row code (1 + low) b es vs σ) (sym p) (pass-name text t h)

    pub step-open : After "(" us vs → At row code low b es us σ e → At row code (1 + low) b es vs σ r
    step-open = step-token "(" 19 is_open (λ g. omega (arith, g))

    pub step-close : After ")" us vs → At row code low b es us σ e → At row code (1 + low) b es vs σ r
    step-close = step-token ")" 20 is-close (λ g. omega (arith, g))

    pub step-comma : After "," us vs → At row code low b es us σ e → At row code (1 + low) b es vs σ r
    step-comma = step-token "," 25 is-comma (λ g. omega (arith, g))

    pub step-semicolon : After ";" us vs → At row code low b es us σ e → At row code (1 + low) b es vs σ r
    step-semicolon = step-token ";" 26 is-semicolon (λ g. omega (arith, g))

  -- the code of a whole statement under its own name
  pub as_code : {row code : List ℕ} {c d : List Instruction} {es : List Declared} {us : List Token} {σ : Tables}
      {r : EmitState} (low high : ℕ) → low ≤ high → c ≡ d → At row code high c es us σ r → At row code low d es us σ r
  as_code low high l e h = outcome-lower text low high l (outcome-same text e refl h)

  two-after : (b c : List Instruction) (i j : Instruction)
      → ((b ++ c) ++ (i ∷ [])) ++ (j ∷ []) ≡ b ++ (c ++ (i ∷ j ∷ []))
  two-after b c i j = append_assoc (b ++ c) (i ∷ []) (j ∷ []) ∙ append_assoc b c (i ∷ j ∷ [])

  pub send-emits : (e a x c v d f r : EmitState) (code₀ code₁ code₂ code₃ : List ℕ) → a ≡ passed_by text e
      → Emits expr_from (code_by place_of) text scope n a code₀ x code₁ → c ≡ passed_by text x
      → Emits expr_from (code_by place_of) text scope n c code₁ v code₂ → d ≡ passed_by text v → f ≡ passed_by text d
      → PutsOne 15 0 f code₂ r code₃ → StatementEmits send_rule text scope n e code₀ r code₃
  unfolding send_rule statement_by number_fits
  send-emits e a x c v d f r code₀ code₁ code₂ code₃ ea ex ec ev ed ef put₁ ms i at row us low b es σ scopes sc pl few h
      =
      expect-holds "(" us (λ vs t. then-holds (ex row vs (1 + low) b es σ scopes sc pl few (step-open ea t h)) (λ y ws
      h₁.
      expect-holds "," ws (λ xs t₁. then-holds
      (ev row xs _ (b ++ code_by place_of sc y) es σ scopes sc pl few (step-comma ec t₁ h₁)) (λ z zs h₂.
      expect-holds ")" zs (λ ps t₂. expect-holds ";" ps (λ qs t₃.
      holds (as_code (1 + low) _ (omega arith)
      (append_assoc (b ++ code_by place_of sc y) (code_by place_of sc z) (SEND ∷ [])
      ∙ append_assoc b (code_by place_of sc y) (code_by place_of sc z ++ (SEND ∷ [])))
      (put₁ refl text qs n scope row _ _ es σ (step-semicolon ef t₃ (step-close ed t₂ h₂))))))))))

  pub give-emits : (e x c r : EmitState) (code₀ code₁ code₂ : List ℕ)
      → Emits expr_from (code_by place_of) text scope n e code₀ x code₁ → c ≡ passed_by text x
      → PutsOne 13 0 c code₁ r code₂ → StatementEmits give_rule text scope n e code₀ r code₂
  unfolding give_rule statement_by number_fits
  give-emits e x c r code₀ code₁ code₂ ex ec put₁ ms i at row us low b es σ scopes sc pl few h =
      then-holds (ex row us low b es σ scopes sc pl few h) (λ y ws h₁. expect-holds ";" ws (λ xs t₁.
      holds (as_code (1 + low) _ (omega arith) (append_assoc b (code_by place_of sc y) (RET ∷ []))
      (put₁ refl text xs n scope row _ _ es σ (step-semicolon ec t₁ h₁)))))

  -- where a name's token stands, if all fits so far
  name-place : {row code : List ℕ} {low : ℕ} {b : List Instruction} {es : List Declared} {σ : Tables}
      {us vs : List Token} {x : Name} {e : EmitState} (t : TokenAt) → e.ok ≡ true → AfterName us x vs
      → NextToken text e.at t → At row code low b es us σ e → (x.at ≡ t.start) × (x.spelling ≡ slice t.start
      t.end text)
  name-place t on (after-name f) k (over o v) = absurd (clash o (passes on))
  name-place {row} {code} {low} {b} {es} {σ} {us} t on (after-name f) k (all-written o l i u q w) = (
    ap (λ (ts : List Token). (first ts).at) (u ∙ k.reads),
    ap (λ (ts : List Token). (first ts).bytes) (u ∙ k.reads),
  )

  pub fork-emits : (e a c x d r : EmitState) (t : TokenAt) (code₀ code₁ code₂ : List ℕ) → NextToken text e.at t
      → a ≡ passed_by text e → c ≡ passed_by text a
      → Emits arguments_rule (arguments_by place_of) text scope n c code₀ x code₁ → d ≡ passed_by text x
      → PutsOne 14 t.start d code₁ r code₂ → StatementFrom fork_rule text scope n e code₀ r code₂
  unfolding fork_rule statement_by number_fits
  fork-emits e a c x d r t code₀ code₁ code₂ k ea ec ex ed put₁ on ms i at row us low b es σ scopes sc pl few h =
      name-holds us (λ m vs s. expect-holds "(" vs (λ ws t₁. then-holds
      (ex row ws _ b es σ scopes sc pl few (step-open ec t₁ (step-name ea s h))) (λ xs ys h₁.
      expect-holds ";" ys (λ zs t₂.
      holds (as_code (1 + low) _ (omega arith)
      (append_assoc b (arguments_by place_of sc xs) (FORK t.start ∷ [])
      ∙ ap (λ (p : ℕ). b ++ (arguments_by place_of sc xs ++ (FORK p ∷ []))) (sym (name-place t on s k h).0))
      (put₁ refl text zs n scope row _ _ es σ (step-semicolon ed t₂ h₁)))))))

  three-after : (b : List Instruction) (i j k : Instruction)
      → ((b ++ (i ∷ [])) ++ (j ∷ [])) ++ (k ∷ []) ≡ b ++ (i ∷ j ∷ k ∷ [])
  three-after b i j k = two-after b (i ∷ []) j k

  pub measure-emits : (e a p q r : EmitState) (start end at slot : ℕ) (ends : Bool) (code₀ code₁ code₂ code₃ : List ℕ)
      → MeasuredUpTo text e.at start end at → SlotAnswer text scope n start end slot ends
      → a ≡ passed_by text (record { ok = e.ok; at = at; used = e.used; count = e.count })
      → PutsOne 3 slot a code₀ p code₁ → PutsOne 11 0 p code₁ q code₂ → PutsOne 5 0 q code₂ r code₃
      → StatementFrom measure_rule text scope n e code₀ r code₃
  unfolding measure_rule statement_by number_fits
  measure-emits e a p q r start end at slot ends code₀ code₁ code₂ code₃ m s ea put₁ put₂ put₃ on ms i place row us low
      b es
      σ scopes sc pl few h =
      then-holds (measured-holds h) (λ x vs (h₁, spelt). expect-holds ";" vs (λ ws t.
      holds (as_code (1 + low) _ (omega arith)
      (three-after b (GET slot) MEAS DROP
      ∙ ap (λ (k : ℕ). b ++ (GET k ∷ MEAS ∷ DROP ∷ [])) (s sc x pl few spelt).0)
      (put₃ refl text ws n scope row _ _ es σ (put₂ refl text ws n scope row _ _ es σ
      (put₁ refl text ws n scope row _ _ es σ (step-semicolon ea t h₁)))))))
    where
      named : EmitState
      named = record { ok = e.ok; at = at; used = e.used; count = e.count }

      measured-holds : At row code₀ low b es us σ e
          → Holds (λ x vs. At row code₀ (1 + low) b es vs σ named × (x.spelling ≡ slice start end text))
          (measured_name us)
      measured-holds (over o v) = absurd (clash o (passes on))
      measured-holds (all-written o l j u f w) =
          holds_read (measured_name us) (λ x vs g.
          let up = m x vs (sym (ap measured_name u) ∙ g) in
          let further : e.at < at = up.0.onward in
          (all-written o (omega arith) up.0.inside up.0.left f w, up.1))

  pub receive-emits : (e a x c d p r : EmitState) (code₀ code₁ code₂ code₃ : List ℕ) → a ≡ passed_by text e
      → Emits expr_from (code_by place_of) text scope n a code₀ x code₁ → c ≡ passed_by text x → d ≡ passed_by text c
      → PutsOne 16 0 d code₁ p code₂ → PutsOne 5 0 p code₂ r code₃
      → StatementEmits recv_rule text scope n e code₀ r code₃
  unfolding recv_rule statement_by number_fits
  receive-emits e a x c d p r code₀ code₁ code₂ code₃ ea ex ec ed put₁ put₂ ms i at row us low b es σ scopes sc pl few h
      =
      expect-holds "(" us (λ vs t. then-holds (ex row vs (1 + low) b es σ scopes sc pl few (step-open ea t h)) (λ y ws
      h₁.
      expect-holds ")" ws (λ xs t₁. expect-holds ";" xs (λ ys t₂.
      holds (as_code (1 + low) _ (omega arith) (two-after b (code_by place_of sc y) _ _)
      (put₂ refl text ys n scope row _ _ es σ
      (put₁ refl text ys n scope row _ _ es σ (step-semicolon ed t₂ (step-close ec t₁ h₁)))))))))

  pub assign-emits : (e a c x d r : EmitState) (t : TokenAt) (slot : ℕ) (ends : Bool) (code₀ code₁ code₂ : List ℕ)
      → NextToken text e.at t → a ≡ passed_by text e → c ≡ passed_by text a
      → Emits expr_from (code_by place_of) text scope n c code₀ x code₁ → d ≡ passed_by text x
      → SlotAnswer text scope n t.start t.end slot ends → PutsValue slot ends d code₁ r code₂
      → StatementFrom assign_rule text scope n e code₀ r code₂
  unfolding assign_rule statement_by
  assign-emits e a c x d r t slot ends code₀ code₁ code₂ k ea ec ex ed found put₁ on ms i at row us low b es σ scopes sc
      pl
      few h =
      name-holds us (λ y vs s. expect-holds "=" vs (λ ws t₁. then-holds
      (ex row ws _ b es σ scopes sc pl few (step-token ec "=" 29 is-assign (λ g. omega (arith, g)) t₁ (step-name ea s
      h)))
      (λ z zs h₁. expect-holds ";" zs (λ ps t₂.
      let spelt = (name-place t on s k h).1 in
      let there = found sc y pl few spelt in
      holds (as_code (1 + low) _ (omega arith)
      (append_assoc b (code_by place_of sc z) (assign_code ends slot)
      ∙ ap (λ (q : ℕ). b ++ (code_by place_of sc z ++ assign_code ends q)) there.0
      ∙ ap (λ (w : Bool). b ++ (code_by place_of sc z ++ assign_code w (slot_of sc y))) there.1)
      (put₁ (subst (λ (q : ℕ). q < 65536) (sym there.0) (slot-word text scope n sc y pl)) text ps n scope row _ _ es
      σ
      (step-semicolon ed t₂ h₁)))))))

  pub invoke-emits : (e a c x d r : EmitState) (t : TokenAt) (code₀ code₁ code₂ : List ℕ)
      → NextToken text e.at t → a ≡ passed_by text e → c ≡ passed_by text a
      → Emits arguments_rule (arguments_by place_of) text scope n c code₀ x code₁ → d ≡ passed_by text x
      → PutsInvocation text t.start t.end d code₁ r code₂ → InvokeFrom text scope n e code₀ r code₂
  unfolding invoke_rule statement_by
  invoke-emits e a c x d r t code₀ code₁ code₂ k ea ec ex ed put₁ on ms methods i at row us low b es σ scopes sc pl few
      h =
      name-holds us (λ y vs s. expect-holds "(" vs (λ ws t₁. then-holds
      (ex row ws _ b es σ scopes sc pl few (step-open ec t₁ (step-name ea s h))) (λ zs ps h₁. expect-holds ";" ps (λ qs
      t₂.
      let place = name-place t on s k h in
      holds (as_code (1 + low) _ (omega arith)
      (append_assoc b (arguments_by place_of sc zs) (invoke_by place_of y (method_of ms y)))
      (put₁ ms y methods place.0 place.1 k.ends (k.within (inside on h)) text qs n scope row _ _ es σ
      (step-semicolon ed t₂ h₁)))))))
    where
      inside : e.ok ≡ true → At row code₀ low b es us σ e → e.at ≤ length text
      inside on (over o v) = absurd (clash o (passes on))
      inside on (all-written o l j u q w) = j
