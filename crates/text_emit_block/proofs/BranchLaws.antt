-- An if, with else and without, and a while: their parts one after the other, and the arguments of their jumps.
use Prim.Native.Nat.{ℕ, ◌+◌, ◌≤◌}
use native.Mathlib.Omega.{arith}
use mathlib.Core.Path.{◌≡◌, refl, sym, ap, ◌∙◌}
use mathlib.Core.Bool.{Bool, true, false}
use mathlib.Core.List.{List, [], ◌∷◌, ◌++◌, append_assoc}
use lib.ListN.{length, length-append}
use Rattle.text.specs.Tree.{Declared, Expr, Statement, conditional, alternative, loop, Program}
use Rattle.text.specs.Translation.{Instruction, instruction, JUMP, JFALSE, Scope, within, if_code, else_code, while_code}
use Rattle.text_parse.specs.Tokens.{Token}
use Rattle.text_parse.specs.Grammar.{Reading, read, and_then, rest, Scopes}
use Rattle.text_parse.specs.Equations.{expr_from, condition_rule, body_from}
use Rattle.text_tokens.proofs.KindTests.{is-else}
use Rattle.text_types.specs.SaysCode.{next_kind}
use Rattle.text_scan.proofs.Holding.{Holds, holds, after, then-holds, weaker-holds, next-holds, expect-holds}
use Rattle.text_slots.specs.Placing.{Placing}
use Rattle.text_numbering.specs.CodeBy.{code_by, place_of, number_fits}
use Rattle.text_code.specs.OutcomeCode.{Tables, Outcome}
use Rattle.text_code.specs.StatementBy.{statement_by}
use Rattle.text_code.proofs.Outcomes.{outcome-stays}
use Rattle.text_code.proofs.Steps.{patch-stays}
use Rattle.text_code.proofs.Forms.{outcome-same, outcome-lower}
use Rattle.text_emit.specs.Reached.{EmitState}
use Rattle.text_emit.specs.EmitCode.{tables_of, passed_by, PutsOne, Patches, Emits, Scoped, Translates, MethodsOf}
use Rattle.text_emit.proofs.EmitLaws.{lost}
use Rattle.text_emit.proofs.PartLaws.{emits-lost}
use Rattle.text_emit.proofs.SimpleLaws.{step-token, step-open, step-close}
use Rattle.text_emit_block.specs.BlockCode.{StatementTranslates, OtherwiseTranslates, else_from, else_rule, if_rule, while_rule}
use Rattle.text_emit_block.proofs.Frames.{was-ok, written_of, tokens-of, scoped, framed, unframed, patched}
use Rattle.text_emit_block.proofs.LevelLaws.{stands, misses, then-any}

-- "( expr )"
pub condition-emits : (text : List ℕ) (n : ℕ) (scope : List ℕ) (e a x r : EmitState) (code₀ code₁ : List ℕ)
    → a ≡ passed_by text e → Emits expr_from (code_by place_of) text scope n a code₀ x code₁ → r ≡ passed_by text x
    → Emits condition_rule (code_by place_of) text scope n e code₀ r code₁
unfolding condition_rule
condition-emits text n scope e a x r code₀ code₁ ea ex er row us low b es σ scopes sc pl few h =
    expect-holds "(" us (λ vs t. then-holds
    (ex row vs (1 + low) b es σ scopes sc pl few (step-open text n scope ea t h)) (λ y ws h₁.
    expect-holds ")" ws (λ xs t₁.
    holds (outcome-lower text (1 + low) (1 + (1 + (1 + low))) (omega arith) (step-close text n scope er t₁ h₁)))))

-- the expression does not fit
pub condition-refused : (text : List ℕ) (n : ℕ) (scope : List ℕ) (e a : EmitState) (code₀ code₁ : List ℕ)
    → a ≡ passed_by text e → Emits expr_from (code_by place_of) text scope n a code₀ lost code₁
    → Emits condition_rule (code_by place_of) text scope n e code₀ lost code₁
condition-refused text n scope e a code₀ code₁ ea ex =
    emits-lost condition_rule (code_by place_of) text n scope e (passed_by text lost) code₀ code₁ refl
    (condition-emits text n scope e a lost (passed_by text lost) code₀ code₁ ea ex refl)

-- no jump has a number
jfalse-fits : (x y : ℕ) → number_fits (instruction 18 x) ≡ number_fits (instruction 18 y)
unfolding number_fits
jfalse-fits x y = refl

jump_fits : (x y : ℕ) → number_fits (instruction 17 x) ≡ number_fits (instruction 17 y)
unfolding number_fits
jump_fits x y = refl

while-code : (ms : Program) (sc : Scope) (i at : ℕ) (b : List Instruction) (x : Expr) (t : Statement) (j : ℕ)
    → j ≡ at + length b
    → (b ++ code_by place_of sc x) ++ (JFALSE (at + length b + length (code_by place_of sc x) + 1
    + length (statement_by place_of ms sc i (at + length b + length (code_by place_of sc x) + 1) t) + 1)
    ∷ statement_by place_of ms sc i (at + length b + length (code_by place_of sc x) + 1) t ++ (JUMP j ∷ []))
    ≡ b ++ statement_by place_of ms sc i (at + length b) (loop x t)
unfolding statement_by while_code
while-code ms sc i at b x t j q =
    append_assoc b (code_by place_of sc x) _
    ∙ ap (λ (k : ℕ). b ++ (code_by place_of sc x ++ (JFALSE (at + length b + length (code_by place_of sc x) + 1
    + length (statement_by place_of ms sc i (at + length b + length (code_by place_of sc x) + 1) t) + 1)
    ∷ statement_by place_of ms sc i (at + length b + length (code_by place_of sc x) + 1) t ++ (JUMP k ∷ [])))) q

module _ (text : List ℕ) (n left : ℕ) (ms : Program) (known : MethodsOf text ms) where
  abbrev By : Scope → ℕ → ℕ → Statement → List Instruction
  By sc i at s = statement_by place_of ms sc i at s

  -- the condition, JFALSE, and the body
  module _ (e c test s : EmitState) (scope row code₀ code₁ code₂ scope' row' code₃ : List ℕ) (on : e.ok ≡ true)
      (cond-emits : Emits condition_rule (code_by place_of) text scope n e code₀ c code₁)
      (put-emits : PutsOne 18 0 c code₁ test code₂)
      (body-emits : StatementTranslates (body_from left) text n test scope row code₂ s scope' row' code₃) where
    module _ (us : List Token) (low : ℕ) (b : List Instruction) (es : List Declared) (σ : Tables) (scopes : Scopes)
        (sc : Scope) (pl : Placing text σ.scope n sc) (few : n ≤ σ.used)
        (h : Outcome text low b es us σ e.ok e.at (tables_of e n scope row code₀)) where
      -- the code of the condition, and that of the body after it
      abbrev C : Expr → List Instruction
      C x = code_by place_of sc x

      abbrev S : Expr → Statement → List Instruction
      S x t = By sc (σ.used + length es) (σ.count + length b + length (C x) + 1) t

      abbrev AfterBody : Expr → Statement → List Token → Type 0
      AfterBody x t vs =
          Outcome text (1 + (1 + low)) ((b ++ C x) ++ (JFALSE 0 ∷ S x t)) (es ++ within t) vs σ s.ok s.at
          (tables_of s n scope' row' code₃)

      abbrev AfterCondition : Expr → List Token → Type 0
      AfterCondition x vs =
          Outcome text (1 + low) (b ++ C x) es vs σ c.ok c.at (tables_of c n scope row code₁)

      -- the instruction after the condition, if all fits that comes after it
      known-place : (x : Expr) (vs : List Token) → AfterCondition x vs → (d : List Instruction) (fs : List Declared)
          {most : ℕ} {ws : List Token} {fine : Bool} {place : ℕ} {υ : Tables}
          → Outcome text most ((b ++ C x) ++ d) (es ++ fs) ws σ fine place υ → fine ≡ true
          → c.count ≡ σ.count + length (b ++ C x)
      known-place x vs h₁ d fs y fine = (written_of text h₁ (was-ok text (b ++ C x) d es fs h₁ y fine)).counted

      pub condition-body : {B : Type 0} {Q : B → List Token → Type 0}
          (k : Expr → Statement → List Token → Reading B)
          → ((x : Expr) (us : List Token) (t : Statement) (vs : List Token) → AfterCondition x us → AfterBody x t vs
          → Holds Q (k x t vs))
          → Holds Q (and_then (condition_rule scopes us) (λ x vs. and_then (body_from left scopes vs) (λ t ws. k x t ws)))
      unfolding number_fits
      condition-body k f =
          let here = scoped text n e scope row code₀ sc pl few h on in
          let w = written_of text h on in
          let slots : n ≤ e.used = here.1 in
          let room : e.used ≤ 16 = w.room in
          then-holds (cond-emits row us low b es σ scopes sc here.0 (omega arith) h) (λ x vs h₁.
          then-holds (framed (body_from left) By within text n test scope row code₂ s scope' row' code₃
          (body-emits ms known) vs (1 + low) ((b ++ C x) ++ (JFALSE 0 ∷ [])) es σ scopes sc pl few
          (put-emits refl text vs n scope row (1 + low) (b ++ C x) es σ h₁)) (λ t ws h₂.
          f x vs t ws h₁ (outcome-same text (code_is x t) refl h₂)))
        where
          code_is : (x : Expr) (t : Statement)
              → ((b ++ C x) ++ (JFALSE 0 ∷ []))
              ++ By sc (σ.used + length es) (σ.count + length ((b ++ C x) ++ (JFALSE 0 ∷ []))) t
              ≡ (b ++ C x) ++ (JFALSE 0 ∷ S x t)
          code_is x t =
              append_assoc (b ++ C x) (JFALSE 0 ∷ []) _
              ∙ ap (λ (i : ℕ). (b ++ C x) ++ (JFALSE 0 ∷ By sc (σ.used + length es) i t))
              (let one = length-append (b ++ C x) (JFALSE 0 ∷ []) in
              let two = length-append b (C x) in omega arith)

      -- an if without else: JFALSE goes to after the body
      abbrev Target : Expr → Statement → ℕ
      Target x t = σ.count + length b + length (C x) + 1 + length (S x t)

      if-is : (x : Expr) (t : Statement)
          → (b ++ C x) ++ (JFALSE (Target x t) ∷ S x t)
          ≡ b ++ By sc (σ.used + length es) (σ.count + length b) (conditional x t)
      unfolding statement_by if_code
      if-is x t = append_assoc b (C x) _

      pub if-fits : (code₄ : List ℕ) → Patches s c.count s.count code₃ code₄ → (x : Expr) (us : List Token)
          (t : Statement) (vs : List Token) → AfterCondition x us → AfterBody x t vs
          → Outcome text (1 + low) (b ++ By sc (σ.used + length es) (σ.count + length b) (conditional x t))
          (es ++ within (conditional x t)) vs σ s.ok s.at (tables_of s n scope' row' code₄)
      unfolding within
      if-fits code₄ p x us t vs y₁ y =
          outcome-lower text (1 + low) (1 + (1 + low)) (omega arith) (outcome-same text (if-is x t) refl
          (patched text n s scope' row' code₃ code₄ (b ++ C x) (S x t) 18 0 s.count c.count (Target x t) p
          jfalse-fits
          (known-place x us y₁ (JFALSE 0 ∷ S x t) (within t) y)
          (λ fine.
          let counted = (written_of text y fine).counted in
          let one = length-append (b ++ C x) (JFALSE 0 ∷ S x t) in
          let two = length-append b (C x) in omega arith) y))

      -- where the body does not fit, the whole does not, with else and without
      pub if-off : s.ok ≡ false → (x : Expr) (t : Statement) (vs : List Token) → AfterBody x t vs
          → Outcome text (1 + low) (b ++ By sc (σ.used + length es) (σ.count + length b) (conditional x t))
          (es ++ within (conditional x t)) vs σ s.ok s.at (tables_of s n scope' row' code₃)
      unfolding within
      if-off o x t vs y =
          outcome-lower text (1 + low) (1 + (1 + low)) (omega arith) (outcome-same text (if-is x t) refl
          (patch-stays text (b ++ C x) (S x t) (es ++ within t) vs (1 + (1 + low)) σ (tables_of s n scope' row' code₃)
          s.at 18 0 (Target x t) o o (jfalse-fits 0 (Target x t)) y))

      -- the code of an else after it
      abbrev T : Expr → Statement → Statement → List Instruction
      T x t u =
          By sc (σ.used + length es + length (within t)) (σ.count + length b + length (C x) + 1 + length (S x t) + 1)
          u

      else_is : (x : Expr) (t u : Statement)
          → (b ++ C x) ++ else_from (σ.count + length (b ++ C x)) (S x t)
          (λ at. By sc (σ.used + length (es ++ within t)) at u)
          ≡ b ++ By sc (σ.used + length es) (σ.count + length b) (alternative x t u)
      unfolding statement_by else_code
      else_is x t u =
          append_assoc b (C x) _
          ∙ ap (λ (i : ℕ). b ++ (C x ++ else_from i (S x t) (λ at. By sc (σ.used + length (es ++ within t)) at u)))
          {x = σ.count + length (b ++ C x)} {y = σ.count + length b + length (C x)}
          (let one = length-append b (C x) in omega arith)
          ∙ ap (λ (i : ℕ). b ++ (C x ++ else_from (σ.count + length b + length (C x)) (S x t) (λ at. By sc i at u)))
          {x = σ.used + length (es ++ within t)} {y = σ.used + length es + length (within t)}
          (let one = length-append es (within t) in omega arith)

      else-off : s.ok ≡ false → (x : Expr) (t u : Statement) (vs ws : List Token) → AfterBody x t vs
          → Outcome text (1 + low) (b ++ By sc (σ.used + length es) (σ.count + length b) (alternative x t u))
          (es ++ within (alternative x t u)) ws σ s.ok s.at (tables_of s n scope' row' code₃)
      unfolding within
      else-off o x t u vs ws y =
          outcome-same text (append_assoc (b ++ C x) (JFALSE (At x t) ∷ S x t) _ ∙ else_is x t u)
          (append_assoc es (within t) (within u))
          (outcome-stays text ((b ++ C x) ++ (JFALSE (At x t) ∷ S x t)) (Rest x t u) (es ++ within t) (within u)
          {τ = tables_of s n scope' row' code₃} o o
          (patch-stays text (b ++ C x) (S x t) (es ++ within t) vs (1 + (1 + low)) σ (tables_of s n scope' row' code₃)
          s.at 18 0 (At x t) o o (jfalse-fits 0 (At x t)) y))
        where
          At : Expr → Statement → ℕ
          At x t = σ.count + length (b ++ C x) + 1 + length (S x t) + 1

          Other : Expr → Statement → Statement → List Instruction
          Other x t u = By sc (σ.used + length (es ++ within t)) (At x t) u

          Rest : Expr → Statement → Statement → List Instruction
          Rest x t u = JUMP (At x t + length (Other x t u)) ∷ Other x t u

      pub either-off : s.ok ≡ false → (x : Expr) (t : Statement) (vs : List Token) → AfterBody x t vs
          → Holds (λ a ws. Outcome text (1 + low) (b ++ By sc (σ.used + length es) (σ.count + length b) a)
          (es ++ within a) ws σ s.ok s.at (tables_of s n scope' row' code₃)) (else_rule left scopes x t vs)
      unfolding else_rule
      either-off o x t vs y =
          next-holds "else" vs
          (λ a. then-any (body_from left scopes (rest vs)) (λ u ws. holds (else-off o x t u vs ws y)))
          (λ f. holds (if-off o x t vs y))

    -- the three ways in which an if ends
    pub if-stuck : s.ok ≡ false → Translates (if_rule left) By within text n e scope row code₀ s scope' row' code₃
    unfolding if_rule
    if-stuck o =
        unframed (if_rule left) By within text n e scope row code₀ s scope' row' code₃ on
        (λ us low b es σ scopes sc pl few h. condition-body us low b es σ scopes sc pl few h
        (λ x t vs. else_rule left scopes x t vs)
        (λ x us₁ t vs y₁ y. either-off us low b es σ scopes sc pl few h o x t vs y))

    pub if-ends : (code₄ : List ℕ) → s.ok ≡ true → (next_kind text s.at ≡ 13 → ⊥)
        → Patches s c.count s.count code₃ code₄
        → Translates (if_rule left) By within text n e scope row code₀ s scope' row' code₄
    unfolding if_rule else_rule
    if-ends code₄ fine f p =
        unframed (if_rule left) By within text n e scope row code₀ s scope' row' code₄ on
        (λ us low b es σ scopes sc pl few h. condition-body us low b es σ scopes sc pl few h
        (λ x t vs. else_rule left scopes x t vs)
        (λ x us₁ t vs y₁ y. rw (misses text "else" 13 is-else s.at (tokens-of text y fine) f)
        (holds (if-fits us low b es σ scopes sc pl few h code₄ p x us₁ t vs y₁ y))))

    pub if-else : (word r : EmitState) (scope'' row'' code₄ : List ℕ) → s.ok ≡ true → next_kind text s.at ≡ 13
        → word ≡ passed_by text s
        → OtherwiseTranslates left c.count text n word scope' row' code₃ r scope'' row'' code₄
        → Translates (if_rule left) By within text n e scope row code₀ r scope'' row'' code₄
    unfolding if_rule else_rule within
    if-else word r scope'' row'' code₄ fine f p o =
        unframed (if_rule left) By within text n e scope row code₀ r scope'' row'' code₄ on
        (λ us low b es σ scopes sc pl few h. condition-body us low b es σ scopes sc pl few h
        (λ x t vs. else_rule left scopes x t vs)
        (λ x us₁ t vs y₁ y.
        let there = stands text "else" 13 is-else s.at (tokens-of text y fine) f in
        let C = code_by place_of sc x in
        let S = By sc (σ.used + length es) (σ.count + length b + length C + 1) t in
        let z = step-token text n scope' p "else" 13 is-else (λ g. omega (arith, g)) (after there) y in
        rw there (then-holds
        (o ms known (ap (λ (w : EmitState). w.ok) p ∙ fine) (rest vs) (1 + (1 + (1 + low))) (b ++ C) S (es ++ within t) σ
        scopes sc (scoped text n word scope' row' code₃ sc pl few z)
        (known-place us low b es σ scopes sc pl few h x us₁ y₁ (JFALSE 0 ∷ S) (within t) y fine) z)
        (λ u ws z₁. holds (outcome-lower text (1 + low) (1 + (1 + (1 + (1 + low)))) (omega arith)
        (outcome-same text (else_is us low b es σ scopes sc pl few h x t u)
        (append_assoc es (within t) (within u)) z₁))))))

    -- a while: JUMP goes back to the condition, JFALSE to after it
    pub while-ends : (back : EmitState) (code₄ code₅ : List ℕ) → PutsOne 17 e.count s code₃ back code₄
        → Patches back c.count back.count code₄ code₅
        → Translates (while_rule left) By within text n e scope row code₀ back scope' row' code₅
    unfolding while_rule within number_fits
    while-ends back code₄ code₅ jump p =
        unframed (while_rule left) By within text n e scope row code₀ back scope' row' code₅ on
        (λ us low b es σ scopes sc pl few h. condition-body us low b es σ scopes sc pl few h
        (λ x t vs. read (loop x t) vs)
        (λ x us₁ t vs y₁ y.
        let C = code_by place_of sc x in
        let S = By sc (σ.used + length es) (σ.count + length b + length C + 1) t in
        let z = outcome-same text (append_assoc (b ++ C) (JFALSE 0 ∷ S) (JUMP e.count ∷ [])) refl
        (jump refl text vs n scope' row' (1 + (1 + low)) ((b ++ C) ++ (JFALSE 0 ∷ S)) (es ++ within t) σ y) in
        holds (outcome-lower text (1 + low) (1 + (1 + low)) (omega arith)
        (outcome-same text
        (while-code ms sc (σ.used + length es) σ.count b x t e.count (written_of text h on).counted) refl
        (patched text n back scope' row' code₄ code₅ (b ++ C) (S ++ (JUMP e.count ∷ [])) 18 0 back.count
        c.count (σ.count + length b + length C + 1 + length S + 1) p jfalse-fits
        (known-place us low b es σ scopes sc pl few h x us₁ y₁ (JFALSE 0 ∷ S ++ (JUMP e.count ∷ [])) (within t) z)
        (λ fine.
        let counted = (written_of text z fine).counted in
        let one = length-append (b ++ C) (JFALSE 0 ∷ S ++ (JUMP e.count ∷ [])) in
        let two = length-append b C in
        let three = length-append S (JUMP e.count ∷ []) in omega arith) z)))))

  -- the body of an else: JUMP goes to after it, and the JFALSE of its if to after that
  pub otherwise-ends : (e jump r : EmitState) (k : ℕ) (scope row code₀ code₁ code₂ scope' row' code₃ code₄ : List ℕ)
      → e.ok ≡ true → PutsOne 17 0 e code₀ jump code₁ → Patches jump k jump.count code₁ code₂
      → StatementTranslates (body_from left) text n jump scope row code₂ r scope' row' code₃
      → Patches r e.count r.count code₃ code₄
      → (us : List Token) (low : ℕ) (b d : List Instruction) (es : List Declared) (σ : Tables) (scopes : Scopes)
      (sc : Scope) → Scoped text scope n sc e → k ≡ σ.count + length b
      → Outcome text low (b ++ (JFALSE 0 ∷ d)) es us σ e.ok e.at (tables_of e n scope row code₀)
      → Holds (λ t vs. Outcome text (1 + low)
      (b ++ else_from (σ.count + length b) d (λ at. By sc (σ.used + length es) at t)) (es ++ within t)
      vs σ r.ok r.at (tables_of r n scope' row' code₄))
      (body_from left scopes us)
  unfolding number_fits
  otherwise-ends e jump r k scope row code₀ code₁ code₂ scope' row' code₃ code₄ on put patch₁ body patch₂ us low b d
      es σ scopes sc in_scope at-k h =
      let X : ℕ = σ.count + length b + 1 + length d + 1 in
      let given = (written_of text h on).given in
      let counted = (written_of text h on).counted in
      let long = length-append b (JFALSE 0 ∷ d) in
      let h₁ = outcome-same text (append_assoc b (JFALSE 0 ∷ d) (JUMP 0 ∷ [])) refl
      (put refl text us n scope row low (b ++ (JFALSE 0 ∷ d)) es σ h) in
      let h₂ = patched text n jump scope row code₁ code₂ b (d ++ (JUMP 0 ∷ [])) 18 0 jump.count k X patch₁
      jfalse-fits (λ fine. at-k)
      (λ fine.
      let now = (written_of text h₁ fine).counted in
      let one = length-append b (JFALSE 0 ∷ d ++ (JUMP 0 ∷ [])) in
      let two = length-append d (JUMP 0 ∷ []) in omega arith) h₁ in
      weaker-holds (λ t vs z.
      let T = By sc (σ.used + length es) X t in
      let z₁ = outcome-same text (after-jump b d X σ.count (λ at. By sc (σ.used + length es) at t)) refl z in
      outcome-same text (append_assoc b (JFALSE X ∷ d) _) refl
      (patched text n r scope' row' code₃ code₄ (b ++ (JFALSE X ∷ d)) T 17 0 r.count e.count (X + length T) patch₂
      jump_fits
      (λ fine. let one = length-append b (JFALSE X ∷ d) in omega arith)
      (λ fine.
      let now = (written_of text z₁ fine).counted in
      let one = length-append (b ++ (JFALSE X ∷ d)) (JUMP 0 ∷ T) in
      let two = length-append b (JFALSE X ∷ d) in omega arith) z₁))
      (body ms known us low (b ++ (JFALSE X ∷ d ++ (JUMP 0 ∷ []))) es σ scopes sc
      (λ fine. let now = (written_of text h₂ fine).given in ((in_scope on).0, slots given now (in_scope on).1)) h₂)
    where
      slots : {i j : ℕ} → e.used ≡ i → j ≡ i → n ≤ e.used → n ≤ j
      slots p q le = omega arith

      after-jump : (b d : List Instruction) (X at : ℕ) (T : ℕ → List Instruction)
          → (b ++ (JFALSE (at + length b + 1 + length d + 1) ∷ d ++ (JUMP 0 ∷ [])))
          ++ T (at + length (b ++ (JFALSE (at + length b + 1 + length d + 1) ∷ d ++ (JUMP 0 ∷ []))))
          ≡ (b ++ (JFALSE (at + length b + 1 + length d + 1) ∷ d)) ++ (JUMP 0 ∷ T (at + length b + 1 + length d + 1))
      after-jump b d X at T =
          let J = JFALSE (at + length b + 1 + length d + 1) in
          ap (λ (l : List Instruction). l ++ T (at + length (b ++ (J ∷ d ++ (JUMP 0 ∷ [])))))
          (sym (append_assoc b (J ∷ d) (JUMP 0 ∷ [])))
          ∙ append_assoc (b ++ (J ∷ d)) (JUMP 0 ∷ []) _
          ∙ ap (λ (i : ℕ). (b ++ (J ∷ d)) ++ (JUMP 0 ∷ T i))
          {x = at + length (b ++ (J ∷ d ++ (JUMP 0 ∷ [])))} {y = at + length b + 1 + length d + 1}
          (let one = length-append b (J ∷ d ++ (JUMP 0 ∷ [])) in
          let two = length-append d (JUMP 0 ∷ []) in omega arith)
