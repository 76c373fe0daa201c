-- Emissions seen from where their tables began.
use Prim.Native.Nat.{ℕ, ◌+◌, ◌≤◌}
use native.Mathlib.Omega.{arith}
use mathlib.Core.Path.{◌≡◌, refl, sym, ◌∙◌, subst}
use mathlib.Core.Logic.{inl, inr}
use mathlib.Core.Bool.{Bool, true, false, ◌&&◌}
use mathlib.Core.List.{List, [], ◌∷◌, ◌++◌}
use lib.ListN.{length, length-append}
use Rattle.lists.specs.Lists.{every, put_from}
use Rattle.lists.proofs.Tests.{clash, passes}
use Rattle.text.specs.Tree.{Declared}
use Rattle.text.specs.Translation.{Instruction, instruction, code_words, Scope}
use Rattle.text_parse.specs.Tokens.{Token}
use Rattle.text_parse.specs.Grammar.{Reading, read, leaves, Scopes}
use Rattle.text_tokens.specs.Places.{tokens_at}
use Rattle.text_scan.proofs.Holding.{Holds, holds, off, weaker-holds}
use Rattle.text_slots.specs.Placing.{Placing}
use Rattle.text_declare.specs.Entered.{typed}
use Rattle.text_numbering.specs.CodeBy.{number_fits}
use Rattle.text_code.specs.OutcomeCode.{Tables, Written, Overflow, Outcome, all-written, over}
use Rattle.text_code.proofs.Quiet.{both-fit}
use Rattle.text_code.proofs.Outcomes.{written_then, over-second, outcome-stays}
use Rattle.text_code.proofs.Steps.{patch-stays}
use Rattle.text_emit.specs.Reached.{EmitState}
use Rattle.text_emit.specs.EmitCode.{tables_of, Patches, Scoped, Translates}

-- whatever a reading comes to
pub every-reading : {A : Type 0} {P : A → List Token → Type 0} → ((a : A) (us : List Token) → P a us) → (r : Reading A)
    → Holds P r
every-reading f (read a us) = holds (f a us)
every-reading f (leaves i) = off

module _ (text : List ℕ) where
  -- nothing is written yet
  pub begun : (σ : Tables) → σ.count ≤ 4096 → σ.used ≤ 16 → Written text [] [] σ σ
  unfolding code_words typed put_from
  begun σ few room = record {
    counted = omega arith;
    few = few;
    given = omega arith;
    room = room;
    same-scope = refl;
    words = refl;
    types = refl;
    kept = λ m sc h p. p;
  }

  -- what fits is not over
  pub not-over : (c c' : List Instruction) (ds es : List Declared) {σ τ : Tables} → Overflow σ c ds
      → every number_fits (c ++ c') ≡ true → Written text (c ++ c') (ds ++ es) σ τ → ⊥
  not-over c c' ds es (inl h) q w =
      let a = w.counted in
      let f = w.few in omega (arith, length-append c c')
  not-over c c' ds es (inr (inl e)) q w =
      no-fit (every number_fits c) (every number_fits c') e (sym (both-fit c c') ∙ q)
    where
      no-fit : (x y : Bool) → x ≡ false → (x && y) ≡ true → ⊥
      no-fit true y e t = clash e tt
      no-fit false y e t = clash refl (passes t)
  not-over c c' ds es (inr (inr h)) q w =
      let a = w.given in
      let f = w.room in omega (arith, length-append ds es)

  -- what fits with more after it fits
  pub was-ok : (c c' : List Instruction) (ds es : List Declared) {us vs : List Token} {low most : ℕ} {σ τ υ : Tables}
      {ok fine : Bool} {at place : ℕ} → Outcome text low c ds us σ ok at τ
      → Outcome text most (c ++ c') (ds ++ es) vs σ fine place υ → fine ≡ true → ok ≡ true
  was-ok c c' ds es (all-written o l i u q w) x t = o
  was-ok c c' ds es (over o v) (over p y) t = absurd (clash p (passes t))
  was-ok c c' ds es (over o v) (all-written p m j x r w) t = absurd (not-over c c' ds es v r w)

  pub written_of : {c : List Instruction} {ds : List Declared} {us : List Token} {low : ℕ} {σ τ : Tables} {ok : Bool}
      {at : ℕ} → Outcome text low c ds us σ ok at τ → ok ≡ true → Written text c ds σ τ
  written_of (all-written o l i u q w) t = w
  written_of (over o v) t = absurd (clash o (passes t))

  pub tokens-of : {c : List Instruction} {ds : List Declared} {us : List Token} {low : ℕ} {σ τ : Tables} {ok : Bool}
      {at : ℕ} → Outcome text low c ds us σ ok at τ → ok ≡ true → us ≡ tokens_at text at
  tokens-of (all-written o l i u q w) t = u
  tokens-of (over o v) t = absurd (clash o (passes t))

  pub place-of : {c : List Instruction} {ds : List Declared} {us : List Token} {low : ℕ} {σ τ : Tables} {ok : Bool}
      {at : ℕ} → Outcome text low c ds us σ ok at τ → ok ≡ true → (low ≤ at) × (at ≤ length text)
  place-of (all-written o l i u q w) t = (l, i)
  place-of (over o v) t = absurd (clash o (passes t))

  -- a part and one that goes further after it
  pub outcome-further : (c c' : List Instruction) (ds es : List Declared) {us vs : List Token} {low : ℕ}
      {σ τ υ : Tables} {ok fine : Bool} {at place : ℕ} → ok ≡ true → Outcome text low c ds us σ ok at τ
      → Outcome text (1 + at) c' es vs τ fine place υ → Outcome text (1 + low) (c ++ c') (ds ++ es) vs σ fine place υ
  outcome-further c c' ds es t (over o v) later = absurd (clash o (passes t))
  outcome-further c c' ds es {σ = σ} {τ = τ} t (all-written o l i u q w) (over p v) =
      over p (over-second text c c' ds es σ τ w q v)
  outcome-further c c' ds es {σ = σ} {τ = τ} t (all-written o l i u q w) (all-written p m j x r v) =
      all-written p (omega arith) j x (both-fit c c' ∙ rw q r) (written_then text c c' ds es σ τ _ w v)

-- What is made of any outcome before a part of a text, where the variables are in scope from its beginning on.
abbrev pub Framed : {A : Type 0} → (Scopes → List Token → Reading A) → (Scope → ℕ → ℕ → A → List Instruction)
    → (A → List Declared) → List ℕ → ℕ → EmitState → List ℕ → List ℕ → List ℕ → EmitState → List ℕ → List ℕ → List ℕ → Type 0
Framed rule c ds text n e scope row code r scope' row' code' =
    (us : List Token) (low : ℕ) (b : List Instruction) (es : List Declared) (σ : Tables) (scopes : Scopes) (sc : Scope)
    → Placing text σ.scope n sc → n ≤ σ.used
    → Outcome text low b es us σ e.ok e.at (tables_of e n scope row code)
    → Holds (λ a vs. Outcome text (1 + low) (b ++ c sc (σ.used + length es) (σ.count + length b) a) (es ++ ds a) vs σ
    r.ok r.at (tables_of r n scope' row' code'))
    (rule scopes us)

-- the variables in scope stay so
pub scoped : (text : List ℕ) (n : ℕ) (e : EmitState) (scope row code : List ℕ) {us : List Token} {low : ℕ}
    {b : List Instruction} {es : List Declared} {σ : Tables} (sc : Scope) → Placing text σ.scope n sc → n ≤ σ.used
    → Outcome text low b es us σ e.ok e.at (tables_of e n scope row code) → Scoped text scope n sc e
scoped text n e scope row code {us} {low} {b} {es} {σ} sc pl few h on =
    let w = written_of text h on in
    let same = w.same-scope in
    let given = w.given in
    (w.kept n sc (omega arith) pl, omega arith)

module _ {A : Type 0} (rule : Scopes → List Token → Reading A) (c : Scope → ℕ → ℕ → A → List Instruction)
    (ds : A → List Declared) (text : List ℕ) (n : ℕ) (e : EmitState) (scope row code : List ℕ) (r : EmitState)
    (scope' row' code' : List ℕ) where
  pub framed : Translates rule c ds text n e scope row code r scope' row' code'
      → Framed rule c ds text n e scope row code r scope' row' code'
  framed t us low b es σ scopes sc pl few h = t us low b es σ scopes sc (scoped text n e scope row code sc pl few h) h

  -- where something does not fit, nothing more is said
  pub unframed-off : e.ok ≡ false → r.ok ≡ false
      → Translates rule c ds text n e scope row code r scope' row' code'
  unframed-off o f us low b es σ scopes sc in_scope h =
      every-reading (λ a vs. outcome-stays text b (c sc (σ.used + length es) (σ.count + length b) a) es (ds a) o f h)
      (rule scopes us)

  -- else the tables begin here
  pub from-here : e.ok ≡ true
      → ((us : List Token) (scopes : Scopes) (sc : Scope) → us ≡ tokens_at text e.at → e.at ≤ length text
      → e.count ≤ 4096 → e.used ≤ 16 → Placing text scope n sc → n ≤ e.used
      → Holds (λ a vs. Outcome text (1 + e.at) (c sc e.used e.count a) (ds a) vs (tables_of e n scope row code)
      r.ok r.at (tables_of r n scope' row' code')) (rule scopes us))
      → Translates rule c ds text n e scope row code r scope' row' code'
  from-here on f us low b es σ scopes sc in_scope h =
      let w = written_of text h on in
      weaker-holds (λ a vs x. outcome-further text b (c sc (σ.used + length es) (σ.count + length b) a) es (ds a) on h
      (numbered a w.given w.counted x))
      (f us scopes sc (tokens-of text h on) (place-of text h on).1 w.few w.room (in_scope on).0
      (in_scope on).1)
    where
      numbered : {vs : List Token} {τ υ : Tables} {i k : ℕ} (a : A) → e.used ≡ i → e.count ≡ k
          → Outcome text (1 + e.at) (c sc e.used e.count a) (ds a) vs τ r.ok r.at υ
          → Outcome text (1 + e.at) (c sc i k a) (ds a) vs τ r.ok r.at υ
      numbered {vs} {τ} {υ} {i} {k} a p q x =
          subst (λ (j : ℕ). Outcome text (1 + e.at) (c sc j k a) (ds a) vs τ r.ok r.at υ) p
          (subst (λ (j : ℕ). Outcome text (1 + e.at) (c sc e.used j a) (ds a) vs τ r.ok r.at υ) q x)

  pub unframed : e.ok ≡ true → Framed rule c ds text n e scope row code r scope' row' code'
      → Translates rule c ds text n e scope row code r scope' row' code'
  unframed on f =
      from-here on (λ us scopes sc u i few room pl le.
      let τ : Tables = tables_of e n scope row code in
      let start : Outcome text e.at [] [] us τ e.ok e.at τ =
      all-written on (omega arith) i u refl (begun text τ few room) in
      weaker-holds (λ a vs x. numbered a x) (f us e.at [] [] τ scopes sc pl le start))
    where
      numbered : {sc : Scope} {vs : List Token} {τ υ : Tables} (a : A)
          → Outcome text (1 + e.at) (c sc (e.used + 0) (e.count + 0) a) (ds a) vs τ r.ok r.at υ
          → Outcome text (1 + e.at) (c sc e.used e.count a) (ds a) vs τ r.ok r.at υ
      numbered {sc} {vs} {τ} {υ} a x =
          let p : e.used + 0 ≡ e.used = omega arith in
          let q : e.count + 0 ≡ e.count = omega arith in
          subst (λ (j : ℕ). Outcome text (1 + e.at) (c sc j e.count a) (ds a) vs τ r.ok r.at υ) p
          (subst (λ (j : ℕ). Outcome text (1 + e.at) (c sc (e.used + 0) j a) (ds a) vs τ r.ok r.at υ) q x)

-- an argument that is put in is what it is to be
pub patched : (text : List ℕ) (n : ℕ) (e : EmitState) (scope row code code' : List ℕ) {us : List Token} {low : ℕ}
    (b d : List Instruction) (o a v k target : ℕ) {es : List Declared} {σ : Tables} → Patches e k v code code'
    → ((x y : ℕ) → number_fits (instruction o x) ≡ number_fits (instruction o y))
    → (e.ok ≡ true → k ≡ σ.count + length b) → (e.ok ≡ true → v ≡ target)
    → Outcome text low (b ++ (instruction o a ∷ d)) es us σ e.ok e.at (tables_of e n scope row code)
    → Outcome text low (b ++ (instruction o target ∷ d)) es us σ e.ok e.at (tables_of e n scope row code')
patched text n e scope row code code' {us} {low} b d o a v k target {es} {σ} p fits at-k is h =
    go h
  where
    now-it-is : Outcome text low (b ++ (instruction o v ∷ d)) es us σ e.ok e.at (tables_of e n scope row code')
    now-it-is = p text us n scope row low b d o a es σ (fits a v) at-k h

    go : {at : ℕ} {τ : Tables} → Outcome text low (b ++ (instruction o a ∷ d)) es us σ e.ok at τ
        → Outcome text low (b ++ (instruction o target ∷ d)) es us σ e.ok e.at (tables_of e n scope row code')
    go (over f y) =
        patch-stays text b d es us low σ (tables_of e n scope row code') e.at o v target f f (fits v target) now-it-is
    go (all-written t l i u q w) =
        subst (λ (x : ℕ). Outcome text low (b ++ (instruction o x ∷ d)) es us σ e.ok e.at
        (tables_of e n scope row code')) (is t) now-it-is
