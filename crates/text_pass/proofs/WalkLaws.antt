-- The pass by places is the pass over the tokens.
use Prim.Native.Nat.{ℕ, zero, suc, ◌+◌, ◌-◌, ◌≤◌, ◌<◌}
use native.Mathlib.Omega.{arith}
use mathlib.Core.Path.{◌≡◌, refl, sym, ap, ◌∙◌, subst}
use mathlib.Core.Logic.{◌⊎◌, inl, inr, ⊎_elim}
use mathlib.Core.Bool.{Bool, true, false, ◌||◌}
use mathlib.Core.List.{List, [], ◌∷◌}
use mathlib.Core.Option.{Option, none, some}
use borrow.Author.Tests.{eq-eqb}
use lib.ListN.{length}
use Rattle.lists.proofs.Laws.{same-equal}
use Rattle.lists.proofs.Tests.{passes, cond_both}
use Rattle.text.specs.Tree.{Name}
use Rattle.text_parse.specs.Tokens.{Token, is, is_name, is_numeral, name_of}
use Rattle.text_parse.specs.Grammar.{Reading, read, leaves, first, rest, Scopes, is_withends}
use Rattle.text_tokens.specs.Places.{tokens_at}
use Rattle.text_tokens.specs.KindsCode.{kind_of}
use Rattle.text_tokens.specs.NextCode.{NextToken, next_at}
use Rattle.text_tokens.proofs.KindTests.{is-end}
use Rattle.text_tokens.proofs.Tokenwise.{next-token}
use Rattle.text_types.specs.SaysCode.{Passed}
use Rattle.text_types.proofs.Answers.{passed-next}
use Rattle.text_expr.specs.PhasesCode.{Phase, operand, whole, bare, named, called, recv₁, measure₁, measure₂, measure₃, measure₄, measure₅, new₁, new₂, new₃, new₄, new₅, new₆, Step, on, is_operator, follow, pass}
use Rattle.text_expr.specs.LevelsCode.{Level, opens, Action, stay, assigns, unassigns, opens_level, closes_level, next_argument, astray, beyond, innermost, is_open, ended_action, new_action, whole_action, operand_action, named_action, must_action, alloc_action, action, less_one, phase_after, outside_of, count_after, without_level, levels_after, applied}
use Rattle.text_expr.proofs.Levels.{step-level}
use Rattle.text_expr.proofs.Notes.{Continues}
use Rattle.text_pass.specs.WalkCode.{State, begins, doing, after, Leads, there, further}

-- The token that ends the text ends the pass.
ended-stops : (b : Option Bool) (i : ℕ) → Continues (ended_action b (record { bytes = []; at = i })) → ⊥
unfolding ended_action
ended-stops none i g = g
ended-stops (some true) i g = g
ended-stops (some false) i g = g

end-stops : (scopes : Scopes) (p : Phase) (a : Bool) (b : Option Bool) (i : ℕ)
    → Continues (action scopes p a b (record { bytes = []; at = i })) → ⊥
unfolding action operand_action whole_action named_action must_action alloc_action is_operator is_name is_numeral
end-stops scopes operand a b i g = g
end-stops scopes whole a b i g = ended-stops b i g
end-stops scopes bare a b i g = ended-stops b i g
end-stops scopes (named x) a b i g = ended-stops b i g
end-stops scopes called a b i g = g
end-stops scopes recv₁ a b i g = g
end-stops scopes measure₁ a b i g = g
end-stops scopes measure₂ a b i g = g
end-stops scopes measure₃ a b i g = g
end-stops scopes measure₄ a b i g = g
end-stops scopes measure₅ a b i g = g
end-stops scopes new₁ a b i g = g
end-stops scopes new₂ a b i g = g
end-stops scopes new₃ a b i g = g
end-stops scopes new₄ a b i g = g
end-stops scopes new₅ a b i g = g
end-stops scopes new₆ a b i g = g

no_bytes : (t : Token) → kind_of t.bytes ≡ 32 → t.bytes ≡ []
no_bytes t e = same-equal t.bytes [] (passes (is-end t ∙ eq-eqb (kind_of t.bytes) 32 e))

-- What an action that goes on makes of what is open
goes-applied : (a : Action) (n : ℕ) (ls : List Level) → Continues a
    → applied a n ls ≡ on (phase_after a) (opens (count_after a n ls) (levels_after a n ls))
unfolding applied phase_after count_after levels_after
goes-applied (stay p) n ls g = refl
goes-applied assigns n ls g = refl
goes-applied unassigns n ls g = refl
goes-applied (opens_level b) n ls g = refl
goes-applied closes_level n ls g = refl
goes-applied next_argument n ls g = refl
goes-applied (astray i) n ls g = absurd g
goes-applied beyond n ls g = absurd g

-- A call's bracket is open where the phase says so, and a level is closed only where there is one.
abbrev NotCalled : Phase → Type 0
NotCalled p = p ≡ called → ⊥

abbrev Orderly : Type 0 → Action → Type 0
Orderly C (stay p) = NotCalled p
Orderly C assigns = Unit {0}
Orderly C unassigns = Unit {0}
Orderly C (opens_level b) = Unit {0}
Orderly C closes_level = C
Orderly C next_argument = Unit {0}
Orderly C (astray i) = Unit {0}
Orderly C beyond = Unit {0}

abbrev is_called : Phase → ℕ
is_called operand = 0
is_called whole = 0
is_called bare = 0
is_called (named x) = 0
is_called called = 1
is_called recv₁ = 0
is_called measure₁ = 0
is_called measure₂ = 0
is_called measure₃ = 0
is_called measure₄ = 0
is_called measure₅ = 0
is_called new₁ = 0
is_called new₂ = 0
is_called new₃ = 0
is_called new₄ = 0
is_called new₅ = 0
is_called new₆ = 0

other : (p : Phase) → is_called p ≡ 0 → NotCalled p
other p e q = let z : ◌≡◌ {A = ℕ} 0 1 = sym e ∙ ap is_called q in omega arith

module _ (C : Type 0) where
  operand-orderly : (t : Token) → Orderly C (operand_action t)
  unfolding operand_action
  operand-orderly t =
      cond_both (Orderly C) (is "new" t) (other new₁ refl)
      (cond_both (Orderly C) (is_numeral t) (other whole refl)
      (cond_both (Orderly C) (is "true" t) (other whole refl)
      (cond_both (Orderly C) (is "false" t) (other whole refl)
      (cond_both (Orderly C) (is "(" t) tt
      (cond_both (Orderly C) (is "recv" t) (other recv₁ refl)
      (cond_both (Orderly C) (is "measure" t) (other measure₁ refl)
      (cond_both (Orderly C) (is_name t) (other (named (name_of t)) refl) tt)))))))

  ended-orderly : (b : Option Bool) (t : Token) → ((x : Bool) → b ≡ some x → C) → Orderly C (ended_action b t)
  unfolding ended_action
  ended-orderly none t f = tt
  ended-orderly (some true) t f =
      cond_both (Orderly C) (is "," t) tt (cond_both (Orderly C) (is ")" t) (f true refl) tt)
  ended-orderly (some false) t f = cond_both (Orderly C) (is ")" t) (f false refl) tt

  whole-orderly : (b : Option Bool) (t : Token) → ((x : Bool) → b ≡ some x → C) → Orderly C (whole_action b t)
  unfolding whole_action
  whole-orderly b t f = cond_both (Orderly C) (is_operator t) (other operand refl) (ended-orderly b t f)

  new-orderly : (a : Bool) (b : Option Bool) (t : Token) → Orderly C (new_action a b t)
  unfolding new_action
  new-orderly true b t = tt
  new-orderly false none t = tt
  new-orderly false (some b) t = tt

  named-orderly : (scopes : Scopes) (x : Name) (b : Option Bool) (t : Token) → ((y : Bool) → b ≡ some y → C)
      → Orderly C (named_action scopes x b t)
  unfolding named_action
  named-orderly scopes x b t f =
      cond_both (Orderly C) (is "=" t) (cond_both (Orderly C) (is_withends scopes x) tt tt)
      (cond_both (Orderly C) (is "(" t) tt (whole-orderly b t f))

  must-orderly : (ok : Bool) (p : Phase) (t : Token) → is_called p ≡ 0 → Orderly C (must_action ok p t)
  unfolding must_action
  must-orderly ok p t e = cond_both (Orderly C) ok (other p e) tt

  alloc-orderly : (t : Token) → Orderly C (alloc_action t)
  unfolding alloc_action
  alloc-orderly t =
      cond_both (Orderly C) (is "qbit" t) (other new₅ refl)
      (cond_both (Orderly C) (is "channel" t) (other new₂ refl)
      (cond_both (Orderly C) (is "channelEnd" t) (other new₂ refl) tt))

  orderly : (scopes : Scopes) (p : Phase) (a : Bool) (b : Option Bool) (t : Token) → ((x : Bool) → b ≡ some x → C)
      → (p ≡ called → C) → Orderly C (action scopes p a b t)
  unfolding action
  orderly scopes operand a b t f g = operand-orderly t
  orderly scopes whole a b t f g = whole-orderly b t f
  orderly scopes bare a b t f g =
      cond_both (Orderly C) (is_operator t) (new-orderly a b t) (ended-orderly b t f)
  orderly scopes (named x) a b t f g = named-orderly scopes x b t f
  orderly scopes called a b t f g = cond_both (Orderly C) (is ")" t) (g refl) (operand-orderly t)
  orderly scopes recv₁ a b t f g = cond_both (Orderly C) (is "(" t) tt tt
  orderly scopes measure₁ a b t f g = must-orderly (is "(" t) measure₂ t refl
  orderly scopes measure₂ a b t f g = must-orderly (is "StdBasis" t) measure₃ t refl
  orderly scopes measure₃ a b t f g = must-orderly (is "," t) measure₄ t refl
  orderly scopes measure₄ a b t f g = must-orderly (is_name t) measure₅ t refl
  orderly scopes measure₅ a b t f g = must-orderly (is ")" t) whole t refl
  orderly scopes new₁ a b t f g = alloc-orderly t
  orderly scopes new₂ a b t f g = must-orderly (is "[" t) new₃ t refl
  orderly scopes new₃ a b t f g = must-orderly (is "int" t || (is "boolean" t || is "qbit" t)) new₄ t refl
  orderly scopes new₄ a b t f g = must-orderly (is "]" t) new₅ t refl
  orderly scopes new₅ a b t f g = must-orderly (is "(" t) new₆ t refl
  orderly scopes new₆ a b t f g = must-orderly (is ")" t) bare t refl

-- where the innermost bracket is one, there is a level
some_level : (ls : List Level) (x : Bool) → innermost ls ≡ some x → 0 < length ls
unfolding innermost
some_level [] x e = let z : ◌≡◌ {A = ℕ} 0 1 = cc in omega arith
some_level (l ∷ ls) x e = omega arith

-- after an action that goes on, a call is open where the phase says so
still_open : (a : Action) (n : ℕ) (ls : List Level) → Continues a → Orderly (0 < length ls) a → phase_after a ≡ called
    → 0 < length (levels_after a n ls)
unfolding phase_after levels_after
still_open (stay p) n ls g o e = absurd (o e)
still_open assigns n ls g o e = absurd (other operand refl e)
still_open unassigns n ls g o e = absurd (other operand refl e)
still_open (opens_level b) n ls g o e = omega arith
still_open closes_level n ls g o e = absurd (other whole refl e)
still_open next_argument n ls g o e = absurd (other operand refl e)
still_open (astray i) n ls g o e = absurd g
still_open beyond n ls g o e = absurd g

-- how many brackets and assignments are open in all
abbrev outsides : List Level → ℕ
outsides [] = 0
outsides (l ∷ ls) = l.outside + outsides ls

abbrev weight : ℕ → List Level → ℕ
weight n ls = n + (outsides ls + length ls)

heavier : (a : Action) (n : ℕ) (ls : List Level) → Continues a
    → weight (count_after a n ls) (levels_after a n ls) ≤ suc (weight n ls)
unfolding count_after levels_after less_one outside_of without_level
heavier (stay p) n ls g = omega arith
heavier assigns n ls g = omega arith
heavier unassigns zero ls g = omega arith
heavier unassigns (suc n) ls g = omega arith
heavier (opens_level b) n ls g = omega arith
heavier closes_level n [] g = omega arith
heavier closes_level n (l ∷ ls) g = omega arith
heavier next_argument n ls g = omega arith
heavier (astray i) n ls g = absurd g
heavier beyond n ls g = absurd g

module _ (scopes : Scopes) (text : List ℕ) where
  -- One token

  -- the tokens from the state on
  tokens : (i : ℕ) → tokens_at text i ≡ first (tokens_at text i) ∷ rest (tokens_at text i)
  tokens i =
      let n : NextToken text i (next_at text i) = next-token text i in
      n.reads ∙ sym (ap (λ (ts : List Token). first ts ∷ rest ts) n.reads)

  pub goes-kind : (s : State) → Continues (doing scopes text s) → kind_of (first (tokens_at text s.at)).bytes ≡ 32 → ⊥
  goes-kind s g e =
      let t : Token = first (tokens_at text s.at) in
      end-stops scopes s.phase (is_open s.count) (innermost s.levels) t.at
      (subst
      (λ (bs : List ℕ). Continues (action scopes s.phase (is_open s.count) (innermost s.levels)
      (record { bytes = bs; at = t.at })))
      (no_bytes t e) g)

  pub goes-passed : (s : State) → Continues (doing scopes text s) → Passed text s.at (after scopes text s).at
  goes-passed s g =
      let n : NextToken text s.at (next_at text s.at) = next-token text s.at in
      passed-next text s.at (next_at text s.at) n
      (λ e. goes-kind s g (ap (λ (ts : List Token). kind_of (first ts).bytes) n.reads ∙ sym n.kind ∙ e))

  abbrev pub pass_from : State → Reading (Unit {0})
  pass_from s = pass scopes (tokens_at text s.at) s.phase (opens s.count s.levels)

  pass_step : (s : State)
      → pass_from s
      ≡ follow (pass scopes (rest (tokens_at text s.at))) (first (tokens_at text s.at))
      (rest (tokens_at text s.at)) (applied (doing scopes text s) s.count s.levels)
  unfolding pass
  pass_step s =
      let t : Token = first (tokens_at text s.at) in
      let ts : List Token = rest (tokens_at text s.at) in
      ap (λ (us : List Token). pass scopes us s.phase (opens s.count s.levels)) (tokens s.at)
      ∙ ap (λ (x : Step). follow (pass scopes ts) t ts x) (step-level scopes s.phase s.count s.levels t)

  pass-after : (s : State) → Continues (doing scopes text s) → pass_from s ≡ pass_from (after scopes text s)
  unfolding follow
  pass-after s g =
      let q : State = after scopes text s in
      pass_step s
      ∙ ap
      (λ (x : Step). follow (pass scopes (rest (tokens_at text s.at))) (first (tokens_at text s.at))
      (rest (tokens_at text s.at)) x)
      (goes-applied (doing scopes text s) s.count s.levels g)
      ∙ ap (λ (us : List Token). pass scopes us q.phase (opens q.count q.levels)) (goes-passed s g).after

  -- where it does not go on
  pub pass-astray : (s : State) (i : ℕ) → doing scopes text s ≡ astray i → pass_from s ≡ leaves i
  unfolding follow applied
  pass-astray s i e =
      pass_step s
      ∙ ap
      (λ (a : Action). follow (pass scopes (rest (tokens_at text s.at))) (first (tokens_at text s.at))
      (rest (tokens_at text s.at)) (applied a s.count s.levels)) e

  pub pass-beyond : (s : State) → doing scopes text s ≡ beyond → pass_from s ≡ read tt (tokens_at text s.at)
  unfolding follow applied
  pass-beyond s e =
      pass_step s
      ∙ ap
      (λ (a : Action). follow (pass scopes (rest (tokens_at text s.at))) (first (tokens_at text s.at))
      (rest (tokens_at text s.at)) (applied a s.count s.levels)) e
      ∙ ap (λ (us : List Token). read tt us) (sym (tokens s.at))

  -- Some tokens

  pub leads-on : {s t : State} → Leads scopes text s t → Continues (doing scopes text t)
      → Leads scopes text s (after scopes text t)
  leads-on there g = further g there
  leads-on (further h l) g = further h (leads-on l g)

  pub leads-pass : {s t : State} → Leads scopes text s t → pass_from s ≡ pass_from t
  leads-pass there = refl
  leads-pass {s} (further g l) = pass-after s g ∙ leads-pass l

  pub leads-moved : {s t : State} → Leads scopes text s t
      → (s ≡ t) ⊎ ((s.at < t.at) × (t.at ≤ length text))
  leads-moved there = inl refl
  leads-moved {s} {t} (further g l) =
      let p : Passed text s.at (after scopes text s).at = goes-passed s g in
      let on : s.at < (after scopes text s).at = p.onward in
      let in-text : (after scopes text s).at ≤ length text = p.within in
      ⊎_elim (λ e. inr (subst (λ (q : State). (s.at < q.at) × (q.at ≤ length text)) e (on, in-text)))
      (λ h. let more : (after scopes text s).at < t.at = h.0 in inr ((omega arith, h.1))) (leads-moved l)

  -- a state that leads to a later place goes on
  pub leads_goes : {s t : State} → Leads scopes text s t → s.at < t.at
      → Continues (doing scopes text s) × Leads scopes text (after scopes text s) t
  leads_goes there h = absurd (omega arith)
  leads_goes (further g l) h = (g, l)

  leads-weight : {s t : State} → Leads scopes text s t
      → weight t.count t.levels + s.at ≤ weight s.count s.levels + t.at
  leads-weight there = omega arith
  leads-weight {s} {t} (further g l) =
      let p : Passed text s.at (after scopes text s).at = goes-passed s g in
      let on : s.at < (after scopes text s).at = p.onward in
      let more : weight t.count t.levels + (after scopes text s).at
      ≤ weight (after scopes text s).count (after scopes text s).levels + t.at = leads-weight l in
      let one : weight (after scopes text s).count (after scopes text s).levels ≤ suc
      (weight s.count s.levels) =
      heavier (doing scopes text s) s.count s.levels g in omega arith

  -- a call is open where the phase says so
  abbrev CallOpen : State → Type 0
  CallOpen s = s.phase ≡ called → 0 < length s.levels

  in_order : (s : State) → CallOpen s → Orderly (0 < length s.levels) (doing scopes text s)
  in_order s c =
      orderly (0 < length s.levels) scopes s.phase (is_open s.count) (innermost s.levels)
      (first (tokens_at text s.at)) (λ x e. some_level s.levels x e) c

  leads-open : {s t : State} → CallOpen s → Leads scopes text s t → CallOpen t
  leads-open c there = c
  leads-open {s} c (further g l) =
      leads-open (still_open (doing scopes text s) s.count s.levels g (in_order s c)) l

  -- From the start of an expression on
  module _ (from : ℕ) (t : State) (l : Leads scopes text (begins from) t) where
    pub few-open : t.count ≤ t.at
    few-open = omega (arith, leads-weight l)

    pub few-levels : length t.levels ≤ t.at
    few-levels = omega (arith, leads-weight l)

    pub closes-one : doing scopes text t ≡ closes_level → 0 < length t.levels
    closes-one e =
        subst (Orderly (0 < length t.levels)) e
        (in_order t (leads-open (λ q. absurd (other operand refl q)) l))
