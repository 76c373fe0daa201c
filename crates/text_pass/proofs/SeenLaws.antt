-- What is read of the levels that are kept is all that the next token asks for.
use Prim.Native.Nat.{ℕ, zero, suc, ◌+◌, ◌-◌, ◌≤◌, ◌<◌}
use native.Mathlib.Omega.{arith}
use mathlib.Core.Path.{◌≡◌, refl, sym, ap, ◌∙◌}
use mathlib.Core.Logic.{◌⊎◌, ⊎_elim}
use mathlib.Core.Bool.{Bool, true, false, cond, ◌||◌, true≢false}
use mathlib.Core.List.{List, [], ◌∷◌}
use mathlib.Core.Option.{Option, none, some}
use borrow.Author.Tests.{lt-ltb, eq-eqb, ne_eqb}
use lib.Dec.{eqb, ltb}
use lib.ListN.{length}
use Rattle.lists.proofs.Tests.{decide}
use Rattle.text_parse.specs.Tokens.{Token, is}
use Rattle.text_parse.specs.Grammar.{Scopes, is_withends}
use Rattle.text_tokens.specs.KindsCode.{kind_of}
use Rattle.text_tokens.proofs.KindTests.{is-comma}
use Rattle.text_expr.specs.PhasesCode.{is_operator, operand}
use Rattle.text_expr.specs.LevelsCode.{Level, Action, stay, closes_level, next_argument, astray, opens_level, assigns, innermost, is_open, ended_action, new_action, whole_action, named_action, action, level_over}
use Rattle.text_effect.specs.EffectCode.{name_at, phase_in, bracket_in, operator_kind}
use Rattle.text_window.specs.WindowCode.{cell, Window, Held, innermost_in, asks_level}
use Rattle.text_pass.specs.WalkCode.{Ready}
use Rattle.text_effect.specs.declared.phase.Phase.{Phase}
use Rattle.text_effect.specs.declared.phase.Phase.TheVariants.{Operand, Whole, Bare, Named, Called, Recv1, Measure1, Measure2, Measure3, Measure4, Measure5, New1, New2, New3, New4, New5, New6}
use Rattle.text_effect.proofs.EffectLaws.{by_kind, operator-kind}

-- both no bracket, or both one
data Alike : Option Bool → Option Bool → Type 0 where
  neither : Alike none none
  both : {x y : Bool} → Alike (some x) (some y)

-- Where a token does not ask for the levels, it does the same whatever they are.
plain-ended : (z : Bool) (t : Token) → is "," t ≡ false
    → ended_action (some z) t ≡ cond (is ")" t) closes_level (astray t.at)
unfolding ended_action
plain-ended true t e =
    ap (λ (c : Bool). cond c next_argument (cond (is ")" t) closes_level (astray t.at))) e
plain-ended false t e = refl

ended-alike : (b c : Option Bool) (t : Token) → Alike b c → is "," t ≡ false → ended_action b t ≡ ended_action c t
ended-alike b c t neither e = refl
ended-alike b c t (both {x} {y}) e = plain-ended x t e ∙ sym (plain-ended y t e)

pub or-false : (a b : Bool) → (a || b) ≡ false → (a ≡ false) × (b ≡ false)
or-false true b e = absurd (true≢false e)
or-false false b e = (refl, e)

module _ (scopes : Scopes) (text : List ℕ) (t : Token) (k : ℕ) (h : k ≡ kind_of t.bytes) where
  comma : eqb k 25 ≡ false → is "," t ≡ false
  comma e = by_kind t k h (is "," t) 25 (is-comma t) ∙ e

  whole-alike : (b c : Option Bool) → Alike b c → eqb k 25 ≡ false → whole_action b t ≡ whole_action c t
  unfolding whole_action
  whole-alike b c s e =
      ap (λ (x : Action). cond (is_operator t) (stay operand) x) (ended-alike b c t s (comma e))

  bare_alike : (a d : Bool) (b c : Option Bool) → Alike b c → (eqb k 25 || operator_kind k) ≡ false
      → cond (is_operator t) (new_action a b t) (ended_action b t)
      ≡ cond (is_operator t) (new_action d c t) (ended_action c t)
  bare_alike a d b c s e =
      let f = or-false (eqb k 25) (operator_kind k) e in
      rw (operator-kind t k h, f.1) (ended-alike b c t s (comma f.0))

  alike : (p : Phase) (a d : Bool) (b c : Option Bool) → Alike b c → asks_level p k ≡ false
      → action scopes (phase_in text p) a b t ≡ action scopes (phase_in text p) d c t
  unfolding phase_in action asks_level named_action
  alike Operand a d b c s e = refl
  alike Whole a d b c s e = whole-alike b c s e
  alike Bare a d b c s e = bare_alike a d b c s e
  alike (Named start end) a d b c s e =
      ap
      (λ (x : Action). cond (is "=" t)
      (cond (is_withends scopes (name_at text start end)) (astray start) assigns)
      (cond (is "(" t) (opens_level true) x))
      (whole-alike b c s e)
  alike Called a d b c s e = refl
  alike Recv1 a d b c s e = refl
  alike Measure1 a d b c s e = refl
  alike Measure2 a d b c s e = refl
  alike Measure3 a d b c s e = refl
  alike Measure4 a d b c s e = refl
  alike Measure5 a d b c s e = refl
  alike New1 a d b c s e = refl
  alike New2 a d b c s e = refl
  alike New3 a d b c s e = refl
  alike New4 a d b c s e = refl
  alike New5 a d b c s e = refl
  alike New6 a d b c s e = refl

-- a bracket that is read
bracket-some : (c : Bool) → bracket_in (cond c 2 1) ≡ some c
unfolding bracket_in
bracket-some true = refl
bracket-some false = refl

open-count : (n : ℕ) → ltb 0 n ≡ is_open n
unfolding is_open
open-count zero = refl
open-count (suc n) = lt-ltb 0 (suc n) (omega arith)

some-call : (l : Level) (b : Bool) (m : ℕ) → some l ≡ some (record { of_call = b; outside = m }) → l.of_call ≡ b
some-call l b m e = ap call_in e
  where
    call_in : Option Level → Bool
    call_in none = false
    call_in (some x) = x.of_call

module _ (room low depth : ℕ) (counts brackets : List ℕ) (n : ℕ) where
  -- no bracket is read where there is none
  read_alike : (ls : List Level) → Window room low depth counts brackets n ls
      → Alike (bracket_in (innermost_in low depth brackets)) (innermost ls)
  unfolding innermost_in innermost bracket_in
  read_alike [] w = rw (eq-eqb depth 0 w.deep) neither
  read_alike (l ∷ ls) w =
      let e : depth ≡ suc (length ls) = w.deep in
      rw (ne_eqb depth 0 (λ z. omega arith), bracket-some (eqb (cell brackets low (depth - 1)) 2)) both

  -- levels that are kept are read
  read_count : (ls : List Level) → Window room low depth counts brackets n ls → Held room low depth
      → ltb 0 (cell counts low depth) ≡ is_open n
  read_count ls w h =
      ap (ltb 0) ((w.right depth h.reach h.below).count (sym w.deep)) ∙ open-count n

  read-bracket : (ls : List Level) → Window room low depth counts brackets n ls → Held room low depth
      → bracket_in (innermost_in low depth brackets) ≡ innermost ls
  unfolding innermost_in innermost bracket_in level_over
  read-bracket [] w h = rw (eq-eqb depth 0 w.deep) refl
  read-bracket (l ∷ ls) w h =
      let e : depth ≡ suc (length ls) = w.deep in
      let one : depth - 1 ≡ length ls = omega arith in
      let kept : low ≤ length ls = omega (arith, h.under (omega arith)) in
      let below : depth < low + room = h.below in
      let over = (w.right (length ls) kept (omega arith)).level (omega arith) in
      let call : l.of_call ≡ eqb (cell brackets low (length ls)) 2 =
      some-call l _ _ (sym (rw (eq-eqb (length ls) (length ls) refl) refl) ∙ over) in
      rw (ne_eqb depth 0 (λ z. omega arith))
      (ap (λ (d : ℕ). bracket_in (cond (eqb (cell brackets low d) 2) 2 1)) one
      ∙ bracket-some (eqb (cell brackets low (length ls)) 2) ∙ ap some (sym call))

-- what is read serves as well as what is open
pub seen : (scopes : Scopes) (text : List ℕ) (t : Token) (k : ℕ) → k ≡ kind_of t.bytes → (p : Phase)
    (room low depth : ℕ)
    (counts brackets : List ℕ) (n : ℕ) (ls : List Level) → Window room low depth counts brackets n ls → Ready p k room
    low depth
    → action scopes (phase_in text p) (ltb 0 (cell counts low depth)) (bracket_in (innermost_in low depth brackets)) t
    ≡ action scopes (phase_in text p) (is_open n) (innermost ls) t
seen scopes text t k h p room low depth counts brackets n ls w ready =
    ⊎_elim
    (λ e.
    ap (λ (a : Bool). action scopes (phase_in text p) a (bracket_in (innermost_in low depth brackets)) t)
    (read_count room low depth counts brackets n ls w (ready e))
    ∙ ap (λ (b : Option Bool). action scopes (phase_in text p) (is_open n) b t)
    (read-bracket room low depth counts brackets n ls w (ready e)))
    (λ e. alike scopes text t k h p _ _ _ _ (read_alike room low depth counts brackets n ls w) e)
    (decide (asks_level p k))
