-- A level is found again by going over the tokens once more.
use Prim.Native.Nat.{ℕ, zero, suc, ◌≤◌, ◌<◌}
use Prim.Native.String.{String}
use native.Mathlib.Omega.{arith}
use mathlib.Core.Bool.{Bool, true, false, cond, ◌||◌}
use mathlib.Core.Path.{◌≡◌, refl, sym, ap, ◌∙◌, subst}
use mathlib.Core.List.{List, [], ◌∷◌}
use mathlib.Core.Option.{Option, none, some}
use lib.ListN.{length}
use lib.Dec.{T, eqb, eqb→eq, eqb_refl}
use Rattle.lists.specs.Lists.{same}
use Rattle.lists.proofs.Tests.{passes, passed, failed}
use Rattle.lists.proofs.Laws.{same-equal}
use Rattle.text.specs.Tree.{ascii, Name}
use Rattle.text_parse.specs.Tokens.{Token, is}
use Rattle.text_parse.specs.Grammar.{Scopes, is_withends}
use Rattle.text_expr.specs.PhasesCode.{Phase, operand, whole, bare, named, called, recv₁, measure₁, measure₂, measure₃, measure₄, measure₅, new₁, new₂, new₃, new₄, new₅, new₆, is_operator}
use Rattle.text_expr.specs.LevelsCode.{Level, Action, stay, assigns, unassigns, opens_level, closes_level, next_argument, astray, beyond, innermost, is_open, ended_action, new_action, whole_action, operand_action, named_action, action, less_one, count_after, levels_after, outside_of, without_level, Note, known, noted, note, level_over}

-- the pass goes on
abbrev pub Continues : Action → Type 0
Continues (stay p) = Unit {0}
Continues assigns = Unit {0}
Continues unassigns = Unit {0}
Continues (opens_level b) = Unit {0}
Continues closes_level = Unit {0}
Continues next_argument = Unit {0}
Continues (astray i) = ⊥
Continues beyond = ⊥

-- a closing bracket is no comma
comma-or-not : (t : Token) → is ")" t ≡ true → is "," t ≡ false
comma-or-not t e = by (is "," t) refl
  where
    by : (b : Bool) → is "," t ≡ b → b ≡ false
    by true c =
        absurd
        (subst (λ (bs : List ℕ). T (same bs (ascii ","))) (same-equal t.bytes (ascii ")") (passes e)) (passes c))
    by false c = refl

-- Where the pass goes on, what a token does needs no knowledge of the levels.
ended-known : (b : Option Bool) (t : Token) → Continues (ended_action b t) → ended_action b t ≡ ended_action (some true) t
unfolding ended_action
ended-known none t g = absurd g
ended-known (some true) t g = refl
ended-known (some false) t g = by (is ")" t) refl g
  where
    by : (c : Bool) → is ")" t ≡ c → Continues (cond c closes_level (astray t.at))
        → cond c closes_level (astray t.at) ≡ cond (is "," t) next_argument (cond c closes_level (astray t.at))
    by true e g = sym (ap (λ (x : Bool). cond x next_argument closes_level) (comma-or-not t e))
    by false e g = absurd g

new-known : (a : Bool) (b : Option Bool) (t : Token) → Continues (new_action a b t) → new_action a b t ≡ unassigns
unfolding new_action
new-known true b t g = refl
new-known false none t g = absurd g
new-known false (some b) t g = absurd g

whole-known : (b : Option Bool) (t : Token) → Continues (whole_action b t) → whole_action b t ≡ whole_action (some true) t
unfolding whole_action
whole-known b t g = by (is_operator t) g
  where
    by : (o : Bool) → Continues (cond o (stay operand) (ended_action b t))
        → cond o (stay operand) (ended_action b t) ≡ cond o (stay operand) (ended_action (some true) t)
    by true g = refl
    by false g = ended-known b t g

bare-known : (a : Bool) (b : Option Bool) (t : Token)
    → Continues (cond (is_operator t) (new_action a b t) (ended_action b t))
    → cond (is_operator t) (new_action a b t) (ended_action b t)
    ≡ cond (is_operator t) (new_action true (some true) t) (ended_action (some true) t)
unfolding new_action
bare-known a b t g = by (is_operator t) g
  where
    by : (o : Bool) → Continues (cond o (new_action a b t) (ended_action b t))
        → cond o (new_action a b t) (ended_action b t) ≡ cond o unassigns (ended_action (some true) t)
    by true g = new-known a b t g
    by false g = ended-known b t g

named-known : (scopes : Scopes) (x : Name) (b : Option Bool) (t : Token) → Continues (named_action scopes x b t)
    → named_action scopes x b t ≡ named_action scopes x (some true) t
unfolding named_action
named-known scopes x b t g = by (is "=" t) (is "(" t) g
  where
    assigned : Action
    assigned = cond (is_withends scopes x) (astray x.at) assigns

    by : (e c : Bool) → Continues (cond e assigned (cond c (opens_level true) (whole_action b t)))
        → cond e assigned (cond c (opens_level true) (whole_action b t))
        ≡ cond e assigned (cond c (opens_level true) (whole_action (some true) t))
    by true c g = refl
    by false true g = refl
    by false false g = whole-known b t g

pub action-known : (scopes : Scopes) (p : Phase) (a : Bool) (b : Option Bool) (t : Token)
    → Continues (action scopes p a b t) → action scopes p a b t ≡ known scopes p t
unfolding action known
action-known scopes operand a b t g = refl
action-known scopes whole a b t g = whole-known b t g
action-known scopes bare a b t g = bare-known a b t g
action-known scopes (named x) a b t g = named-known scopes x b t g
action-known scopes called a b t g = refl
action-known scopes recv₁ a b t g = refl
action-known scopes measure₁ a b t g = refl
action-known scopes measure₂ a b t g = refl
action-known scopes measure₃ a b t g = refl
action-known scopes measure₄ a b t g = refl
action-known scopes measure₅ a b t g = refl
action-known scopes new₁ a b t g = refl
action-known scopes new₂ a b t g = refl
action-known scopes new₃ a b t g = refl
action-known scopes new₄ a b t g = refl
action-known scopes new₅ a b t g = refl
action-known scopes new₆ a b t g = refl

-- What a note says of n assignments and the levels ls: how many levels there are; where there are d, how many
-- assignments are open; where there are more, the level over the d-th, and that as many are open outside it.
pub record Right (d : ℕ) (r : Note) (n : ℕ) (ls : List Level) : Type 0 where
  pub depth : r.depth ≡ length ls
  pub count : length ls ≡ d → r.count ≡ n
  pub level : d < length ls → level_over d ls ≡ some (record { of_call = r.of_call; outside = r.outside })
  pub same : d < length ls → r.count ≡ r.outside

-- the first note, before any token
pub right-begins : (d : ℕ) (r : Note) → r.depth ≡ 0 → r.count ≡ 0 → Right d r 0 []
right-begins d r e c =
    record { depth = e; count = λ z. c; level = λ l. absurd (omega arith); same = λ l. absurd (omega arith) }

equal-yes : (a b : ℕ) → a ≡ b → eqb a b ≡ true
equal-yes a b e = passed (eqb a b) (subst (λ (x : ℕ). T (eqb a x)) e (eqb_refl a))

equal-no : (a b : ℕ) → (a ≡ b → ⊥) → eqb a b ≡ false
equal-no a b f = failed (eqb a b) (λ t. f (eqb→eq a b t))

-- another number of assignments within the innermost level
noted-right : (d : ℕ) (r : Note) (n m n' : ℕ) (ls : List Level) → Right d r n ls → (r.count ≡ n → m ≡ n')
    → Right d (noted d r m) n' ls
noted-right d r n m n' ls h f =
    let depth : r.depth ≡ length ls = h.depth in
    record {
      depth = h.depth;
      count = λ e. ap (λ (b : Bool). cond b m r.count) (equal-yes r.depth d (depth ∙ e)) ∙ f (h.count e);
      level = h.level;
      same = λ l.
          ap (λ (b : Bool). cond b m r.count) (equal-no r.depth d (λ e. absurd (omega arith))) ∙ h.same l;
    }

-- a bracket is opened
module _ (d : ℕ) (r : Note) (n : ℕ) (ls : List Level) (h : Right d r n ls) (b : Bool) where
  opened-level : (x : Bool) → eqb r.depth d ≡ x → d < suc (length ls)
      → cond (eqb (length ls) d) (some (record { of_call = b; outside = n })) (level_over d ls)
      ≡ some (record { of_call = cond x b r.of_call; outside = cond x r.count r.outside })
  opened-level true e l =
      let here : r.depth ≡ d = eqb→eq r.depth d (passes e) in
      let same : length ls ≡ d = sym h.depth ∙ here in
      ap (λ (y : Bool). cond y (some (record { of_call = b; outside = n })) (level_over d ls))
      (equal-yes (length ls) d same)
      ∙ ap (λ (m : ℕ). some (record { of_call = b; outside = m })) (sym (h.count same))
  opened-level false e l =
      let depth : r.depth ≡ length ls = h.depth in
      let apart : length ls ≡ d → ⊥ = λ q. subst T (sym (equal-yes r.depth d (depth ∙ q)) ∙ e) tt in
      let more : d < length ls = further apart l in
      ap (λ (y : Bool). cond y (some (record { of_call = b; outside = n })) (level_over d ls))
      (equal-no (length ls) d apart)
      ∙ h.level more
    where
      further : (length ls ≡ d → ⊥) → d < suc (length ls) → d < length ls
      further apart l = omega arith

  opened-same : (x : Bool) → eqb r.depth d ≡ x → d < suc (length ls)
      → r.count ≡ cond x r.count r.outside
  opened-same true e l = refl
  opened-same false e l =
      let depth : r.depth ≡ length ls = h.depth in
      let apart : length ls ≡ d → ⊥ = λ q. subst T (sym (equal-yes r.depth d (depth ∙ q)) ∙ e) tt in
      h.same (further apart l)
    where
      further : (length ls ≡ d → ⊥) → d < suc (length ls) → d < length ls
      further apart l = omega arith

  opens-right : Right d (note d (opens_level b) r) 0 (record { of_call = b; outside = n } ∷ ls)
  unfolding note level_over
  opens-right =
      let depth : r.depth ≡ length ls = h.depth in
      record {
        depth = ap suc depth;
        count = λ e. ap (λ (y : Bool). cond y zero r.count) (equal-yes (suc r.depth) d (ap suc depth ∙ e));
        level = λ l. opened-level (eqb r.depth d) refl l;
        same = λ l.
            ap (λ (y : Bool). cond y zero r.count) (equal-no (suc r.depth) d (λ e. absurd (omega arith)))
            ∙ opened-same (eqb r.depth d) refl l;
      }

-- the innermost bracket is closed
some-outside : (l : Level) (r : Note) → some l ≡ some (record { of_call = r.of_call; outside = r.outside })
    → l.outside ≡ r.outside
some-outside l r e = ap outside_in e
  where
    outside_in : Option Level → ℕ
    outside_in none = 0
    outside_in (some x) = x.outside

closes-right : (d : ℕ) (r : Note) (n : ℕ) (l : Level) (ls : List Level) → Right d r n (l ∷ ls)
    → Right d (note d closes_level r) l.outside ls
unfolding note level_over less_one
closes-right d r n l ls h = record {
  depth = ap less_one h.depth;
  count = λ e.
      let inside : d < suc (length ls) = omega arith in
      h.same inside
      ∙ sym
      (some-outside l r
      (sym (ap (λ (y : Bool). cond y (some l) (level_over d ls)) (equal-yes (length ls) d e)) ∙ h.level inside));
  level = λ m.
      let inside : d < suc (length ls) = omega arith in
      sym (ap (λ (y : Bool). cond y (some l) (level_over d ls)) (equal-no (length ls) d (λ e. absurd (omega arith))))
      ∙ h.level inside;
  same = λ m. h.same (omega arith);
}

-- Every action with which the pass goes on; one that closes a level has one to close.
pub note-right : (d : ℕ) (r : Note) (n : ℕ) (ls : List Level) (a : Action) → Right d r n ls → Continues a
    → (a ≡ closes_level → 0 < length ls)
    → Right d (note d a r) (count_after a n ls) (levels_after a n ls)
unfolding note count_after levels_after outside_of without_level
note-right d r n ls (stay p) h g c = h
note-right d r n ls assigns h g c = noted-right d r n (suc r.count) (suc n) ls h (λ e. ap suc e)
note-right d r n ls unassigns h g c = noted-right d r n (less_one r.count) (less_one n) ls h (λ e. ap less_one e)
note-right d r n ls (opens_level b) h g c = opens-right d r n ls h b
note-right d r n [] closes_level h g c = absurd (none_below (c refl))
  where
    none_below : 0 < 0 → ⊥
    none_below l = omega arith
note-right d r n (l ∷ ls) closes_level h g c = closes-right d r n l ls h
note-right d r n ls next_argument h g c = noted-right d r n zero zero ls h (λ e. refl)
note-right d r n ls (astray i) h g c = absurd g
note-right d r n ls beyond h g c = absurd g
