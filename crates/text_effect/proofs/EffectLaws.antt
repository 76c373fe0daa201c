-- What a token does, by its kind.
use Prim.Native.Nat.{ℕ}
use native.Mathlib.Omega.{arith}
use mathlib.Core.Path.{◌≡◌, refl, sym, ap, ◌∙◌}
use mathlib.Core.Bool.{Bool, true, false, cond, ◌&&◌, ◌||◌}
use mathlib.Core.Option.{Option, none, some}
use borrow.Author.Tests.{eqb-true, ne_eqb}
use lib.Dec.{eqb}
use Rattle.lists.proofs.Tests.{passes}
use Rattle.text.specs.Tree.{Name}
use Rattle.text_parse.specs.Tokens.{Token, is, is_name, is_numeral, name_of}
use Rattle.text_parse.specs.Grammar.{Scopes, is_withends}
use Rattle.text_tokens.specs.KindsCode.{kind_of}
use Rattle.text_tokens.proofs.KindTests.{is-int, is-boolean, is-qbit, is-channel, is-channel-end, is-new, is-measure, is-recv, is_true, is_false, is_open, is-close, is-comma, is-plus, is-minus, is-assign, is-equals, is-less, is-name, is_number}
use Rattle.text_expr.specs.PhasesCode.{operand, whole, named, recv₁, measure₁, new₁, new₂, new₅, is_operator}
use Rattle.text_expr.specs.LevelsCode.{Action, stay, assigns, unassigns, opens_level, closes_level, next_argument, astray, beyond, ended_action, new_action, whole_action, operand_action, named_action, alloc_action}
use Rattle.text_effect.specs.EffectCode.{bracket_in, operator_kind}

-- one result for two tests, and for three
or-two : (a b : Bool) (x y : Action) → cond a x (cond b x y) ≡ cond (a || b) x y
or-two true b x y = refl
or-two false b x y = refl

or-three : (a b c : Bool) (x y : Action) → cond a x (cond b x (cond c x y)) ≡ cond (a || (b || c)) x y
or-three true b c x y = refl
or-three false b c x y = or-two b c x y

-- a token after an expression, by the tests of it: a closing bracket is no comma
ended_by : (z c d e : Bool) (x : Action) → (d ≡ true → e ≡ false)
    → cond z beyond (cond c (cond e next_argument (cond d closes_level x)) (cond d closes_level x))
    ≡ cond z beyond (cond d closes_level (cond (c && e) next_argument x))
ended_by true c d e x f = refl
ended_by false true true true x f = absurd (passes (sym (f refl)))
ended_by false true true false x f = refl
ended_by false true false true x f = refl
ended_by false true false false x f = refl
ended_by false false true e x f = refl
ended_by false false false e x f = refl

ended-choice : (z c : Bool) (t : Token)
    → ended_action (cond z none (some c)) t
    ≡ cond z beyond
    (cond c (cond (is "," t) next_argument (cond (is ")" t) closes_level (astray t.at)))
    (cond (is ")" t) closes_level (astray t.at)))
unfolding ended_action
ended-choice true c t = refl
ended-choice false true t = refl
ended-choice false false t = refl

module _ (t : Token) (k : ℕ) (h : k ≡ kind_of t.bytes) where
  -- a test of the token is one of its kind
  pub by_kind : (b : Bool) (m : ℕ) → b ≡ eqb (kind_of t.bytes) m → b ≡ eqb k m
  by_kind b m e = e ∙ ap (λ (n : ℕ). eqb n m) (sym h)

  pub operator-kind : is_operator t ≡ operator_kind k
  unfolding is_operator
  operator-kind =
      rw (
        by_kind (is "+" t) 27 (is-plus t),
        by_kind (is "-" t) 28 (is-minus t),
        by_kind (is "==" t) 30 (is-equals t),
        by_kind (is "<" t) 31 (is-less t),
      ) refl

  pub operand-kinds :
      operand_action t
      ≡ cond (eqb k 8) (stay new₁)
      (cond (eqb k 34 || (eqb k 17 || eqb k 18)) (stay whole)
      (cond (eqb k 19) (opens_level false)
      (cond (eqb k 15) (stay recv₁)
      (cond (eqb k 9) (stay measure₁)
      (cond (eqb k 33) (stay (named (name_of t))) (astray t.at))))))
  unfolding operand_action
  operand-kinds =
      rw (
        by_kind (is "new" t) 8 (is-new t),
        by_kind (is_numeral t) 34 (is_number t),
        by_kind (is "true" t) 17 (is_true t),
        by_kind (is "false" t) 18 (is_false t),
        by_kind (is "(" t) 19 (is_open t),
        by_kind (is "recv" t) 15 (is-recv t),
        by_kind (is "measure" t) 9 (is-measure t),
        by_kind (is_name t) 33 (is-name t),
      )
      (ap (cond (eqb k 8) (stay new₁))
      (or-three (eqb k 34) (eqb k 17) (eqb k 18) (stay whole)
      (cond (eqb k 19) (opens_level false)
      (cond (eqb k 15) (stay recv₁)
      (cond (eqb k 9) (stay measure₁)
      (cond (eqb k 33) (stay (named (name_of t))) (astray t.at)))))))

  -- a closing bracket is no comma
  apart : eqb k 20 ≡ true → eqb k 25 ≡ false
  apart e = let same : k ≡ 20 = eqb-true k 20 e in ne_eqb k 25 (λ f. omega arith)

  pub ended-kinds : (b : ℕ)
      → ended_action (bracket_in b) t
      ≡ cond (eqb b 0) beyond
      (cond (eqb k 20) closes_level (cond (eqb b 2 && eqb k 25) next_argument (astray t.at)))
  unfolding bracket_in
  ended-kinds b =
      ended-choice (eqb b 0) (eqb b 2) t
      ∙ rw (by_kind (is ")" t) 20 (is-close t), by_kind (is "," t) 25 (is-comma t))
      (ended_by (eqb b 0) (eqb b 2) (eqb k 20) (eqb k 25) (astray t.at) apart)

  pub whole_kinds : (b : Option Bool)
      → whole_action b t ≡ cond (operator_kind k) (stay operand) (ended_action b t)
  unfolding whole_action
  whole_kinds b = rw operator-kind refl

  pub bare-kinds : (a : Bool) (b : ℕ)
      → cond (is_operator t) (new_action a (bracket_in b) t) (ended_action (bracket_in b) t)
      ≡ cond (operator_kind k) (cond a unassigns (cond (eqb b 0) beyond (astray t.at)))
      (ended_action (bracket_in b) t)
  unfolding new_action bracket_in
  bare-kinds a b = rw operator-kind (ap (λ x. cond (operator_kind k) x (ended_action (bracket_in b) t)) (by a (eqb b 0)))
    where
      by : (c z : Bool) → new_action c (cond z none (some (eqb b 2))) t ≡ cond c unassigns
          (cond z beyond (astray t.at))
      by true z = refl
      by false true = refl
      by false false = refl

  pub named-kinds : (scopes : Scopes) (x : Name) (b : Option Bool)
      → named_action scopes x b t
      ≡ cond (eqb k 29) (cond (is_withends scopes x) (astray x.at) assigns)
      (cond (eqb k 19) (opens_level true) (whole_action b t))
  unfolding named_action
  named-kinds scopes x b = rw (by_kind (is "=" t) 29 (is-assign t), by_kind (is "(" t) 19 (is_open t)) refl

  pub alloc-kinds :
      alloc_action t
      ≡ cond (eqb k 3) (stay new₅) (cond (eqb k 4 || eqb k 5) (stay new₂) (astray t.at))
  unfolding alloc_action
  alloc-kinds =
      rw (
        by_kind (is "qbit" t) 3 (is-qbit t),
        by_kind (is "channel" t) 4 (is-channel t),
        by_kind (is "channelEnd" t) 5 (is-channel-end t),
      )
      (ap (cond (eqb k 3) (stay new₅)) (or-two (eqb k 4) (eqb k 5) (stay new₂) (astray t.at)))

  pub carried-kinds : (is "int" t || (is "boolean" t || is "qbit" t)) ≡ (eqb k 1 || (eqb k 2 || eqb k 3))
  carried-kinds =
      rw (
        by_kind (is "int" t) 1 (is-int t),
        by_kind (is "boolean" t) 2 (is-boolean t),
        by_kind (is "qbit" t) 3 (is-qbit t),
      ) refl
