-- What the code's phases and effects stand for in crate text_expr. These definitions follow the code.
use Rattle.std.specs.Prelude.{ℕ, ◌≡◌, Bool, true, false, cond, ◌||◌, List, eqb}
use Rattle.std.proofs.Math.Option.{Option, none, some}
use Rattle.text.specs.Tree.{Name}
use Rattle.text_parse.specs.Tokens.{Token, name_of}
use Rattle.text_parse.specs.Grammar.{Scopes, is_withends}
use Rattle.text_tokens.specs.Places.{token_of}
use Rattle.text_tokens.specs.KindsCode.{kind_of}
use Rattle.text_tokens.specs.declared.next.TokenAt.{TokenAt}
use Rattle.text_expr.specs.PhasesCode as P
use Rattle.text_expr.specs.LevelsCode as L
use Rattle.text_effect.specs.declared.phase.Phase.{Phase}
use Rattle.text_effect.specs.declared.phase.Phase.TheVariants.{Operand, Whole, Bare, Named, Called, Recv1, Measure1, Measure2, Measure3, Measure4, Measure5, New1, New2, New3, New4, New5, New6}
use Rattle.text_effect.specs.declared.phase.Effect.{Effect}
use Rattle.text_effect.specs.declared.phase.Effect.TheVariants.{Stay, Assigns, Unassigns, OpensBracket, OpensCall, Closes, NextArgument, Astray, Beyond}

-- the token that stands between two places, and the name that it is
abbrev pub token : List ℕ → TokenAt → Token
token text t = token_of text t.start t.end

abbrev pub name_at : List ℕ → ℕ → ℕ → Name
name_at text start end = name_of (token_of text start end)

abbrev pub KindRight : List ℕ → TokenAt → Type 0
KindRight text t = t.kind ≡ kind_of (token text t).bytes

unfoldable pub phase_in : List ℕ → Phase → P.Phase
phase_in text Operand = P.operand
phase_in text Whole = P.whole
phase_in text Bare = P.bare
phase_in text (Named start end) = P.named (name_at text start end)
phase_in text Called = P.called
phase_in text Recv1 = P.recv₁
phase_in text Measure1 = P.measure₁
phase_in text Measure2 = P.measure₂
phase_in text Measure3 = P.measure₃
phase_in text Measure4 = P.measure₄
phase_in text Measure5 = P.measure₅
phase_in text New1 = P.new₁
phase_in text New2 = P.new₂
phase_in text New3 = P.new₃
phase_in text New4 = P.new₄
phase_in text New5 = P.new₅
phase_in text New6 = P.new₆

unfoldable pub effect_in : List ℕ → Effect → L.Action
effect_in text (Stay p) = L.stay (phase_in text p)
effect_in text Assigns = L.assigns
effect_in text Unassigns = L.unassigns
effect_in text OpensBracket = L.opens_level false
effect_in text OpensCall = L.opens_level true
effect_in text Closes = L.closes_level
effect_in text NextArgument = L.next_argument
effect_in text (Astray i) = L.astray i
effect_in text Beyond = L.beyond

-- the innermost bracket: 0 none, 1 no call's, 2 a call's
unfoldable pub bracket_in : ℕ → Option Bool
bracket_in b = cond (eqb b 0) none (some (eqb b 2))

abbrev pub operator_kind : ℕ → Bool
operator_kind k = eqb k 27 || (eqb k 28 || (eqb k 30 || eqb k 31))

-- at = after a name it is known whether the name means a channel with ends
abbrev pub EndsKnown : List ℕ → Scopes → Phase → ℕ → Bool → Type 0
EndsKnown text scopes phase kind ends =
    (start end : ℕ) → phase ≡ Named start end → kind ≡ 29 → ends ≡ is_withends scopes (name_at text start end)
