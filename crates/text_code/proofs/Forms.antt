-- Outcomes under other names, and the tokens that are passed.
use Prim.Native.Nat.{ℕ, suc, ◌+◌, ◌≤◌}
use Prim.Native.String.{String}
use native.Mathlib.Omega.{arith}
use mathlib.Core.Path.{◌≡◌, refl, sym, ap, ◌∙◌, subst}
use mathlib.Core.Bool.{Bool, true, false}
use mathlib.Core.List.{List, [], ◌∷◌, ◌++◌, append-nil, append_assoc}
use lib.Dec.{eqb}
use lib.ListN.{length}
use borrow.Author.Tests.{eqb-true}
use Rattle.text.specs.Tree.{Name, Declared}
use Rattle.text.specs.Translation.{Instruction}
use Rattle.text_parse.specs.Tokens.{Token, is}
use Rattle.text_parse.specs.Grammar.{first, rest}
use Rattle.text_tokens.specs.KindsCode.{kind_of}
use Rattle.text_tokens.proofs.KindTests.{is-name}
use Rattle.text_scan.proofs.Holding.{After, after, AfterName, after-name}
use Rattle.text_code.specs.OutcomeCode.{Tables, Outcome, all-written, over}
use Rattle.text_code.proofs.Steps.{Stands, past, pass-leads}

module _ (text : List ℕ) where
  -- the same code and variables under other names
  pub outcome-same : {c d : List Instruction} {ds es : List Declared} {us : List Token} {low : ℕ} {σ τ : Tables} {ok :
      Bool}
      {at : ℕ} → c ≡ d → ds ≡ es → Outcome text low c ds us σ ok at τ → Outcome text low d es us σ ok at τ
  outcome-same {c} {d} {ds} {es} {us} {low} {σ} {τ} {ok} {at} e f h =
      subst (λ (xs : List Declared). Outcome text low d xs us σ ok at τ) f
      (subst (λ (l : List Instruction). Outcome text low l ds us σ ok at τ) e h)

  pub outcome-lower : {c : List Instruction} {ds : List Declared} {us : List Token} {σ τ : Tables} {ok : Bool} {at : ℕ}
      (low high : ℕ) → low ≤ high → Outcome text high c ds us σ ok at τ → Outcome text low c ds us σ ok at τ
  outcome-lower low high l (all-written o h i u q w) = all-written o (omega arith) i u q w
  outcome-lower low high l (over o v) = over o v

  -- a token that must stand here is passed
  pub pass-after : (s : String) (k : ℕ) → ((t : Token) → is s t ≡ eqb (kind_of t.bytes) k) → (k ≡ 32 → ⊥)
      → {us vs : List Token} → After s us vs
      → {c : List Instruction} {ds : List Declared} {low : ℕ} {σ τ : Tables} {ok : Bool} {at : ℕ}
      → Outcome text low c ds us σ ok at τ → Outcome text (1 + low) c ds vs σ ok (past text at) τ
  pass-after s k test f {us} (after e) {c} {ds} {low} {σ} {τ} {ok} {at} h =
      pass-leads text c ds us low σ τ ok at
      (λ g. f (sym (eqb-true (kind_of (first us).bytes) k (sym (test (first us)) ∙ e)) ∙ g)) h

  -- and a name
  pub pass-name : {us vs : List Token} {x : Name} → AfterName us x vs
      → {c : List Instruction} {ds : List Declared} {low : ℕ} {σ τ : Tables} {ok : Bool} {at : ℕ}
      → Outcome text low c ds us σ ok at τ → Outcome text (1 + low) c ds vs σ ok (past text at) τ
  pass-name {us} (after-name e) {c} {ds} {low} {σ} {τ} {ok} {at} h =
      pass-leads text c ds us low σ τ ok at
      (λ g. absurd (thirty-three (sym (eqb-true (kind_of (first us).bytes) 33 (sym (is-name (first us)) ∙ e)) ∙ g))) h
    where
      thirty-three : ◌≡◌ {A = ℕ} 33 32 → ⊥
      thirty-three e = omega (arith, e)
