-- The steps of an emission make of any outcome before them what they are to make of it.
use Prim.Native.Nat.{ℕ, ◌+◌, ◌*◌, ◌≤◌, ◌<◌}
use native.Mathlib.Omega.{arith}
use mathlib.Core.Path.{◌≡◌, refl, sym, subst}
use mathlib.Core.Bool.{Bool, true, false}
use mathlib.Core.List.{List, [], ◌∷◌, ◌++◌}
use lib.ListN.{length, set, length-append}
use Rattle.lists.specs.Lists.{put_from}
use Rattle.std.specs.Prelude.{None}
use Rattle.text.specs.Tree.{Declared}
use Rattle.text.specs.Translation.{Instruction, instruction}
use Rattle.text_parse.specs.Tokens.{Token}
use Rattle.lists.proofs.Tests.{clash, passes}
use Rattle.text_code.specs.OutcomeCode.{Tables, Outcome, all-written, over}
use Rattle.text_code.proofs.Outcomes.{outcome-stuck}
use Rattle.text_code.proofs.Steps.{put-leads, put-over, patch-leads, patch-stays}
use Rattle.text_emit.specs.Reached.{EmitState, reached}
use Rattle.text_emit.specs.EmitCode.{tables_of, Puts, PutsOne, Patches}

abbrev pub emit_at : Bool → ℕ → ℕ → ℕ → EmitState
emit_at ok at used count = record { ok = ok; at = at; used = used; count = count }

-- what does not fit does not fit anywhere
pub elsewhere : {text : List ℕ} {low : ℕ} {c : List Instruction} {ds : List Declared} {us : List Token} {σ τ υ : Tables}
    {ok fine : Bool} {at place : ℕ} → ok ≡ false → fine ≡ false → Outcome text low c ds us σ ok at τ
    → Outcome text low c ds us σ fine place υ
elsewhere off off' (over o v) = over off' v
elsewhere off off' (all-written o l i u q w) = absurd (clash off (passes o))

-- where something did not fit
abbrev pub lost : EmitState
lost = reached None

-- nothing fits after what does not fit
pub puts-stuck : (c : List Instruction) (e r : EmitState) (code code' : List ℕ) → e.ok ≡ false → r.ok ≡ false
    → Puts c e code r code'
puts-stuck c e r code code' off off' text us n scope row low b es σ h = outcome-stuck text b c off off' h

pub one-stuck : (o a : ℕ) (e r : EmitState) (code code' : List ℕ) → e.ok ≡ false → r.ok ≡ false
    → PutsOne o a e code r code'
one-stuck o a e r code code' off off' f = puts-stuck (instruction o a ∷ []) e r code code' off off'

module _ (o a : ℕ) (e : EmitState) (code code' : List ℕ) where
  pub one-over : (r : EmitState) → e.ok ≡ true → 4096 ≤ e.count → r.ok ≡ false → PutsOne o a e code r code'
  one-over r on h off f text us n scope row low b es σ x =
      elsewhere {τ = tables_of r n scope row code'} off off
      (put-over text b es us low σ (tables_of e n scope row code) e.at (instruction o a) on off h x)

  pub one-put : e.ok ≡ true → e.count < 4096 → code' ≡ put_from code (2 * e.count) (o ∷ a ∷ [])
      → PutsOne o a e code (emit_at true e.at e.used (e.count + 1)) code'
  one-put on h w f text us n scope row low b es σ x =
      subst (λ (l : List ℕ). Outcome text low (b ++ (instruction o a ∷ [])) es us σ true e.at
      (tables_of (emit_at true e.at e.used (e.count + 1)) n scope row l)) (sym w)
      (put-leads text b es us low σ (tables_of e n scope row code) e.at (instruction o a) on refl h f x)

module _ (e : EmitState) (k v : ℕ) (code code' : List ℕ) where
  pub patch-off : e.ok ≡ false → Patches e k v code code'
  patch-off off text us n scope row low b d o a es σ f g h =
      patch-stays text b d es us low σ (tables_of e n scope row code) e.at o a v off off f h

  -- an instruction that is written is one of the first 4,096
  pub patch-far : e.ok ≡ true → 4096 ≤ k → Patches e k v code code'
  patch-far on far text us n scope row low b d o a es σ f g h =
      absurd (no_room (g on) h)
    where
      no_room : {at : ℕ} {τ : Tables} → k ≡ σ.count + length b
          → Outcome text low (b ++ (instruction o a ∷ d)) es us σ e.ok at τ → ⊥
      no_room q (over p v) = clash p (passes on)
      no_room q (all-written p l i u t w) =
          let counted = w.counted in
          let few = w.few in
          omega (arith, length-append b (instruction o a ∷ d))

  pub patch-on : e.ok ≡ true → code' ≡ set code (2 * k + 1) v → Patches e k v code code'
  patch-on on w text us n scope row low b d o a es σ f g h =
      subst (λ (l : List ℕ). Outcome text low (b ++ (instruction o v ∷ d)) es us σ e.ok e.at
      (tables_of e n scope row l)) (sym w)
      (patch-leads text b d es us low σ (tables_of e n scope row code) e.at o a v on on f (g on) h)
