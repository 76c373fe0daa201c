-- The end of a method: RET, or the slot that is never filled and RET.
use Prim.Native.Nat.{ℕ, ◌+◌, ◌≤◌, ◌<◌}
use native.Mathlib.Omega.{arith}
use mathlib.Core.Path.{◌≡◌, refl, sym, ap, ◌∙◌, subst}
use mathlib.Core.Logic.{inl, inr}
use mathlib.Core.Bool.{true, false}
use mathlib.Core.List.{List, [], ◌∷◌, ◌++◌, append_assoc}
use mathlib.Core.Option.{Option, none, some}
use lib.ListN.{length, set, length-append}
use Rattle.lists.specs.Lists.{every}
use Rattle.lists.proofs.Tests.{clash, passes}
use Rattle.text.specs.Tree.{Carried, int_type, boolean_type, qbit_type, NonVoidType, plain, channel_type, end_type, Declared}
use Rattle.text.specs.Translation.{Instruction, GET, RET, carried_code, type_code, return_code, closing, hole_type}
use Rattle.text_parse.specs.Tokens.{Token}
use Rattle.text_numbering.specs.CodeBy.{number_fits}
use Rattle.text_code.specs.OutcomeCode.{Overflow, Outcome, all-written, over}
use Rattle.text_code.proofs.Quiet.{quiet-after, closing-quiet}
use Rattle.text_code.proofs.Forms.{outcome-same}
use Rattle.text_emit.specs.Reached.{EmitState}
use Rattle.text_emit.specs.EmitCode.{tables_of, PutsOne}
use Rattle.text_emit.proofs.EmitLaws.{lost}
use Rattle.text_emit_method.specs.StepsCode.{before, with_hole, ended, Ending, all-ended, too_much, Ends}

-- no type has the code of void
carried-code : (t : Carried) → carried_code t ≡ 0 → ⊥
unfolding carried_code
carried-code int_type e = omega (arith, e)
carried-code boolean_type e = omega (arith, e)
carried-code qbit_type e = omega (arith, e)

type-code : (t : NonVoidType) → type_code t ≡ 0 → ⊥
unfolding type_code
type-code (plain t) e = carried-code t e
type-code (channel_type t) e = omega (arith, e)
type-code (end_type t) e = omega (arith, e)

return-void : (t : Option NonVoidType) → return_code t ≡ 0 → t ≡ none
unfolding return_code
return-void none e = refl
return-void (some t) e = absurd (type-code t e)

-- the numbers of a method are those before its end
ended-fits : (c : List Instruction) (t : Option NonVoidType) (vs : List Declared)
    → every number_fits (ended c t vs) ≡ every number_fits c
ended-fits c t vs = quiet-after c (closing t (length vs)) (closing-quiet t (length vs))

module _ (text : List ℕ) (low : ℕ) (c : List Instruction) (vs : List Declared) (us : List Token)
    (t : Option NonVoidType) (scope row row₀ code₀ : List ℕ) (r : EmitState) (row' code' : List ℕ) where
  -- the code with its end is written, and there is a slot for what the end takes
  ended-outcome : row' ≡ with_hole t (length vs) row → (length vs ≤ 16 → length vs + length (hole_type t) ≤ 16)
      → Outcome text low (ended c t vs) vs us (before row₀ code₀) r.ok r.at (tables_of r 0 scope row code')
      → Ending text low c vs us t row₀ code₀ r row' code'
  ended-outcome e room (all-written o l i u q w) = all-ended o (record {
    further = l;
    inside = i;
    left = u;
    numbers = sym (ended-fits c t vs) ∙ q;
    counted = w.counted ∙ plus-zero (length (ended c t vs));
    few = w.few;
    slots = room (let a = w.given in let b = w.room in omega arith);
    types = e ∙ ap (with_hole t (length vs)) w.types;
    words = w.words;
  })
    where
      plus-zero : (k : ℕ) → 0 + k ≡ k
      plus-zero k = omega arith
  ended-outcome e room (over o (inl h)) = too_much o (inl (omega arith))
  ended-outcome e room (over o (inr (inl g))) = too_much o (inr (inl (sym (ended-fits c t vs) ∙ g)))
  ended-outcome e room (over o (inr (inr h))) = too_much o (inr (inr (omega arith)))

  -- what does not fit before its end
  ended-over : r.ok ≡ false → Overflow (before row₀ code₀) c vs → Ending text low c vs us t row₀ code₀ r row' code'
  ended-over o (inl h) =
      too_much o (inl (let l = length-append c (closing t (length vs)) in omega arith))
  ended-over o (inr (inl g)) = too_much o (inr (inl g))
  ended-over o (inr (inr h)) = too_much o (inr (inr (omega arith)))

module _ (type : ℕ) (e : EmitState) (row code : List ℕ) where
  pub ends-void : (r : EmitState) (code' : List ℕ) → type ≡ 0 → PutsOne 13 0 e code r code'
      → Ends type e row code r row code'
  unfolding closing with_hole hole_type number_fits
  ends-void r code' z p text us low c vs t scope row₀ code₀ q h =
      subst (λ (o : Option NonVoidType). Ending text low c vs us o row₀ code₀ r row code')
      (sym (return-void t (sym q ∙ z)))
      (ended-outcome text low c vs us none scope row row₀ code₀ r row code' refl (λ l. omega arith)
      (p refl text us 0 scope row low c vs (before row₀ code₀) h))

  -- something before it does not fit
  pub ends_stuck : (row' code' : List ℕ) → e.ok ≡ false → Ends type e row code lost row' code'
  ends_stuck row' code' off text us low c vs t scope row₀ code₀ q (over o v) =
      ended-over text low c vs us t scope row row₀ code₀ lost row' code' refl v
  ends_stuck row' code' off text us low c vs t scope row₀ code₀ q (all-written o l i u f w) =
      absurd (clash off (passes o))

  -- a method with a value
  module _ (value : type ≡ 0 → ⊥) where
    -- no slot is left
    pub ends-full : (row' code' : List ℕ) → 15 < e.used
        → Ends type e row code lost row' code'
    unfolding return_code hole_type
    ends-full row' code' full text us low c vs none scope row₀ code₀ q h = absurd (value q)
    ends-full row' code' full text us low c vs (some t) scope row₀ code₀ q (over o v) =
        ended-over text low c vs us (some t) scope row row₀ code₀ lost row' code'
        refl v
    ends-full row' code' full text us low c vs (some t) scope row₀ code₀ q (all-written o l i u f w) =
        too_much refl (inr (inr (let given = w.given in omega arith)))

    pub ends-value : (g r : EmitState) (code₁ code₂ : List ℕ) → e.ok ≡ true → e.used ≤ 15
        → PutsOne 3 e.used e code g code₁ → PutsOne 13 0 g code₁ r code₂
        → Ends type e row code r (set row (2 + e.used) type) code₂
    unfolding return_code closing with_hole hole_type number_fits
    ends-value g r code₁ code₂ on room p₁ p₂ text us low c vs none scope row₀ code₀ q h = absurd (value q)
    ends-value g r code₁ code₂ on room p₁ p₂ text us low c vs (some t) scope row₀ code₀ q h =
        ended-outcome text low c vs us (some t) scope row row₀ code₀ r (set row (2 + e.used) type) code₂
        (ap (set row (2 + e.used)) q ∙ ap (λ (k : ℕ). set row (2 + k) (type_code t)) (given h))
        (λ l. let a = given h in omega arith)
        (outcome-same text
        (append_assoc c (GET e.used ∷ []) (RET ∷ []) ∙ ap (λ (k : ℕ). c ++ (GET k ∷ RET ∷ [])) (given h)) refl
        (p₂ refl text us 0 scope row low (c ++ (GET e.used ∷ [])) vs (before row₀ code₀)
        (p₁ refl text us 0 scope row low c vs (before row₀ code₀) h)))
      where
        given : Outcome text low c vs us (before row₀ code₀) e.ok e.at (tables_of e 0 scope row code)
            → e.used ≡ length vs
        given (over o v) = absurd (clash o (passes on))
        given (all-written o l i u f w) = w.given ∙ zero-plus (length vs)
          where
            zero-plus : (k : ℕ) → 0 + k ≡ k
            zero-plus k = omega arith
