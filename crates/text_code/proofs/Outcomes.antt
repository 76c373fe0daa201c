-- Emissions one after the other.
use Prim.Native.Nat.{ℕ, suc, ◌+◌, ◌*◌, ◌≤◌, ◌<◌}
use native.Mathlib.Omega.{arith}
use mathlib.Core.Path.{◌≡◌, refl, sym, ap, ◌∙◌, subst}
use mathlib.Core.Logic.{◌⊎◌, inl, inr, ⊎_elim}
use mathlib.Core.Bool.{Bool, true, false, ◌&&◌}
use mathlib.Core.List.{List, [], ◌∷◌, ◌++◌, append-nil}
use lib.ListN.{length, set, length-append}
use Rattle.lists.specs.Lists.{every, put_from}
use Rattle.lists.proofs.Tests.{clash, passes}
use Rattle.text.specs.Tree.{Declared}
use Rattle.text.specs.Translation.{Instruction, instruction, code_words, Scope, code_of_type}
use Rattle.text_parse.specs.Tokens.{Token}
use Rattle.text_tokens.specs.Places.{tokens_at}
use Rattle.text_slots.specs.Placing.{Placing}
use Rattle.text_numbering.specs.CodeBy.{number_fits}
use Rattle.text_declare.specs.Entered.{typed}
use Rattle.text_code.specs.OutcomeCode.{Tables, Written, Overflow, Outcome, all-written, over}
use Rattle.text_code.proofs.Words.{put_both, set-argument}
use Rattle.text_code.proofs.Quiet.{both-fit}

pub typed-append : (i : ℕ) (ds es : List Declared) (row : List ℕ)
    → typed i (ds ++ es) row ≡ typed (i + length ds) es (typed i ds row)
unfolding typed
typed-append i [] es row = ap (λ (k : ℕ). typed k es row) (omega arith)
typed-append i (d ∷ ds) es row =
    typed-append (suc i) ds es (set row (2 + i) (code_of_type d))
    ∙ ap (λ (k : ℕ). typed k es (typed (suc i) ds (set row (2 + i) (code_of_type d)))) (omega arith)

and-false : (a b : Bool) → (a && b) ≡ false → a ≡ true → b ≡ false
and-false true b e t = e
and-false false b e t = absurd (clash refl (passes t))

false-and : (a b : Bool) → a ≡ false → (a && b) ≡ false
false-and a b e = rw e refl

module _ (text : List ℕ) where
  -- what is written, and then written after it
  pub written_then : (c c' : List Instruction) (ds es : List Declared) (σ τ υ : Tables) → Written text c ds σ τ
      → Written text c' es τ υ → Written text (c ++ c') (ds ++ es) σ υ
  written_then c c' ds es σ τ υ w v = record {
    counted = let a = w.counted in let b = v.counted in omega (arith, length-append c c');
    few = v.few;
    given = let a = w.given in let b = v.given in omega (arith, length-append ds es);
    room = v.room;
    same-scope = v.same-scope ∙ w.same-scope;
    words =
        v.words ∙ ap (λ (l : List ℕ). put_from l (2 * τ.count) (code_words c')) w.words
        ∙ ap (λ (k : ℕ). put_from (put_from σ.code (2 * σ.count) (code_words c)) (2 * k) (code_words c')) w.counted
        ∙ sym (put_both σ.code σ.count c c');
    types =
        v.types ∙ ap (typed τ.used es) w.types
        ∙ ap (λ (k : ℕ). typed k es (typed σ.used ds σ.row)) w.given
        ∙ sym (typed-append σ.used ds es σ.row);
    kept = λ m sc h p. v.kept m sc (subst (λ (k : ℕ). m ≤ k) (sym w.same-scope) h) (w.kept m sc h p);
  }

  -- where the first part does not fit, all does not
  pub over_first : (c c' : List Instruction) (ds es : List Declared) (σ : Tables) → Overflow σ c ds
      → Overflow σ (c ++ c') (ds ++ es)
  over_first c c' ds es σ (inl h) = inl (omega (arith, length-append c c'))
  over_first c c' ds es σ (inr (inl e)) =
      inr (inl (both-fit c c' ∙ false-and (every number_fits c) (every number_fits c') e))
  over_first c c' ds es σ (inr (inr h)) = inr (inr (omega (arith, length-append ds es)))

  pub over-second : (c c' : List Instruction) (ds es : List Declared) (σ τ : Tables) → Written text c ds σ τ
      → every number_fits c ≡ true → Overflow τ c' es → Overflow σ (c ++ c') (ds ++ es)
  over-second c c' ds es σ τ w q (inl h) = let a = w.counted in inl (omega (arith, length-append c c'))
  over-second c c' ds es σ τ w q (inr (inl e)) =
      inr (inl (both-fit c c' ∙ (rw q e)))
  over-second c c' ds es σ τ w q (inr (inr h)) = let a = w.given in inr (inr (omega (arith, length-append ds es)))

  module _ (c c' : List Instruction) (ds es : List Declared) (us vs : List Token) (low : ℕ) (σ τ : Tables) (at : ℕ)
    where
      -- one part, and then another, which is k bytes long at least
      pub outcome-then : (k : ℕ) {ok fine : Bool} {place : ℕ} {υ : Tables} → ok ≡ true
          → Outcome text low c ds us σ ok at τ → Outcome text (k + at) c' es vs τ fine place υ
          → Outcome text (k + low) (c ++ c') (ds ++ es) vs σ fine place υ
      outcome-then k t (over o v) later = absurd (clash o (passes t))
      outcome-then k t (all-written o l i u q w) (over p v) = over p (over-second c c' ds es σ τ w q v)
      outcome-then k t (all-written o l i u q w) (all-written p m j x r v) =
          all-written p (omega arith) j x (both-fit c c' ∙ rw q r) (written_then c c' ds es σ τ _ w v)

      -- the first part does not fit
      pub outcome-stops : {ok fine : Bool} {place : ℕ} {υ : Tables} → ok ≡ false → fine ≡ false
          → Outcome text low c ds us σ ok at τ → Outcome text low (c ++ c') (ds ++ es) vs σ fine place υ
      outcome-stops t f (over o v) = over f (over_first c c' ds es σ v)
      outcome-stops t f (all-written o l i u q w) = absurd (clash t (passes o))

  -- what does not fit does not fit with more after it
  pub outcome-stays : (c c' : List Instruction) (ds es : List Declared) {us vs : List Token} {low most : ℕ}
      {σ τ υ : Tables} {ok fine : Bool} {at place : ℕ} → ok ≡ false → fine ≡ false
      → Outcome text low c ds us σ ok at τ → Outcome text most (c ++ c') (ds ++ es) vs σ fine place υ
  outcome-stays c c' ds es {us} {vs} {low} {most} {σ} t p (over o v) = over p (over_first c c' ds es σ v)
  outcome-stays c c' ds es t p (all-written o l i u q w) = absurd (clash t (passes o))

  pub outcome-stuck : (c c' : List Instruction) {ds : List Declared} {us vs : List Token} {low most : ℕ}
      {σ τ υ : Tables} {ok fine : Bool} {at place : ℕ} → ok ≡ false → fine ≡ false
      → Outcome text low c ds us σ ok at τ → Outcome text most (c ++ c') ds vs σ fine place υ
  outcome-stuck c c' {ds} {us} {vs} {low} {most} {σ} t p (over o v) =
      over p (subst (λ (es : List Declared). Overflow σ (c ++ c') es) (append-nil ds) (over_first c c' ds [] σ v))
  outcome-stuck c c' t p (all-written o l i u q w) = absurd (clash t (passes o))
