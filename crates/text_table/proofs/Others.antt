-- The methods in text order, one after the other: the code of those that are not main is written.
use Prim.Native.Nat.{ℕ, zero, suc, ◌+◌}
use native.Mathlib.Omega.{arith}
use mathlib.Core.Path.{◌≡◌, refl, sym, ap, ◌∙◌, subst}
use mathlib.Core.Bool.{Bool, true, false, cond}
use mathlib.Core.List.{List, [], ◌∷◌, ◌++◌, append-nil}
use mathlib.Core.Logic.{◌⊎◌, inl, inr}
use mathlib.Core.Option.{some, some-injective}
use lib.ListN.{length, take}
use lib.Dec.{T, eqb}
use mir.Facts.{T_not}
use borrow.Author.Tests.{eqb-true, eqb-false}
use Rattle.lists.specs.Lists.{All}
use Rattle.lists.proofs.Tests.{decide, passed, failed}
use Rattle.text.specs.Tree.{Method, Program, main_first, without_main, method_at, is_main}
use Rattle.text.specs.Translation.{method_code, program_code, code_words}
use Rattle.text.proofs.Order.{all-method}
use Rattle.text_put.specs.TableCode.{Writes}
use Rattle.text_put.proofs.MainAt.{MainStands, NotMain, others-append}
use Rattle.text_put.proofs.Ordered.{take-method, program-append, code-append}
use Rattle.text_put.proofs.WordLaws.{words-then, words_same}
use Rattle.text_table.specs.WrittenCode.{OthersPut}

-- main is the method of its index, and no other is

other_at : (xs ys : Program) (x : Method) (k : ℕ) (m : Method) → (k ≡ length xs → ⊥)
    → method_at (xs ++ (x ∷ ys)) k ≡ some m → All NotMain xs → All NotMain ys → NotMain m
unfolding method_at
other_at [] ys x zero m n e a b = absurd (n refl)
other_at [] ys x (suc k) m n e a b = all-method NotMain ys b k m e
other_at (z ∷ xs) ys x zero m n e (h, a) b = subst NotMain (some-injective z m e) h
other_at (z ∷ xs) ys x (suc k) m n e (h, a) b = other_at xs ys x k m (λ q. n (ap suc q)) e a b

main-at : (xs ys : Program) (x m : Method) → method_at (xs ++ (x ∷ ys)) (length xs) ≡ some m → x ≡ m
unfolding method_at
main-at [] ys x m e = some-injective x m e
main-at (z ∷ xs) ys x m e = main-at xs ys x m e

module _ (ns : Program) (p : MainStands ns) where
  pub is-main-at : (k : ℕ) (m : Method) → method_at ns k ≡ some m → is_main m ≡ eqb k (length p.before)
  is-main-at k m e = by (decide (eqb k (length p.before)))
    where
      there : method_at (p.before ++ (p.one ∷ p.after)) k ≡ some m
      there = ap (λ ks. method_at ks k) (sym p.is) ∙ e

      by : ((eqb k (length p.before) ≡ true) ⊎ (eqb k (length p.before) ≡ false))
          → is_main m ≡ eqb k (length p.before)
      by (inl q) =
          let same = main-at p.before p.after p.one m
          (ap (method_at (p.before ++ (p.one ∷ p.after))) (sym (eqb-true k (length p.before) q)) ∙ there) in
          passed (is_main m) (subst (λ k. T (is_main k)) same p.is-main) ∙ sym q
      by (inr q) =
          failed (is_main m) (λ t. T_not (is_main m) t (other_at p.before p.after p.one k m
          (eqb-false k (length p.before) q) there p.none_before p.none_after)) ∙ sym q

  -- the others up to the next method
  pub others-next : (k : ℕ) (m : Method) → method_at ns k ≡ some m
      → without_main (take (suc k) ns)
      ≡ without_main (take k ns) ++ cond (eqb k (length p.before)) [] (m ∷ [])
  unfolding without_main
  others-next k m e =
      ap without_main (take-method ns k m e) ∙ others-append (take k ns) (m ∷ [])
      ∙ ap (λ b. without_main (take k ns) ++ cond b [] (m ∷ [])) (is-main-at k m e)

one_code : (qs : Program) (m : Method) (b : Bool)
    → code_words (program_code qs (cond b [] (m ∷ []))) ≡ cond b [] (code_words (method_code qs m))
unfolding program_code code_words
one_code qs m true = refl
one_code qs m false = ap code_words (append-nil (method_code qs m))

-- and the next state
pub others-step : (ns : Program) (p : MainStands ns) (k at : ℕ) (table mid end : List ℕ) (i j : ℕ)
    → OthersPut ns k at table mid i → (m : Method) → method_at ns k ≡ some m
    → Writes mid i (cond (eqb k (length p.before)) [] (code_words (method_code (main_first ns) m))) end j
    → OthersPut ns (k + 1) at table end j
others-step ns p k at table mid end i j o m e w =
    let qs = main_first ns in
    let before = without_main (take k ns) in
    let b = eqb k (length p.before) in
    let one : suc k ≡ k + 1 = omega arith in
    record {
      written =
          words_same table at (ap (λ c. code_words (program_code qs before) ++ c) (sym (one_code qs m b))
          ∙ sym (code-append (program_code qs before) (program_code qs (cond b [] (m ∷ []))))
          ∙ ap code_words (sym (program-append qs before (cond b [] (m ∷ []))))
          ∙ ap (λ ms. code_words (program_code qs ms)) (sym (others-next ns p k m e))
          ∙ ap (λ n. code_words (program_code qs (without_main (take n ns)))) one)
          (words-then table at (code_words (program_code qs before)) (cond b [] (code_words (method_code qs m)))
          o.written w);
    }
