-- The types of all parameters, noted one after the other, are those of the header.
use Prim.Native.Nat.{ℕ, zero, suc, ◌+◌, ◌≤◌, ◌<◌}
use native.Mathlib.Omega.{arith}
use mathlib.Core.Path.{◌≡◌, refl, sym, ap, ap₂, ◌∙◌}
use mathlib.Core.Logic.{⊎_elim}
use mathlib.Core.Bool.{false, cond}
use mathlib.Core.List.{List, [], ◌∷◌, ◌++◌, map}
use borrow.Author.Tests.{lt-ltb, ltb-true, ltb-false}
use lib.Dec.{ltb}
use lib.ListN.{length, set, take, replicate, length-set}
use lib.Seq.{set_out}
use Rattle.lists.proofs.Tests.{decide}
use Rattle.text.specs.Tree.{Parameter, parameter_of}
use Rattle.text.specs.Translation.{type_code, code_of_type}
use Rattle.text_declare.specs.Entered.{typed}
use Rattle.text_declare.proofs.RowLaws.{typed-row}
use Rattle.text_rows.specs.Header.{as_word}
use Rattle.text_rows.specs.NotedCode.{noted, noted_all}

pub noted-append : (ps : List Parameter) (p : Parameter) (row : List ℕ)
    → noted_all (ps ++ (p ∷ [])) row ≡ noted (type_code p.type) (noted_all ps row)
unfolding noted_all
noted-append [] p row = refl
noted-append (q ∷ ps) p row = noted-append ps p (noted (type_code q.type) row)

pub le-ltb : (a b : ℕ) → b ≤ a → ltb a b ≡ false
le-ltb a b h = ⊎_elim (λ e. let l = ltb-true a b e in absurd (omega arith)) (λ e. e) (decide (ltb a b))

pub word_small : (n : ℕ) → n ≤ 65535 → as_word n ≡ n
unfolding as_word
word_small n h =
    ⊎_elim (λ e. rw (e) refl)
    (λ e. let l = ltb-false n 65535 e in let same : 65535 ≡ n = omega arith in rw (e) same) (decide (ltb n 65535))

word-large : (n : ℕ) → 65535 ≤ n → as_word n ≡ 65535
unfolding as_word
word-large n h = rw (le-ltb n 65535 h) refl

-- a row whose count is w
module _ (a c : ℕ) (ws : List ℕ) where
  noted-full : (w : ℕ) → 65535 ≤ w → noted c (a ∷ w ∷ ws) ≡ a ∷ w ∷ ws
  unfolding noted
  noted-full w h = rw (lt-ltb 65534 w (omega arith)) refl

  noted-past : (w : ℕ) → w < 65535 → 16 ≤ w → noted c (a ∷ w ∷ ws) ≡ a ∷ suc w ∷ ws
  unfolding noted
  noted-past w h l =
      let more : w + 1 ≡ suc w = omega arith in
      rw (le-ltb 65534 w (omega arith), lt-ltb 15 w (omega arith)) (ap (λ (v : ℕ). a ∷ v ∷ ws) more)

  noted-within : (w : ℕ) → w < 16 → noted c (a ∷ w ∷ ws) ≡ a ∷ suc w ∷ set ws w c
  unfolding noted
  noted-within w h =
      let more : w + 1 ≡ suc w = omega arith in
      let place : 2 + w ≡ suc (suc w) = omega arith in
      rw (le-ltb 65534 w (omega arith), le-ltb 15 w (omega arith))
      (ap₂ (λ (v i : ℕ). set (a ∷ v ∷ ws) i c) more place)

  noted-word : (n : ℕ) → length ws ≡ 16 → noted c (a ∷ as_word n ∷ ws) ≡ a ∷ as_word (suc n) ∷ set ws n c
  noted-word n long =
      ⊎_elim (λ e. within (ltb-true n 16 e))
      (λ e. ⊎_elim (λ f. past (ltb-false n 16 e) (ltb-true n 65535 f)) (λ f. full (ltb-false n 65535 f))
      (decide (ltb n 65535))) (decide (ltb n 16))
    where
      within : n < 16 → noted c (a ∷ as_word n ∷ ws) ≡ a ∷ as_word (suc n) ∷ set ws n c
      within h =
          ap (λ (w : ℕ). noted c (a ∷ w ∷ ws)) (word_small n (omega arith)) ∙ noted-within n h
          ∙ ap (λ (w : ℕ). a ∷ w ∷ set ws n c) (sym (word_small (suc n) (omega arith)))

      past : 16 ≤ n → n < 65535 → noted c (a ∷ as_word n ∷ ws) ≡ a ∷ as_word (suc n) ∷ set ws n c
      past l h =
          ap (λ (w : ℕ). noted c (a ∷ w ∷ ws)) (word_small n (omega arith)) ∙ noted-past n h l
          ∙ ap₂ (λ (w : ℕ) (vs : List ℕ). a ∷ w ∷ vs) (sym (word_small (suc n) (omega arith)))
          (sym (set_out ws n c (omega arith)))

      full : 65535 ≤ n → noted c (a ∷ as_word n ∷ ws) ≡ a ∷ as_word (suc n) ∷ set ws n c
      full h =
          let most = word-large n h in
          noted-full (as_word n) (omega (arith, most))
          ∙ ap₂ (λ (w : ℕ) (vs : List ℕ). a ∷ w ∷ vs) (most ∙ sym (word-large (suc n) (omega arith)))
          (sym (set_out ws n c (omega arith)))

-- after n parameters
noted-typed : (ps : List Parameter) (a n : ℕ) (ws : List ℕ) → length ws ≡ 16
    → noted_all ps (a ∷ as_word n ∷ ws) ≡ typed n (map parameter_of ps) (a ∷ as_word (n + length ps) ∷ ws)
unfolding noted_all typed
noted-typed [] a n ws long = ap (λ (k : ℕ). a ∷ as_word k ∷ ws) (omega arith)
noted-typed (p ∷ ps) a n ws long =
    let c = type_code p.type in
    let place : suc (suc n) ≡ 2 + n = omega arith in
    let more : suc n + length ps ≡ n + suc (length ps) = omega arith in
    ap (noted_all ps) (noted-word a c ws n long)
    ∙ noted-typed ps a (suc n) (set ws n c) (length-set ws n c ∙ long)
    ∙ ap₂ (λ (k i : ℕ). typed (suc n) (map parameter_of ps) (set (a ∷ as_word k ∷ ws) i c)) more place

pub noted-header : (ps : List Parameter) (a : ℕ)
    → noted_all ps (a ∷ 0 ∷ replicate 16 0)
    ≡ a ∷ as_word (length ps) ∷ take 16 (map code_of_type (map parameter_of ps) ++ replicate 16 0)
noted-header ps a =
    let none : 0 ≡ as_word 0 = sym (word_small 0 (omega arith)) in
    let all : 0 + length ps ≡ length ps = omega arith in
    ap (λ (w : ℕ). noted_all ps (a ∷ w ∷ replicate 16 0)) none
    ∙ noted-typed ps a 0 (replicate 16 0) refl
    ∙ ap (λ (k : ℕ). typed 0 (map parameter_of ps) (a ∷ as_word k ∷ replicate 16 0)) all
    ∙ typed-row (map parameter_of ps) a (as_word (length ps))
