-- The row of a method whose variables are all entered, into a row without slot types, is the one its table has.
use Prim.Native.Nat.{ℕ, zero, suc, ◌+◌, ◌≤◌}
use native.Mathlib.Omega.{arith}
use mathlib.Core.Path.{◌≡◌, refl, sym, ap, ◌∙◌}
use mathlib.Core.List.{List, [], ◌∷◌, ◌++◌, map, append-nil}
use mathlib.Core.Option.{Option, none, some}
use lib.ListN.{length, set, take, replicate, length-append}
use lib.Seq.{append_snoc, set_at, set_out}
use Rattle.text.specs.Tree.{NonVoidType, Declared, plainly, Method}
use Rattle.text.specs.Translation.{type_code, return_code, variables_of, code_of_type, hole_type, slot_codes, row_words}
use Rattle.text_declare.specs.Entered.{typed}
use Rattle.text_declare.proofs.EnteredLaws.{typed-append}

take-zeros : (n k : ℕ) → n ≤ k → ◌≡◌ {A = List ℕ} (take n (replicate k 0)) (replicate n 0)
take-zeros zero k h = refl
take-zeros (suc n) zero h = absurd (omega arith)
take-zeros (suc n) (suc k) h = ap (λ ws. 0 ∷ ws) (take-zeros n k (omega arith))

map-append-codes : (ds es : List Declared) → map code_of_type (ds ++ es) ≡ map code_of_type ds ++ map code_of_type es
map-append-codes [] es = refl
map-append-codes (d ∷ ds) es = ap (λ ws. code_of_type d ∷ ws) (map-append-codes ds es)

-- a row has no word past its last slot
typed-past : (ds : List Declared) (row : List ℕ) (i : ℕ) → length row ≤ 2 + i → typed i ds row ≡ row
unfolding typed
typed-past [] row i h = refl
typed-past (d ∷ ds) row i h =
    ap (typed (suc i) ds) (set_out row (2 + i) (code_of_type d) h) ∙ typed-past ds row (suc i) (omega arith)

-- from slot i on, after the words p
typed-front : (ds : List Declared) (p : List ℕ) (i n k : ℕ) → length p ≡ 2 + i → n ≤ k
    → typed i ds (p ++ replicate n 0) ≡ p ++ take n (map code_of_type ds ++ replicate k 0)
unfolding typed
typed-front [] p i n k e l = ap (λ ws. p ++ ws) (sym (take-zeros n k l))
typed-front (d ∷ ds) p i zero k e l =
    let all : length (p ++ []) ≤ 2 + i = let same = length-append p [] in omega arith in
    typed-past (d ∷ ds) (p ++ []) i all
typed-front (d ∷ ds) p i (suc n) k e l =
    let c = code_of_type d in
    let more : length (p ++ (c ∷ [])) ≡ 2 + suc i = let one = length-append p (c ∷ []) in omega arith in
    ap (typed (suc i) ds) (set_at p 0 (replicate n 0) c (2 + i) e ∙ sym (append_snoc p c (replicate n 0)))
    ∙ typed-front ds (p ++ (c ∷ [])) (suc i) n k more (omega arith)
    ∙ append_snoc p c (take n (map code_of_type ds ++ replicate k 0))

pub typed-row : (ds : List Declared) (a b : ℕ)
    → typed 0 ds (a ∷ b ∷ replicate 16 0) ≡ a ∷ b ∷ take 16 (map code_of_type ds ++ replicate 16 0)
typed-row ds a b = typed-front ds (a ∷ b ∷ []) 0 16 16 refl (omega arith)

module _ (m : Method) where
  abbrev RowOf : Option NonVoidType → List ℕ
  RowOf r =
      return_code r ∷ length m.parameters
      ∷ take 16 (map code_of_type (variables_of m) ++ hole_type r ++ replicate 16 0)

  -- a method without a value
  pub row-void : m.returns ≡ none
      → typed 0 (variables_of m) (0 ∷ length m.parameters ∷ replicate 16 0) ≡ row_words m
  unfolding row_words slot_codes return_code hole_type
  row-void e =
      typed-row (variables_of m) 0 (length m.parameters)
      ∙ ap (λ (ws : List ℕ). 0 ∷ length m.parameters ∷ take 16 (ws ++ replicate 16 0))
      (sym (append-nil (map code_of_type (variables_of m)))) ∙ ap RowOf (sym e)

  -- a method with a value has one slot more
  pub row-value : (t : NonVoidType) → m.returns ≡ some t
      → set (typed 0 (variables_of m) (type_code t ∷ length m.parameters ∷ replicate 16 0))
      (2 + length (variables_of m)) (type_code t) ≡ row_words m
  unfolding row_words slot_codes return_code hole_type typed
  row-value t e =
      let vs = variables_of m in
      let hole : Declared = plainly t (record { spelling = []; at = 0 }) in
      let row : List ℕ = type_code t ∷ length m.parameters ∷ replicate 16 0 in
      let place : 2 + length vs ≡ 2 + (0 + length vs) = omega arith in
      ap (λ (j : ℕ). set (typed 0 vs row) j (type_code t)) place
      ∙ sym (typed-append vs (hole ∷ []) 0 row)
      ∙ typed-row (vs ++ (hole ∷ [])) (type_code t) (length m.parameters)
      ∙ ap (λ (ws : List ℕ). type_code t ∷ length m.parameters ∷ take 16 (ws ++ replicate 16 0))
      (map-append-codes vs (hole ∷ [])) ∙ ap RowOf (sym e)
