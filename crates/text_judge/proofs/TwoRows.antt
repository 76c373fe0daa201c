-- The words of a table of two methods.
use Prim.Native.Nat.{ℕ, zero, suc, ◌+◌, ◌≤◌, ◌<◌}
use native.Mathlib.Omega.{arith}
use mathlib.Core.Path.{◌≡◌, refl, sym, ap, subst, ◌∙◌}
use mathlib.Core.List.{List, [], ◌∷◌, ◌++◌}
use lib.ListN.{get_or, length, length-append, get_or-replicate, get_or-append}
use lib.Seq.{get_or-append-add, ext_get_or}
use lib.Dec.{T}
use Rattle.table.specs.Table.{word, methods, instructions, length_of, row, return_of, params_of, slot_type, slot_types, is_type}
use Rattle.table.proofs.Accepted.{Sizes, Row}
use Rattle.table.proofs.Slots.{slot_types-length, slot_types-at}
use Rattle.text_judge.specs.RowsCode.{IsRow, no_row, two_rows}

-- The words

module _ (own callee : List ℕ) (long : ℕ) where
  pub two-methods : methods (two_rows own callee long) ≡ 2
  unfolding methods word two_rows
  two-methods = refl

  pub two-instructions : instructions (two_rows own callee long) ≡ 1
  unfolding instructions word two_rows
  two-instructions = refl

  pub two-length : length_of (two_rows own callee long) 0 ≡ long
  unfolding length_of word two_rows
  two-length = refl

  module _ (o : length own ≡ 18) (c : length callee ≡ 18) where
    pub two-sizes : Sizes (two_rows own callee long)
    unfolding methods instructions word two_rows
    two-sizes = record {
      methods-some = omega arith;
      methods-most = omega arith;
      instructions-some = omega arith;
      instructions-most = omega arith;
      words = omega (arith, length-append own (callee ++ (0 ∷ 0 ∷ [])), length-append callee (0 ∷ 0 ∷ []));
    }

    own-word : (i : ℕ) → i < 18 → get_or (two_rows own callee long) (6 + i) 0 ≡ get_or own i 0
    unfolding two_rows
    own-word i l =
        ap (λ j. get_or (two_rows own callee long) j 0) {x = 6 + i} {y = suc (suc (suc (suc (suc (suc i)))))} (omega arith)
        ∙ get_or-append own (callee ++ (0 ∷ 0 ∷ [])) 0 i (omega arith)

    callee-word : (i : ℕ) → i < 18 → get_or (two_rows own callee long) (24 + i) 0 ≡ get_or callee i 0
    unfolding two_rows
    callee-word i l =
        ap (λ j. get_or (two_rows own callee long) j 0) {x = 24 + i}
        {y = suc (suc (suc (suc (suc (suc (length own + i))))))} (omega arith)
        ∙ get_or-append-add own (callee ++ (0 ∷ 0 ∷ [])) i 0
        ∙ get_or-append callee (0 ∷ 0 ∷ []) 0 i (omega arith)

    pub own-return : return_of (two_rows own callee long) 0 ≡ get_or own 0 0
    unfolding return_of row word methods two_rows
    own-return = own-word 0 (omega arith)

    pub own-params : params_of (two_rows own callee long) 0 ≡ get_or own 1 0
    unfolding params_of row word methods two_rows
    own-params = own-word 1 (omega arith)

    pub own-slot : (s : ℕ) → s < 16 → slot_type (two_rows own callee long) 0 s ≡ get_or own (2 + s) 0
    unfolding slot_type row word methods two_rows
    own-slot s l =
        ap (λ j. get_or (two_rows own callee long) j 0) {x = 8 + s} {y = 6 + (2 + s)} (omega arith)
        ∙ own-word (2 + s) (omega arith)

    pub callee-return : return_of (two_rows own callee long) 1 ≡ get_or callee 0 0
    unfolding return_of row word methods two_rows
    callee-return = callee-word 0 (omega arith)

    pub callee-params : params_of (two_rows own callee long) 1 ≡ get_or callee 1 0
    unfolding params_of row word methods two_rows
    callee-params = callee-word 1 (omega arith)

    pub callee-slot : (s : ℕ) → s < 16 → slot_type (two_rows own callee long) 1 s ≡ get_or callee (2 + s) 0
    unfolding slot_type row word methods two_rows
    callee-slot s l =
        ap (λ j. get_or (two_rows own callee long) j 0) {x = 26 + s} {y = 24 + (2 + s)} (omega arith)
        ∙ callee-word (2 + s) (omega arith)

    -- the slot types of method 1
    pub callee-slots : (ts : List ℕ) → length ts ≡ 16 → ((s : ℕ) → s < 16 → get_or ts s 0 ≡ get_or callee (2 + s) 0)
        → slot_types (two_rows own callee long) 1 ≡ ts
    callee-slots ts n e =
        let p = two_rows own callee long in
        let long = slot_types-length p two-sizes 1 (omega (arith, two-methods)) in
        ext_get_or 0 (slot_types p 1) ts (long ∙ sym n)
        (λ s l. slot_types-at p 1 s (omega arith) ∙ callee-slot s (omega arith) ∙ sym (e s (omega arith)))

-- Rows that keep their rule

-- as they stand in a table
kept_row : (p : List ℕ) (m : ℕ) (r : List ℕ) → IsRow r → get_or r 1 0 ≤ 8 → return_of p m ≡ get_or r 0 0
    → params_of p m ≡ get_or r 1 0 → ((s : ℕ) → s < 16 → slot_type p m s ≡ get_or r (2 + s) 0) → Row p m
kept_row p m r h few e q t = record {
  returns = subst (λ k. T (is_type k)) (sym e) h.returns;
  params = omega (arith, q);
  slots = λ s l. subst (λ k. T (is_type k)) (sym (t s l)) (h.slots s l);
  parameters = λ s l z. h.parameters s (omega (arith, q)) (omega (arith, q)) (sym (t s (omega (arith, q))) ∙ z);
}

pub no-row : IsRow no_row
unfolding no_row is_type
no-row = record {
  words = refl;
  returns = tt;
  slots = λ s l. subst (λ k. T (is_type k)) (sym (nothing s l)) tt;
  parameters = λ s l k. absurd (omega arith);
}
  where
    nothing : (s : ℕ) → s < 16 → get_or no_row (2 + s) 0 ≡ 0
    nothing s l =
        ap (λ j. get_or no_row j 0) {x = 2 + s} {y = suc (suc s)} (omega arith) ∙ get_or-replicate 16 s 0 0 l

module _ (own callee : List ℕ) (long : ℕ) (o : IsRow own) (c : IsRow callee) where
  pub two-kept : get_or own 1 0 ≤ 8 → get_or callee 1 0 ≤ 8 → (m : ℕ) → m < methods (two_rows own callee long)
      → Row (two_rows own callee long) m
  two-kept few less zero l =
      kept_row _ 0 own o few (own-return own callee long o.words c.words)
      (own-params own callee long o.words c.words) (own-slot own callee long o.words c.words)
  two-kept few less (suc zero) l =
      kept_row _ 1 callee c less (callee-return own callee long o.words c.words)
      (callee-params own callee long o.words c.words) (callee-slot own callee long o.words c.words)
  two-kept few less (suc (suc m)) l = absurd (omega (arith, two-methods own callee long))
