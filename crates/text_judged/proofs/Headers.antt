-- A call looks at no more of its method's row than the header says.
use Prim.Native.Nat.{ℕ, zero, suc, ◌+◌, ◌≤◌, ◌<◌}
use native.Mathlib.Omega.{arith}
use mathlib.Core.Logic.{⊎_elim}
use mathlib.Core.Path.{◌≡◌, refl, sym, ap, ap₂, subst, ◌∙◌}
use mathlib.Core.Bool.{Bool, true, false, cond, ◌&&◌, ◌||◌, not}
use mathlib.Core.List.{List, [], ◌∷◌, ◌++◌, map, reverse}
use mathlib.Core.Option.{Option, none, some}
use lib.ListN.{get_or, length, take, drop, replicate, length-append, length-take, length-map, length-reverse, get_or-eq_default}
use lib.Seq.{get_or-take, ext_get_or}
use lib.Dec.{T, eqb, leb, ltb}
use mir.Facts.{eqb_yes, eqb_no}
use borrow.Author.Tests.{ltb-true, ltb-false, leb-true}
use Rattle.lists.specs.Lists.{same}
use Rattle.lists.proofs.Laws.{same-equal}
use Rattle.lists.proofs.Tests.{decide, failed, or_cases, passes}
use Rattle.table.specs.Table.{methods, return_of, params_of, slot_types, param_types, is_type}
use Rattle.table.specs.Ops.{returned}
use Rattle.table.specs.Reading.{is_nil}
use Rattle.table.proofs.Ops.{ops-opened}
use Rattle.check_types.specs.RulesCode.{rule_result, step_of, stepped}
use Rattle.text.specs.Tree.{Method, Parameter, Declared, parameter_of, declared_by, body_variables}
use Rattle.text.specs.Translation.{code_of_type, row_words, slot_codes, variables_of, hole_type, all_within}
use Rattle.text.proofs.Elements.{get_d-filled}
use Rattle.text.proofs.Rows.{return-code, slot-type, parameter-type}
use Rattle.text.proofs.Words.{row_words-length}
use Rattle.text_judge.specs.RowsCode.{IsRow, calls, two_rows, judged_at}
use Rattle.text_judge.proofs.TwoRows.{two-methods, callee-return, callee-params, callee-slots}
use Rattle.text_rows.specs.Header.{as_word, header_words}
use Rattle.text_rows.proofs.NotedLaws.{word_small}

-- the codes of a method's parameters
abbrev codes : Method → List ℕ
codes m = map code_of_type (map parameter_of m.parameters)

codes-length : (m : Method) → length (codes m) ≡ length m.parameters
codes-length m = length-map (map parameter_of m.parameters) code_of_type ∙ length-map m.parameters parameter_of

-- they stand in its first slots
codes-first : (ps : List Parameter) (ds es : List Declared) (ts : List ℕ) (s : ℕ) → s < length ps
    → get_or (map code_of_type (map parameter_of ps)) s 0 ≡ get_or (map code_of_type ((map parameter_of ps ++ ds) ++ es) ++ ts) s
    0
codes-first [] ds es ts s l = absurd (omega arith)
codes-first (p ∷ ps) ds es ts zero l = refl
codes-first (p ∷ ps) ds es ts (suc s) l = codes-first ps ds es ts s (omega arith)

code-slot : (m : Method) (s : ℕ) → s < length m.parameters → get_or (codes m) s 0 ≡ get_or (slot_codes m) s 0
unfolding slot_codes variables_of body_variables
code-slot m s l =
    codes-first m.parameters (declared_by m.declarations) (all_within m.statements) (hole_type m.returns) s l

header-slot : (m : Method) (s : ℕ) → s < 16 → get_or (header_words m) (2 + s) 0 ≡ get_or (codes m) s 0
unfolding header_words
header-slot m s l =
    ap (λ j. get_or (header_words m) j 0) {x = 2 + s} {y = suc (suc s)} (omega arith)
    ∙ get_or-take 16 (codes m ++ replicate 16 0) s 0 l
    ∙ get_d-filled (codes m) 16 s 0

-- fewer than 16 of so many, as a word or not
word-least : (n s : ℕ) → s < 17 → s < as_word n → s < n
unfolding as_word
word-least n s l h = by (ltb n 65535) refl h
  where
    by : (b : Bool) → ltb n 65535 ≡ b → s < cond b n 65535 → s < n
    by true q k = k
    by false q k = omega (arith, ltb-false n 65535 q)

word_more : (n s : ℕ) → s < 17 → s < n → s < as_word n
unfolding as_word
word_more n s l h = by (ltb n 65535) refl
  where
    by : (b : Bool) → ltb n 65535 ≡ b → s < cond b n 65535
    by true q = h
    by false q = omega arith

pub header_row : (m : Method) → IsRow (header_words m)
unfolding header_words is_type
header_row m = record {
  words = omega (
    arith,
    length-take 16 (codes m ++ replicate 16 0),
    length-append (codes m) (replicate 16 0),
  );
  returns = return-code m.returns;
  slots = λ s l. subst (λ t. T (is_type t)) (sym (header-slot m s l)) (code-type s);
  parameters = λ s l k z.
      let within = word-least (length m.parameters) s (omega arith) k in
      eqb_no {a = get_or (slot_codes m) s 0} {b = 0} (parameter-type m s within)
      (sym (header-slot m s l ∙ code-slot m s within) ∙ z);
}
  where
    code-type : (s : ℕ) → T (is_type (get_or (codes m) s 0))
    code-type s =
        ⊎_elim
        (λ q. subst (λ t. T (is_type t)) (sym (code-slot m s (ltb-true s (length m.parameters) q))) (slot-type m s))
        (λ q. subst (λ t. T (is_type t)) (sym (get_or-eq_default (codes m) 0
        (omega (arith, codes-length m, ltb-false s (length m.parameters) q)))) tt)
        (decide (ltb s (length m.parameters)))

-- a call of a method with more parameters than have types is a fault
too_many : (n : ℕ) (ws gs : List ℕ) (bare : Bool) (ts : List ℕ) → length ws < n
    → step_of n (λ xs. cond (same xs ws) (some gs) none) bare ts ≡ none
unfolding step_of rule_result
too_many n ws gs bare ts l = by (leb n (length ts)) refl
  where
    other : n ≤ length ts → same (take n ts) ws ≡ false
    other h = failed (same (take n ts) ws) (λ t. omega (
      arith,
      length-take n ts,
      ap length (same-equal (take n ts) ws t),
    ))

    by : (b : Bool) → leb n (length ts) ≡ b
        → rule_result bare (drop n ts) (cond b (cond (same (take n ts) ws) (some gs) none) none) ≡ none
    by true q = rw (other (leb-true n (length ts) q)) refl
    by false q = refl

module _ (own : List ℕ) (long : ℕ) (k : Method) (o : length own ≡ 18) where
  abbrev p : List ℕ
  p = two_rows own (row_words k) long

  abbrev q : List ℕ
  q = two_rows own (header_words k) long

  abbrev count : ℕ
  count = length k.parameters

  returns-same : return_of p 1 ≡ return_of q 1
  unfolding row_words header_words
  returns-same =
      callee-return own (row_words k) long o (row_words-length k)
      ∙ sym (callee-return own (header_words k) long o (header_row k).words)

  row_count : params_of p 1 ≡ count
  unfolding row_words
  row_count = callee-params own (row_words k) long o (row_words-length k)

  header-count : params_of q 1 ≡ as_word count
  unfolding header_words
  header-count = callee-params own (header_words k) long o (header_row k).words

  row-slots : slot_types p 1 ≡ take 16 (slot_codes k ++ replicate 16 0)
  unfolding row_words
  row-slots =
      callee-slots own (row_words k) long o (row_words-length k) (take 16 (slot_codes k ++ replicate 16 0))
      (omega (
        arith,
        length-take 16 (slot_codes k ++ replicate 16 0),
        length-append (slot_codes k) (replicate 16 0),
      ))
      (λ s l. ap (λ j. get_or (row_words k) j 0) {x = suc (suc s)} {y = 2 + s} (omega arith))

  header-slots : slot_types q 1 ≡ take 16 (codes k ++ replicate 16 0)
  unfolding header_words
  header-slots =
      callee-slots own (header_words k) long o (header_row k).words (take 16 (codes k ++ replicate 16 0))
      (omega (
        arith,
        length-take 16 (codes k ++ replicate 16 0),
        length-append (codes k) (replicate 16 0),
      ))
      (λ s l. ap (λ j. get_or (header_words k) j 0) {x = suc (suc s)} {y = 2 + s} (omega arith))

  -- up to 16 parameters
  module _ (few : count ≤ 16) where
    params_same : params_of p 1 ≡ params_of q 1
    params_same = row_count ∙ sym (header-count ∙ word_small count (omega arith))

    types_same : param_types p 1 ≡ param_types q 1
    unfolding param_types
    types_same =
        ap₂ take row_count row-slots
        ∙ ext_get_or 0 (take count (take 16 (slot_codes k ++ replicate 16 0)))
        (take count (take 16 (codes k ++ replicate 16 0)))
        (omega (
          arith,
          length-take count (take 16 (slot_codes k ++ replicate 16 0)),
          length-take count (take 16 (codes k ++ replicate 16 0)),
          length-take 16 (slot_codes k ++ replicate 16 0),
          length-append (slot_codes k) (replicate 16 0),
          length-take 16 (codes k ++ replicate 16 0),
          length-append (codes k) (replicate 16 0),
        ))
        (λ i l.
        let within : i < count = omega (arith, length-take count (take 16 (slot_codes k ++ replicate 16 0))) in
        get_or-take count (take 16 (slot_codes k ++ replicate 16 0)) i 0 within
        ∙ get_or-take 16 (slot_codes k ++ replicate 16 0) i 0 (omega arith)
        ∙ get_d-filled (slot_codes k) 16 i 0
        ∙ sym (get_or-take count (take 16 (codes k ++ replicate 16 0)) i 0 within
        ∙ get_or-take 16 (codes k ++ replicate 16 0) i 0 (omega arith)
        ∙ get_d-filled (codes k) 16 i 0
        ∙ code-slot k i within))
        ∙ sym (ap₂ take (sym params_same ∙ row_count) header-slots)

  -- more
  types-most : (r xs : List ℕ) → slot_types r 1 ≡ take 16 xs → length (reverse (param_types r 1)) ≤ 16
  unfolding param_types
  types-most r xs e =
      omega (
        arith,
        length-reverse (take (params_of r 1) (slot_types r 1)),
        length-take (params_of r 1) (slot_types r 1),
        ap length e,
        length-take 16 xs,
      )

  abbrev calling : Bool → List ℕ → List ℕ → List ℕ → Option (List ℕ)
  calling bare ts r gs = step_of (params_of r 1) (λ xs. cond (same xs (reverse (param_types r 1))) (some gs) none) bare ts

  step_same : (bare : Bool) (ts gs hs : List ℕ) → gs ≡ hs → calling bare ts p gs ≡ calling bare ts q hs
  step_same bare ts gs hs e = ⊎_elim few many (decide (ltb count 17))
    where
      few : ltb count 17 ≡ true → calling bare ts p gs ≡ calling bare ts q hs
      few t =
          let l : count ≤ 16 = omega (arith, ltb-true count 17 t) in
          rw (params_same l, types_same l, e) refl

      many : ltb count 17 ≡ false → calling bare ts p gs ≡ calling bare ts q hs
      many t =
          let l = ltb-false count 17 t in
          too_many (params_of p 1) (reverse (param_types p 1)) gs bare ts
          (omega (arith, row_count, types-most p (slot_codes k ++ replicate 16 0) row-slots))
          ∙ sym (too_many (params_of q 1) (reverse (param_types q 1)) hs bare ts
          (omega (
            arith,
            header-count,
            word_more count 16 (omega arith) (omega arith),
            types-most q (codes k ++ replicate 16 0) header-slots,
          )))

  -- a call judged by the row and by the header
  module _ (target last : Bool) (ts : List ℕ) where
    abbrev Judged : ℕ → Type 0
    Judged op = judged_at p op 1 target last ts ≡ judged_at q op 1 target last ts

    there : ltb 1 (methods p) ≡ ltb 1 (methods q)
    there = ap (ltb 1) (two-methods own (row_words k) long ∙ sym (two-methods own (header_words k) long))

    by_call : Judged 12
    unfolding judged_at stepped ops-opened
    by_call =
        ap₂ (λ b r. cond (b && ((not target || is_nil ts) && (not last || false))) r none) there
        (step_same false ts (returned (return_of p 1)) (returned (return_of q 1)) (ap returned returns-same))

    by-fork : Judged 14
    unfolding judged_at stepped ops-opened
    by-fork =
        ap₂ (λ b r. cond (b && ((not target || is_nil ts) && (not last || false))) r none) there
        (step_same true ts [] [] refl)

    pub call-judged : (op : ℕ) → calls op ≡ true → Judged op
    unfolding calls
    call-judged op e =
        ⊎_elim (λ u. subst Judged (sym (eqb_yes {a = op} {b = 12} u)) by_call)
        (λ u. subst Judged (sym (eqb_yes {a = op} {b = 14} u)) by-fork) (or_cases (eqb op 12) (eqb op 14) (passes e))
