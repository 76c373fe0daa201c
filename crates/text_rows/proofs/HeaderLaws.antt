-- The words that a header gives are those of the method's row, as far as a call looks at them.
use Prim.Native.Nat.{ℕ, zero, suc, ◌+◌, ◌≤◌, ◌<◌}
use native.Mathlib.Omega.{arith}
use mathlib.Core.Path.{◌≡◌, refl, sym, ap, ◌∙◌}
use mathlib.Core.List.{List, [], ◌∷◌, ◌++◌, map}
use lib.ListN.{get_or, length, take, replicate, length-append, get_or-eq_default}
use lib.Seq.{get_or-take, length-take-le}
use Rattle.text.specs.Tree.{Declared, declared_by, parameter_of, Method, body_variables}
use Rattle.text.specs.Translation.{code_of_type, variables_of, all_within, hole_type, slot_codes, row_words}
use Rattle.text.proofs.Elements.{get_d-filled}
use Rattle.text_declare.proofs.NameLaws.{map-length}
use Rattle.text_rows.specs.Header.{as_word, header_words}
use Rattle.text_rows.proofs.NotedLaws.{word_small}

-- the first codes
first-codes : (ds : List Declared) (ws : List ℕ) (s : ℕ) → s < length ds
    → get_or (map code_of_type ds ++ ws) s 0 ≡ get_or (map code_of_type ds) s 0
first-codes [] ws s l = absurd (omega arith)
first-codes (d ∷ ds) ws zero l = refl
first-codes (d ∷ ds) ws (suc s) l = first-codes ds ws s (omega arith)

first-declared : (ds es : List Declared) (s : ℕ) → s < length ds
    → get_or (map code_of_type (ds ++ es)) s 0 ≡ get_or (map code_of_type ds) s 0
first-declared [] es s l = absurd (omega arith)
first-declared (d ∷ ds) es zero l = refl
first-declared (d ∷ ds) es (suc s) l = first-declared ds es s (omega arith)

module _ (m : Method) where
  -- the codes of the parameters' types
  abbrev parameter_codes : List ℕ
  parameter_codes = map code_of_type (map parameter_of m.parameters)

  pub header-returns : get_or (header_words m) 0 0 ≡ get_or (row_words m) 0 0
  unfolding header_words row_words
  header-returns = refl

  pub header-count : length m.parameters ≤ 65535 → get_or (header_words m) 1 0 ≡ get_or (row_words m) 1 0
  unfolding header_words row_words
  header-count h = word_small (length m.parameters) h

  header-slot : (s : ℕ) → s < 16 → get_or (header_words m) (2 + s) 0 ≡ get_or parameter_codes s 0
  unfolding header_words
  header-slot s l =
      ap (λ (j : ℕ). get_or (header_words m) j 0) {x = 2 + s} {y = suc (suc s)} (omega arith)
      ∙ get_or-take 16 (parameter_codes ++ replicate 16 0) s 0 l ∙ get_d-filled parameter_codes 16 s 0

  row-slot : (s : ℕ) → s < 16 → get_or (row_words m) (2 + s) 0 ≡ get_or (slot_codes m) s 0
  unfolding row_words
  row-slot s l =
      ap (λ (j : ℕ). get_or (row_words m) j 0) {x = 2 + s} {y = suc (suc s)} (omega arith)
      ∙ get_or-take 16 (slot_codes m ++ replicate 16 0) s 0 l ∙ get_d-filled (slot_codes m) 16 s 0

  -- the types of the parameters
  pub header-types : (s : ℕ) → s < 16 → s < length m.parameters
      → get_or (header_words m) (2 + s) 0 ≡ get_or (row_words m) (2 + s) 0
  unfolding slot_codes variables_of body_variables
  header-types s l h =
      let ps = map parameter_of m.parameters in
      let body = ps ++ declared_by m.declarations in
      let same = map-length parameter_of m.parameters in
      let more = length-append ps (declared_by m.declarations) in
      let all = length-append body (all_within m.statements) in
      header-slot s l
      ∙ sym (first-codes (body ++ all_within m.statements) (hole_type m.returns) s (omega arith)
      ∙ first-declared body (all_within m.statements) s (omega arith)
      ∙ first-declared ps (declared_by m.declarations) s (omega arith))
      ∙ sym (row-slot s l)

  -- and no other
  pub header-none : (s : ℕ) → s < 16 → length m.parameters ≤ s → get_or (header_words m) (2 + s) 0 ≡ 0
  header-none s l h =
      let same = map-length code_of_type (map parameter_of m.parameters) ∙ map-length parameter_of m.parameters in
      header-slot s l ∙ get_or-eq_default parameter_codes 0 {n = s} (omega arith)

  pub header-long : length (header_words m) ≡ 18
  unfolding header_words
  header-long =
      let more = length-append parameter_codes (replicate 16 0) in
      ap (λ (k : ℕ). suc (suc k)) (length-take-le 16 (parameter_codes ++ replicate 16 0) (omega arith))
