-- The types of parameters, noted in a row one after the other. These definitions follow the code.
use Rattle.std.specs.Prelude.{ℕ, suc, ◌+◌, ◌≡◌, Bool, cond, List, [], ◌∷◌, ltb, get_or, set}
use Rattle.text.specs.Tree.{Parameter}
use Rattle.text.specs.Translation.{type_code}
use Rattle.text_parse.specs.Grammar.{parameter}
use Rattle.text_parse.specs.Equations.{parameters_rule}
use Rattle.text_tokens.specs.Places.{tokens_at}
use Rattle.text_types.specs.SaysCode.{Says}
use Rattle.text_types.specs.FoundCode.{after_parameter}
use Rattle.text_types.specs.Every.{Every}

-- the row with the code of one parameter's type more: word 1 counts, up to the largest word, and the first 16 are kept
unfoldable pub noted : ℕ → List ℕ → List ℕ
noted code row =
    cond (ltb 65534 (get_or row 1 0)) row
    (cond (ltb 15 (get_or row 1 0)) (set row 1 (get_or row 1 0 + 1))
    (set (set row 1 (get_or row 1 0 + 1)) (2 + get_or row 1 0) code))

unfoldable pub noted_all : List Parameter → List ℕ → List ℕ
noted_all [] row = row
noted_all (p ∷ ps) row = noted_all ps (noted (type_code p.type) row)

-- a parameter's type has this code
abbrev pub ParameterType : List ℕ → ℕ → Bool → ℕ → ℕ → Type 0
ParameterType text i ok at code =
    Says text (suc i) (λ (p : Parameter). code ≡ type_code p.type) ok at (parameter (tokens_at text i))

-- after the parameters ps, noted in the row `base`
abbrev pub RestNotes : List ℕ → ℕ → List ℕ → List ℕ → Type 0
RestNotes text i before after =
    (ps : List Parameter) (base : List ℕ) → before ≡ noted_all ps base
    → Every (λ qs. after ≡ noted_all qs base) (after_parameter ps (tokens_at text i))

abbrev pub ParametersNote : List ℕ → ℕ → List ℕ → List ℕ → Type 0
ParametersNote text i before after =
    Every (λ ps. after ≡ noted_all ps before) (parameters_rule (tokens_at text i))
