-- What the readings of declarations answer, with what is found of the name x. These definitions follow the code.
use Rattle.std.specs.Prelude.{ℕ, suc, ◌≤◌, ◌≡◌, Bool, cond, ◌&&◌, List, [], ◌∷◌, map, ltb, length}
use Rattle.lists.specs.Lists.{same}
use Rattle.text.specs.Tree.{Name, Carried, NonVoidType, Declaration, plainly, declared_in, declared_by, Parameter, parameter_of}
use Rattle.text.specs.Translation.{type_code}
use Rattle.text_parse.specs.Tokens.{Token}
use Rattle.text_parse.specs.Grammar.{Reading, read, first, rest, next?, expect, end_names, parameter}
use Rattle.text_parse.specs.Equations.{more_names_from, variables_rule, declaration_from, declarations_from, more_parameters_from, parameters_rule}
use Rattle.text_tokens.specs.Places.{tokens_at}
use Rattle.text_types.specs.SaysCode.{Expected, Says}
use Rattle.text_types.specs.Found.{found_in, or_else}

-- 1 where the bytes are those of x
abbrev pub matching : List ℕ → List ℕ → ℕ
matching x bs = cond (same x bs) 1 0

pub record NameSays (text x : List ℕ) (i : ℕ) (ok : Bool) (at found : ℕ) : Type 0 where
  pub stands : Expected text i 33 ok at
  pub finds : found ≡ matching x (first (tokens_at text i)).bytes

-- after the names xs
abbrev pub NamesSay : List ℕ → List ℕ → ℕ → Bool → ℕ → ℕ → Type 0
NamesSay text x i ok at found =
    (t : NonVoidType) (xs : List Name)
    → Says text (suc i) (λ d. found_in x (declared_in d) ≡ or_else (found_in x (map (plainly t) xs)) found) ok at
    (more_names_from t xs (tokens_at text i))

-- the ends of a channel c
abbrev pub EndsSay : List ℕ → List ℕ → ℕ → Bool → ℕ → ℕ → Type 0
EndsSay text x i ok at found =
    (t : Carried) (c : Name)
    → Says text (suc i) (λ d. found_in x (declared_in d) ≡ or_else (cond (same x c.spelling) 2 0) found) ok at
    (end_names t c (tokens_at text i))

abbrev pub is_channel : ℕ → Bool
is_channel code = ltb 16 code && ltb code 32

-- after the type of this code and the first name
abbrev pub VariablesSay : List ℕ → List ℕ → ℕ → ℕ → ℕ → Bool → ℕ → ℕ → Type 0
VariablesSay text x i code before ok at found =
    (t : NonVoidType) (y : Name) → code ≡ type_code t → before ≡ matching x y.spelling
    → Says text (suc i) (λ d. found_in x (declared_in d) ≡ found) ok at (variables_rule t y (tokens_at text i))

abbrev pub DeclarationSays : List ℕ → List ℕ → ℕ → Bool → ℕ → ℕ → Type 0
DeclarationSays text x i ok at found =
    Says text (suc i) (λ d. found_in x (declared_in d) ≡ found) ok at (declaration_from (tokens_at text i))

-- after the declarations ds
abbrev pub DeclarationsSay : List ℕ → List ℕ → ℕ → Bool → ℕ → ℕ → Type 0
DeclarationsSay text x i ok at found =
    i ≤ length text → (ds : List Declaration)
    → Says text i (λ es. found_in x (declared_by es) ≡ or_else (found_in x (declared_by ds)) found) ok at
    (declarations_from ds (tokens_at text i))

abbrev pub ParameterSays : List ℕ → List ℕ → ℕ → Bool → ℕ → ℕ → Type 0
ParameterSays text x i ok at found =
    Says text (suc i) (λ p. found_in x (parameter_of p ∷ []) ≡ found) ok at (parameter (tokens_at text i))

-- after the parameters ps, and before a comma or the closing bracket
unfoldable pub after_parameter : List Parameter → List Token → Reading (List Parameter)
after_parameter ps ts = cond (next? "," ts) (more_parameters_from ps (rest ts)) (expect ")" ts (λ us. read ps us))

abbrev pub RestSays : List ℕ → List ℕ → ℕ → Bool → ℕ → ℕ → Type 0
RestSays text x i ok at found =
    (ps : List Parameter)
    → Says text (suc i) (λ qs. found_in x (map parameter_of qs) ≡ or_else (found_in x (map parameter_of ps)) found) ok at
    (after_parameter ps (tokens_at text i))

abbrev pub ParametersSay : List ℕ → List ℕ → ℕ → Bool → ℕ → ℕ → Type 0
ParametersSay text x i ok at found =
    Says text (suc i) (λ ps. found_in x (map parameter_of ps) ≡ found) ok at (parameters_rule (tokens_at text i))
