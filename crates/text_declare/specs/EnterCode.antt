-- What the readings answer that enter what is declared. These definitions follow the code.
use Rattle.std.specs.Prelude.{ℕ, suc, ◌≤◌, ◌≡◌, Bool, true, false, List, [], ◌∷◌, map, length}
use Rattle.std.proofs.Math.Seq.{slice}
use Rattle.text.specs.Tree.{Name, Carried, NonVoidType, channel_type, Declaration, withends, Declared, plainly, declared_in, declared_by, Parameter, parameter_of}
use Rattle.text.specs.Translation.{type_code, code_of_type, truth_word}
use Rattle.text_parse.specs.Tokens.{Token}
use Rattle.text_parse.specs.Grammar.{Reading, read, leaves, first, expect_name, end_names, parameter}
use Rattle.text_parse.specs.Equations.{more_names_from, variables_rule, declaration_from, declarations_from, parameters_rule}
use Rattle.text_tokens.specs.Places.{tokens_at}
use Rattle.text_types.specs.SaysCode.{Expected}
use Rattle.text_types.specs.FoundCode.{after_parameter}
use Rattle.text_declare.specs.Entered.{Tables, Fits, Entered, Entering}

-- A name must stand at i: its bytes are those from start up to at.
pub record NameStands (text : List ℕ) (i : ℕ) (ok : Bool) (start at : ℕ) : Type 0 where
  pub stands : Expected text i 33 ok at
  pub spelt : ok ≡ true → (first (tokens_at text i)).bytes ≡ slice start at text

-- What a reading of A enters, where `ds` is what is declared by an A. A text that leaves the grammar may have entered
-- anything: what it enters is not asked.
pub data Enters (text : List ℕ) {A : Type 0} (ds : A → List Declared) (σ : Tables) (ok : Bool) (at : ℕ) (τ : Tables)
    : Reading A → Type 0 where
  enters : {a : A} {us : List Token} → (ok ≡ true → us ≡ tokens_at text at) → Entering text (ds a) σ ok τ
      → Enters text ds σ ok at τ (read a us)
  left : {i : ℕ} → ok ≡ false → Enters text ds σ ok at τ (leaves i)

-- what is read ends in the text, from a place on
abbrev pub Onward : List ℕ → ℕ → Bool → ℕ → Type 0
Onward text low ok at = ok ≡ true → (low ≤ at) × (at ≤ length text)

-- an answer: where the reading ends, if it does, and what it says
pub record Answer (text : List ℕ) (low : ℕ) (ok : Bool) (at : ℕ) (S : Type 0) : Type 0 where
  pub onward : Onward text low ok at
  pub says : S

-- one variable, whose name stands from start up to end
abbrev pub VariableEnters : ℕ → ℕ → ℕ → ℕ → Tables → Bool → Tables → Type 0
VariableEnters start end flag code σ ok τ =
    (text : List ℕ) (d : Declared) → d.name.spelling ≡ slice start end text → flag ≡ truth_word d.ends
    → code ≡ code_of_type d → Fits σ → Entering text (d ∷ []) σ ok τ

-- a channel and its ends
abbrev pub ThreeEnter : ℕ → ℕ → ℕ → ℕ → ℕ → ℕ → ℕ → Tables → Bool → Tables → Type 0
ThreeEnter start end start0 end0 start1 end1 code σ ok τ =
    (text : List ℕ) (t : Carried) (c a b : Name) → c.spelling ≡ slice start end text
    → a.spelling ≡ slice start0 end0 text → b.spelling ≡ slice start1 end1 text → code ≡ type_code (channel_type t)
    → Fits σ → Entering text (declared_in (withends t c a b)) σ ok τ

-- a name that must stand at i, of the type of this code
unfoldable pub a_name : List Token → Reading Name
a_name ts = expect_name ts (λ x us. read x us)

abbrev pub NameEnters : List ℕ → ℕ → ℕ → Tables → Bool → ℕ → Tables → Type 0
NameEnters text i code σ ok at τ =
    Answer text (suc i) ok at ((t : NonVoidType) → code ≡ type_code t → Fits σ
    → Enters text (λ x. plainly t x ∷ []) σ ok at τ (a_name (tokens_at text i)))

-- after the names xs, entered since σ₀
abbrev pub NamesEnter : List ℕ → ℕ → ℕ → Tables → Bool → ℕ → Tables → Type 0
NamesEnter text i code σ ok at τ =
    Answer text (suc i) ok at ((t : NonVoidType) (xs : List Name) (σ₀ : Tables) → code ≡ type_code t
    → Entered text (map (plainly t) xs) σ₀ σ
    → Enters text declared_in σ₀ ok at τ (more_names_from t xs (tokens_at text i)))

-- the ends of a channel whose name stands from start up to end, and the channel before them
abbrev pub EndsEnter : List ℕ → ℕ → ℕ → ℕ → ℕ → Tables → Bool → ℕ → Tables → Type 0
EndsEnter text i start end code σ ok at τ =
    Answer text (suc i) ok at ((t : Carried) (c : Name) → c.spelling ≡ slice start end text
    → code ≡ type_code (channel_type t) → Fits σ → Enters text declared_in σ ok at τ (end_names t c (tokens_at text i)))

-- after the type of this code and the first name, which stands from start up to end
abbrev pub VariablesEnter : List ℕ → ℕ → ℕ → ℕ → ℕ → Tables → Bool → ℕ → Tables → Type 0
VariablesEnter text i start end code σ ok at τ =
    Answer text (suc i) ok at ((t : NonVoidType) (y : Name) → y.spelling ≡ slice start end text
    → code ≡ type_code t → Fits σ → Enters text declared_in σ ok at τ (variables_rule t y (tokens_at text i)))

abbrev pub DeclarationEnters : List ℕ → ℕ → Tables → Bool → ℕ → Tables → Type 0
DeclarationEnters text i σ ok at τ =
    Answer text (suc i) ok at (Fits σ → Enters text declared_in σ ok at τ (declaration_from (tokens_at text i)))

-- after the declarations ds, entered since σ₀
abbrev pub DeclarationsEnter : List ℕ → ℕ → Tables → Bool → ℕ → Tables → Type 0
DeclarationsEnter text i σ ok at τ =
    i ≤ length text → Answer text i ok at ((ds : List Declaration) (σ₀ : Tables) → Entered text (declared_by ds) σ₀ σ
    → Enters text declared_by σ₀ ok at τ (declarations_from ds (tokens_at text i)))

abbrev pub ParameterEnters : List ℕ → ℕ → Tables → Bool → ℕ → Tables → Type 0
ParameterEnters text i σ ok at τ =
    Answer text (suc i) ok at (Fits σ
    → Enters text (λ p. parameter_of p ∷ []) σ ok at τ (parameter (tokens_at text i)))

-- after the parameters ps, entered since σ₀, and before a comma or the closing bracket
abbrev pub RestEnters : List ℕ → ℕ → Tables → Bool → ℕ → Tables → Type 0
RestEnters text i σ ok at τ =
    Answer text (suc i) ok at ((ps : List Parameter) (σ₀ : Tables) → Entered text (map parameter_of ps) σ₀ σ
    → Enters text (map parameter_of) σ₀ ok at τ (after_parameter ps (tokens_at text i)))

abbrev pub ParametersEnter : List ℕ → ℕ → Tables → Bool → ℕ → Tables → Type 0
ParametersEnter text i σ ok at τ =
    Answer text (suc i) ok at (Fits σ
    → Enters text (map parameter_of) σ ok at τ (parameters_rule (tokens_at text i)))
