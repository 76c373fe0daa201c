-- What a reading within open blocks answers. These definitions follow the code.
use Rattle.std.specs.Prelude.{ℕ, suc, ◌+◌, ◌≤◌, Bool, List, [], length}
use Rattle.text_parse.specs.Tokens.{Token}
use Rattle.text_parse.specs.Grammar.{Reading, Scopes}
use Rattle.text_parse.specs.Equations.{declarations_from}
use Rattle.text_tokens.specs.Places.{tokens_at}
use Rattle.text_types.specs.SaysCode.{Says}
use Rattle.text_scopes.specs.OpenCode.{Opened}

-- up to which place a reading goes, or where it leaves the grammar; its tree is of no interest here
abbrev pub Reads : List ℕ → ℕ → {A : Type 0} → Bool → ℕ → Reading A → Type 0
Reads text low {A} ok at m = Says text low (λ (a : A). Unit {0}) ok at m

-- the same of a reading from place i on, within n open blocks
abbrev pub Within : List ℕ → List ℕ → ℕ → ℕ → {A : Type 0} → (Scopes → List Token → Reading A) → Bool → ℕ → Type 0
Within text starts n i m ok at =
    (scopes : Scopes) → Opened text starts n scopes → n ≤ 32 → Reads text (suc i) ok at (m scopes (tokens_at text i))

-- the declarations from place i on
abbrev pub DeclarationsEnd : List ℕ → ℕ → Bool → ℕ → Type 0
DeclarationsEnd text i ok at = i ≤ length text → Reads text i ok at (declarations_from [] (tokens_at text i))

-- n blocks are open, and `left` levels may open within them
pub record Inside (text starts : List ℕ) (n left : ℕ) : Type 0 where
  pub scopes : Scopes
  pub opened : Opened text starts n scopes
  pub levels : n + left ≤ 32
