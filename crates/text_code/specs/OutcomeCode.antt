-- What an emission comes to: the instructions of a part of a text are written into a buffer, and the variables declared
-- in it get their slots, or they do not fit. These definitions follow the code.
use Rattle.std.specs.Prelude.{ℕ, ◌+◌, ◌*◌, ◌≤◌, ◌<◌, ◌≡◌, ◌⊎◌, Bool, true, false, List, length}
use Rattle.lists.specs.Lists.{every, put_from}
use Rattle.text.specs.Tree.{Declared}
use Rattle.text.specs.Translation.{Instruction, code_words, Scope}
use Rattle.text_parse.specs.Tokens.{Token}
use Rattle.text_tokens.specs.Places.{tokens_at}
use Rattle.text_slots.specs.Placing.{Placing}
use Rattle.text_numbering.specs.CodeBy.{number_fits}
use Rattle.text_declare.specs.Entered.{typed}

-- The lent tables: n variables in scope, so many slots given out, so many instructions in the buffer.
pub record Tables : Type 0 where
  pub n : ℕ
  pub used : ℕ
  pub count : ℕ
  pub scope : List ℕ
  pub row : List ℕ
  pub code : List ℕ

-- the instructions c are written, and the variables ds have their slots; what was in scope before still is
pub record Written (text : List ℕ) (c : List Instruction) (ds : List Declared) (σ τ : Tables) : Type 0 where
  pub counted : τ.count ≡ σ.count + length c
  pub few : τ.count ≤ 4096
  pub given : τ.used ≡ σ.used + length ds
  pub room : τ.used ≤ 16
  pub same-scope : τ.n ≡ σ.n
  pub words : τ.code ≡ put_from σ.code (2 * σ.count) (code_words c)
  pub types : τ.row ≡ typed σ.used ds σ.row
  pub kept : (m : ℕ) (sc : Scope) → m ≤ σ.n → Placing text σ.scope m sc → Placing text τ.scope m sc

-- They do not fit: more than 4,096 instructions, a number above 32,767, or more than 16 slots.
abbrev pub Overflow : Tables → List Instruction → List Declared → Type 0
Overflow σ c ds =
    (4096 < σ.count + length c) ⊎ ((every number_fits c ≡ false) ⊎ (16 < σ.used + length ds))

-- The tokens us come after the part.
pub data Outcome (text : List ℕ) (low : ℕ) (c : List Instruction) (ds : List Declared) (us : List Token) (σ : Tables)
    (ok : Bool) (at : ℕ) (τ : Tables) : Type 0 where
  all-written : ok ≡ true → low ≤ at → at ≤ length text → us ≡ tokens_at text at → every number_fits c ≡ true
      → Written text c ds σ τ → Outcome text low c ds us σ ok at τ
  over : ok ≡ false → Overflow σ c ds → Outcome text low c ds us σ ok at τ
