-- The methods of a text written down: how many there are, and four words for each of the first 32. These definitions
-- follow the code.
use Rattle.std.specs.Prelude.{ℕ, ◌+◌, ◌*◌, ◌≤◌, ◌<◌, ◌≡◌, List, length, get_or, set}
use Rattle.std.proofs.Math.Option.{some}
use Rattle.std.proofs.Math.ListN.{get_elem?}
use Rattle.std.proofs.Math.Seq.{slice}
use Rattle.text_tokens.specs.Places.{tokens_at}
use Rattle.text_methods.specs.RowsCode.{Row, rows_of}

abbrev pub entry_name : List ℕ → List ℕ → ℕ → List ℕ
entry_name text index i = slice (get_or index (4 * i + 1) 0) (get_or index (4 * i + 2) 0) text

-- Entry i: its method's name stands from a place up to another, its tokens from a place on; and how many parameters it
-- has.
pub record Entry (text index : List ℕ) (i : ℕ) (r : Row) : Type 0 where
  pub ordered : get_or index (4 * i + 1) 0 ≤ get_or index (4 * i + 2) 0
  pub within : get_or index (4 * i + 2) 0 ≤ length text
  pub spelled : entry_name text index i ≡ r.name.spelling
  pub stands : tokens_at text (get_or index (4 * i + 3) 0) ≡ r.tokens
  pub counted : get_or index (4 * i + 4) 0 ≡ r.count

pub record Indexed (text index : List ℕ) : Type 0 where
  pub long : 129 ≤ length index
  pub count : get_or index 0 0 ≡ length (rows_of text)
  pub entries : (i : ℕ) (r : Row) → i < 32 → get_elem? (rows_of text) i ≡ some r → Entry text index i r

-- an entry written
unfoldable pub with_entry : List ℕ → ℕ → ℕ → ℕ → ℕ → ℕ → List ℕ
with_entry index i start end at params =
    set (set (set (set index (4 * i + 1) start) (4 * i + 2) end) (4 * i + 3) at) (4 * i + 4) params
