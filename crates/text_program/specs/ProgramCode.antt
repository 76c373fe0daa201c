-- What the reading of a whole text answers: whether it comes to a tree, and the text's length, or the place at which it
-- leaves the grammar. These definitions follow the code.
use Rattle.std.specs.Prelude.{ℕ, ◌≡◌, Bool, true, false, List, length}
use Rattle.text.specs.Tree.{Program}
use Rattle.text_parse.specs.Grammar.{Reading, read, leaves}

unfoldable pub is_read : {A : Type 0} → Reading A → Bool
is_read (read a us) = true
is_read (leaves i) = false

unfoldable pub end_place : {A : Type 0} → ℕ → Reading A → ℕ
end_place bytes (read a us) = bytes
end_place bytes (leaves i) = i

abbrev pub ProgramSays : List ℕ → Bool → ℕ → Reading Program → Type 0
ProgramSays text ok at m = (ok ≡ is_read m) × (at ≡ end_place (length text) m)
