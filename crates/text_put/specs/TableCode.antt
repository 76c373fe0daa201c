-- The words of a table as the code writes them. These definitions follow the code; that they are the words of the
-- text's table is proved (proofs/Assembled.antt).
use Rattle.std.specs.Prelude.{ℕ, zero, suc, ◌+◌, ◌*◌, ◌-◌, ◌%◌, ◌≡◌, Bool, cond, ◌||◌, List, [], ◌∷◌, ◌++◌, map, length, get_or, eqb, ltb, leb}
use Rattle.std.proofs.Math.Seq.{slice}
use Rattle.lists.specs.Lists.{put_from}
use Rattle.text_parse.specs.Grammar.{first}
use Rattle.text_tokens.specs.Places.{tokens_at}
use Rattle.text_methods.specs.RowsCode.{rows_of, row_index}

-- words of 16 bits
unfoldable pub words : List ℕ → List ℕ
words xs = map (λ (x : ℕ). x % 65536) xs

-- what a function here ensures: these are written as such words, and the answer is the index after them
abbrev pub Writes : List ℕ → ℕ → List ℕ → List ℕ → ℕ → Type 0
Writes out at xs out' r = (out' ≡ put_from out at (words xs)) × (r ≡ at + length (words xs))

-- Main is the method of index `main` in text order. The index in text order of the table's method k, and the number in
-- the table of the method of index i.
unfoldable pub index_in : ℕ → ℕ → ℕ
index_in main k = cond (eqb k 0) main (cond (leb k main) (k - 1) k)

unfoldable pub number_in : ℕ → ℕ → ℕ
number_in main i = cond (eqb i main) 0 (cond (ltb i main) (i + 1) i)

-- the pairs of the first k methods, from the methods' lengths in text order, and the offset after them
unfoldable pub offset_to : List ℕ → ℕ → ℕ → ℕ
offset_to lengths main zero = 0
offset_to lengths main (suc k) = offset_to lengths main k + get_or lengths (index_in main k) 0

unfoldable pub pairs_to : List ℕ → ℕ → ℕ → List ℕ
pairs_to lengths main zero = []
pairs_to lengths main (suc k) =
    pairs_to lengths main k ++ (offset_to lengths main k ∷ get_or lengths (index_in main k) 0 ∷ [])

-- row i of the rows in text order, and the rows of the first k methods
abbrev pub row_in : List ℕ → ℕ → List ℕ
row_in rows i = slice (18 * i) (18 * i + 18) rows

unfoldable pub rows_to : List ℕ → ℕ → ℕ → List ℕ
rows_to rows main zero = []
rows_to rows main (suc k) = rows_to rows main k ++ row_in rows (index_in main k)

-- CALL and FORK: their argument in the buffer is the place of the called name
unfoldable pub calls : ℕ → Bool
calls op = eqb op 12 || eqb op 14

-- the number of the method whose name stands at a place
unfoldable pub called_at : List ℕ → ℕ → ℕ → ℕ
called_at text main a =
    cond (leb a (length text)) (number_in main (row_index (first (tokens_at text a)).bytes (rows_of text))) 0

-- an argument, with the method given by f from the place
unfoldable pub argument_by : (ℕ → ℕ) → ℕ → ℕ → ℕ
argument_by f op a = cond (calls op) (f a) a

-- the first j instructions of a buffer
unfoldable pub code_to : (ℕ → ℕ) → List ℕ → ℕ → List ℕ
code_to f code zero = []
code_to f code (suc j) =
    code_to f code j ++ (get_or code (2 * j) 0 ∷ argument_by f (get_or code (2 * j) 0) (get_or code (2 * j + 1) 0) ∷ [])
