-- How far the code of a text's table is written. These definitions follow the code.
use Rattle.std.specs.Prelude.{ℕ, ◌≡◌, List, ◌∷◌, ◌++◌, get_or, length, take}
use Rattle.std.proofs.Math.Option.{some}
use Rattle.text.specs.Tree.{ascii, Method, Program, main_first, without_main, method_at, number_of}
use Rattle.text.specs.Translation.{method_code, program_code, code_words}
use Rattle.text_put.specs.TableCode.{Writes, pairs_to, rows_to}
use Rattle.text_put.specs.Measures.{TableText}

-- main's index in text order
abbrev pub main_index : Program → ℕ
main_index ns = number_of ns (record { spelling = ascii "main"; at = 0 })

-- the text is ns's and is given a table, and main is its method of this index
pub record Writing (text : List ℕ) (ns : Program) (main : ℕ) : Type 0 where
  pub given : TableText text ns
  pub index : main ≡ main_index ns

-- the lengths of its methods, in text order
abbrev pub Lengths : Program → List ℕ → Type 0
Lengths ns lengths =
    (i : ℕ) (m : Method) → method_at ns i ≡ some m → get_or lengths i 0 ≡ length (method_code (main_first ns) m)

-- the code of the others among the first k methods stands in the table up to i
pub record OthersPut (ns : Program) (k at : ℕ) (table table' : List ℕ) (i : ℕ) : Type 0 where
  pub written : Writes table at (code_words (program_code (main_first ns) (without_main (take k ns)))) table' i

-- the words before the code: the numbers of methods and instructions, the pairs, the rows
abbrev pub head_words : ℕ → ℕ → List ℕ → List ℕ → ℕ → List ℕ
head_words methods instructions lengths rows main =
    methods ∷ instructions ∷ (pairs_to lengths main methods ++ rows_to rows main methods)
