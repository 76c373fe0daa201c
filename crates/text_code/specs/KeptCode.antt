-- The code of a text's methods, kept in one buffer, one after the other in text order. These definitions follow the
-- code.
use Rattle.std.specs.Prelude.{ℕ, zero, suc, ◌+◌, ◌*◌, ◌<◌, ◌≡◌, List, get_or, drop}
use Rattle.std.proofs.Math.Option.{some}
use Rattle.text.specs.Tree.{Method, Program, main_first, method_at}
use Rattle.text.specs.Translation.{code_words}
use Rattle.text_numbering.specs.CodeBy.{place_of}
use Rattle.text_code.specs.StatementBy.{method_by}

-- so many instructions of a buffer are the method's, each call with the place of the called name
abbrev pub CodeOf : Program → Method → List ℕ → ℕ → Type 0
CodeOf ms m code long = (j : ℕ) → j < 2 * long → get_or code j 0 ≡ get_or (code_words (method_by place_of ms m)) j 0

-- how many instructions the first k methods have, by their lengths
unfoldable pub offset_in : List ℕ → ℕ → ℕ
offset_in lengths zero = 0
offset_in lengths (suc k) = offset_in lengths k + get_or lengths k 0

-- the code of the first k methods is kept
abbrev pub CodeKept : Program → ℕ → List ℕ → List ℕ → Type 0
CodeKept ns k lengths kept =
    (i : ℕ) (m : Method) → i < k → method_at ns i ≡ some m
    → CodeOf (main_first ns) m (drop (2 * offset_in lengths i) kept) (get_or lengths i 0)
