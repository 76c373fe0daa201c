-- The number of each kind of token. These definitions follow the code; that they say what the grammar asks of a token
-- is proved (proofs/KindTests.antt).
use Rattle.std.specs.Prelude.{ℕ, suc, cond, List, [], ◌∷◌, eqb, length}
use Rattle.lists.specs.Lists.{same}
use Rattle.text.specs.Tree.{ascii}
use Rattle.text_parse.specs.Tokens.{is_digit, is_letter, reserved}

abbrev pub marks : List (List ℕ)
marks =
    ascii "(" ∷ ascii ")" ∷ ascii "{" ∷ ascii "}" ∷ ascii "[" ∷ ascii "]" ∷ ascii "," ∷ ascii ";" ∷ ascii "+"
    ∷ ascii "-" ∷ ascii "=" ∷ ascii "==" ∷ ascii "<" ∷ []

-- the place of the bytes among words that are counted from k on; `otherwise` where they are none of them
unfoldable pub place_from : ℕ → List (List ℕ) → ℕ → List ℕ → ℕ
place_from k [] otherwise bs = otherwise
place_from k (w ∷ ws) otherwise bs = cond (same bs w) k (place_from (suc k) ws otherwise bs)

-- the same, with words of n bytes alone
unfoldable pub place_of_length : ℕ → ℕ → List (List ℕ) → ℕ → List ℕ → ℕ
place_of_length n k [] otherwise bs = otherwise
place_of_length n k (w ∷ ws) otherwise bs =
    let later = place_of_length n (suc k) ws otherwise bs in
    cond (eqb (length w) n) (cond (same bs w) k later) later

-- a reserved word, 0 to 18, or a name, 33
unfoldable pub word_kind : List ℕ → ℕ
word_kind bs = place_from 0 reserved 33 bs

unfoldable pub word_of_length : ℕ → List ℕ → ℕ
word_of_length n bs = place_of_length n 0 reserved 33 bs

-- a mark, 19 to 31, or a bad token, 35
unfoldable pub mark_kind : List ℕ → ℕ
mark_kind bs = place_from 19 marks 35 bs

-- 32 is the end of the text, 34 a number
unfoldable pub kind_of : List ℕ → ℕ
kind_of [] = 32
kind_of (b ∷ bs) = cond (is_letter b) (word_kind (b ∷ bs)) (cond (is_digit b) 34 (mark_kind (b ∷ bs)))
