-- Where tokens start and end. These definitions follow the code.
use Rattle.std.specs.Prelude.{ℕ, zero, suc, ◌+◌, Bool, cond, ◌&&◌, ◌||◌, List, [], ◌∷◌, length, get_or, drop, eqb, leb}
use Rattle.text_parse.specs.Tokens.{is_white, is_digit, is_letter}

-- how many bytes at the front pass a test
unfoldable pub leading : (ℕ → Bool) → List ℕ → ℕ
leading f [] = zero
leading f (b ∷ bs) = cond (f b) (suc (leading f bs)) zero

-- the first place from i on whose byte fails the test, or the text's end
unfoldable pub passed : (ℕ → Bool) → List ℕ → ℕ → ℕ
passed f text i = i + leading f (drop i text)

abbrev pub is_word_byte : ℕ → Bool
is_word_byte b = is_letter b || is_digit b

-- where the next token starts
abbrev pub start_at : List ℕ → ℕ → ℕ
start_at text i = passed is_white text i

-- where a token that starts at s ends, b being its first byte
unfoldable pub end_from : List ℕ → ℕ → ℕ → ℕ
end_from text s b =
    cond (is_letter b) (passed is_word_byte text (s + 1))
    (cond (is_digit b) (passed is_digit text (s + 1))
    (cond (eqb b 61 && eqb (get_or text (s + 1) 0) 61) (s + 2) (s + 1)))

unfoldable pub end_at : List ℕ → ℕ → ℕ
end_at text s = cond (leb (length text) s) s (end_from text s (get_or text s 0))
