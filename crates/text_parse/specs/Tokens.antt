-- The tokens of a text, byte by byte. A token is its bytes and the place of the first of them.
--
-- "White space: bytes 32, 9, 10, 13. No comments. A word is a letter or _, then letters, digits, _; longest match; case
-- counts." "A number is digits, leading zeros allowed, any length, no sign." "Marks: ( ) { } [ ] , ; + - = == <, == by
-- longest match. Any other byte is a bad token of length 1 that can follow nothing."
use Rattle.std.specs.Prelude.{ℕ, zero, suc, ◌+◌, ◌*◌, ◌-◌, Bool, true, false, cond, ◌&&◌, ◌||◌, not, List, [], ◌∷◌, ◌++◌, eqb, leb}
use Prim.Native.String.{String}
use Rattle.lists.specs.Lists.{same, any}
use Rattle.text.specs.Tree.{ascii, Name}

abbrev pub is_white : ℕ → Bool
is_white b = eqb b 32 || (eqb b 9 || (eqb b 10 || eqb b 13))

abbrev pub is_digit : ℕ → Bool
is_digit b = leb 48 b && leb b 57

-- A to Z, a to z, and _
abbrev pub is_letter : ℕ → Bool
is_letter b = (leb 65 b && leb b 90) || ((leb 97 b && leb b 122) || eqb b 95)

-- A token that ends the text has no bytes; it stands at the text's length.
pub record Token : Type 0 where
  pub bytes : List ℕ
  pub at : ℕ

-- the byte goes on with a token of these bytes: with a word, a number, or = to ==
unfoldable pub extends : List ℕ → ℕ → Bool
extends [] b = false
extends (a ∷ as') b =
    cond (is_letter a) (is_letter b || is_digit b)
    (cond (is_digit a) (is_digit b) (same (a ∷ as') (ascii "=") && eqb b 61))

-- the token of these bytes, where there are any
unfoldable pub finished : List ℕ → ℕ → List Token → List Token
finished [] at ts = ts
finished (b ∷ bs) at ts = record { bytes = b ∷ bs; at = at } ∷ ts

-- The tokens of the bytes from place i on, those of a token that began at `at` being read already. (What a `let` binds
-- is computed only where it is used: so runs of texts compute.)
unfoldable pub tokens_from : List ℕ → ℕ → ℕ → List ℕ → List Token
tokens_from begun at i [] = finished begun at (record { bytes = []; at = i } ∷ [])
tokens_from begun at i (b ∷ bs) =
    let longer = tokens_from (begun ++ (b ∷ [])) at (suc i) bs in
    let after_blank = tokens_from [] i (suc i) bs in
    let after_token = tokens_from (b ∷ []) i (suc i) bs in
    let other = finished begun at (cond (is_white b) after_blank after_token) in
    cond (extends begun b) longer other

unfoldable pub tokens_of : List ℕ → List Token
tokens_of text = tokens_from [] 0 0 text

-- What a token is

abbrev pub is : String → Token → Bool
is s t = same t.bytes (ascii s)

-- "Reserved, from Paper 1 on"
abbrev pub reserved : List (List ℕ)
reserved =
    ascii "void" ∷ ascii "int" ∷ ascii "boolean" ∷ ascii "qbit" ∷ ascii "channel" ∷ ascii "channelEnd"
    ∷ ascii "withends" ∷ ascii "aliasfor" ∷ ascii "new" ∷ ascii "measure" ∷ ascii "fork" ∷ ascii "return"
    ∷ ascii "if" ∷ ascii "else" ∷ ascii "while" ∷ ascii "recv" ∷ ascii "send" ∷ ascii "true" ∷ ascii "false" ∷ []

abbrev pub is_reserved : List ℕ → Bool
is_reserved bs = any (same bs) reserved

abbrev pub starts_with : (ℕ → Bool) → List ℕ → Bool
starts_with f [] = false
starts_with f (b ∷ bs) = f b

unfoldable pub is_name : Token → Bool
is_name t = starts_with is_letter t.bytes && not (is_reserved t.bytes)

unfoldable pub is_numeral : Token → Bool
is_numeral t = starts_with is_digit t.bytes

abbrev pub name_of : Token → Name
name_of t = record { spelling = t.bytes; at = t.at }

-- the number that digits say, v being said already
unfoldable pub number_from : ℕ → List ℕ → ℕ
number_from v [] = v
number_from v (b ∷ bs) = number_from (10 * v + (b - 48)) bs

unfoldable pub numeral_of : Token → ℕ
numeral_of t = number_from 0 t.bytes
