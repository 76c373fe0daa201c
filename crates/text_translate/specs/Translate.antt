-- What a text is answered with, and what it leaves in the lent buffer: "30 when the text leaves the grammar or the
-- nesting, 31 .., 32 .. each at its lowest byte index", or its program table.
use Rattle.std.specs.Prelude.{ℕ, cond, Result, Ok, Err, List, ◌++◌, leb, length, drop}
use Rattle.text.specs.Statement.{text_table}
use Rattle.text_parse.specs.Text.{Text, refused_text, translated_text}
use Rattle.text_translate.specs.declared.Translation.{Translation}
use Rattle.text_translate.specs.declared.Translation.TheVariants.{Table, Short}
use Rattle.text_translate.specs.declared.TextRefusal.{TextRefusal}
use Rattle.text_translate.specs.declared.TextRefusal.TheVariants.{Grammar, Names, Limits}

-- a refusal's number and place, the words of a table that is given out, or those that a buffer is too short for
pub data Answer : Type 0 where
  refused : ℕ → ℕ → Answer
  table : ℕ → Answer
  short : ℕ → Answer

-- a refusal's number and place
abbrev pub number_of : TextRefusal → ℕ
number_of (Grammar i) = 30
number_of (Names i) = 31
number_of (Limits i) = 32

abbrev pub place_of : TextRefusal → ℕ
place_of (Grammar i) = i
place_of (Names i) = i
place_of (Limits i) = i

-- the words of the table, given out or not
abbrev pub words_of : Translation → ℕ
words_of (Table n) = n
words_of (Short n) = n

-- the code's answer in the paper's numbers
unfoldable pub answer_numbers : Result Translation TextRefusal → Answer
answer_numbers (Err r) = refused (number_of r) (place_of r)
answer_numbers (Ok (Table n)) = table n
answer_numbers (Ok (Short n)) = short n

-- the answer for a buffer of so many words
unfoldable pub answer_for : ℕ → Text → Answer
answer_for room (refused_text n i) = refused n i
answer_for room (translated_text ms) =
    let words = length (text_table ms) in
    cond (leb words room) (table words) (short words)

-- the buffer: a table that fits stands in its first words, and what stands after it is kept
unfoldable pub buffer_after : List ℕ → Text → List ℕ
buffer_after buffer (refused_text n i) = buffer
buffer_after buffer (translated_text ms) =
    let words = text_table ms in
    cond (leb (length words) (length buffer)) (words ++ drop (length words) buffer) buffer
