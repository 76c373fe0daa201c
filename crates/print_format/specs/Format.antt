-- What the printing program prints for the bytes of a file: document 01, "A run given whole".
use Rattle.std.specs.Prelude.{ℕ, zero, suc, ◌+◌, ◌*◌, ◌/◌, ◌%◌, Bool, cond, ◌&&◌, List, [], ◌∷◌, ◌++◌, get_or, take, drop, length, eqb, leb, ltb}
use Rattle.table.specs.Ops.{one_qubit}
use Rattle.machine.specs.State.{Line}
use Rattle.machine.specs.Run.{run}
use Rattle.machine.specs.Answer.{Answer, refusal, ran, answer_of}

-- the file

-- "32-bit numbers, lowest byte first": the number at byte i
unfoldable pub number_at : List ℕ → ℕ → ℕ
number_at bytes i =
    get_or bytes i 0 + 256 * get_or bytes (i + 1) 0 + 65536 * get_or bytes (i + 2) 0 + 16777216 * get_or bytes (i + 3) 0

-- "three pairs (offset, length) .. for program (16-bit words, lowest byte first), schedule and outcomes"
abbrev pub offset_at : List ℕ → ℕ → ℕ
offset_at bytes part = number_at bytes (8 * part)

abbrev pub length_at : List ℕ → ℕ → ℕ
length_at bytes part = number_at bytes (8 * part + 4)

-- "at most 65,536 bytes: three pairs .. adjacent from byte 24 to the file's end"; an odd program length is no program
unfoldable pub well_built : List ℕ → Bool
well_built bytes =
    (leb 24 (length bytes) && leb (length bytes) 65536)
    && ((eqb (offset_at bytes 0) 24 && eqb (offset_at bytes 1) (offset_at bytes 0 + length_at bytes 0))
    && ((eqb (offset_at bytes 2) (offset_at bytes 1 + length_at bytes 1)
    && eqb (length bytes) (offset_at bytes 2 + length_at bytes 2))
    && eqb (length_at bytes 0 % 2) 0))

unfoldable pub part_of : List ℕ → ℕ → List ℕ
part_of bytes part = take (length_at bytes part) (drop (offset_at bytes part) bytes)

-- bytes as 16-bit words, lowest byte first
unfoldable pub words_of : List ℕ → List ℕ
words_of [] = []
words_of (b ∷ []) = []
words_of (b ∷ d ∷ bytes) = (b + 256 * d) ∷ words_of bytes

-- the text, as ASCII bytes

abbrev blank : ℕ
blank = 32

abbrev newline : ℕ
newline = 10

-- "refused" and "end"
unfoldable pub refused_word : List ℕ
refused_word = 114 ∷ 101 ∷ 102 ∷ 117 ∷ 115 ∷ 101 ∷ 100 ∷ []

unfoldable pub end_word : List ℕ
end_word = 101 ∷ 110 ∷ 100 ∷ []

-- a number in decimal, with at most so many digits, in front of what follows
unfoldable pub digits : ℕ → ℕ → List ℕ → List ℕ
digits zero n rest = rest
digits (suc places) n rest =
    let more = digits places (n / 10) ((48 + n % 10) ∷ rest) in cond (ltb n 10) ((48 + n) ∷ rest) more

unfoldable pub decimal : ℕ → List ℕ
decimal n = digits 20 n []

-- a blank and a number after a word; a column that is not used prints as "-"
unfoldable pub spaced : ℕ → List ℕ
spaced n = blank ∷ decimal n

unfoldable pub column : Bool → ℕ → List ℕ
column used n = cond used (spaced n) (blank ∷ 45 ∷ [])

-- how many of the columns a, b and c a line of this kind uses: "kind 8 uses a and b, 65535 included", and a gate on one
-- qubit, 1 to 5, has no c
unfoldable pub columns_used : Line → ℕ
columns_used l =
    get_or (0 ∷ 1 ∷ 1 ∷ cond (one_qubit l.a) 2 3 ∷ 2 ∷ 3 ∷ 3 ∷ 3 ∷ 2 ∷ 0 ∷ 1 ∷ []) l.kind 0

unfoldable pub line_text : Line → List ℕ
line_text l =
    decimal l.entry ++ spaced l.process ++ spaced l.kind
    ++ column (ltb 0 (columns_used l)) l.a
    ++ column (ltb 1 (columns_used l)) l.b
    ++ column (ltb 2 (columns_used l)) l.c
    ++ (newline ∷ [])

unfoldable pub lines_text : List Line → List ℕ
lines_text [] = []
lines_text (l ∷ ls) = line_text l ++ lines_text ls

unfoldable pub refused_text : ℕ → ℕ → List ℕ
refused_text n i = refused_word ++ spaced n ++ spaced i ++ (newline ∷ [])

-- "the last line is end, entries, lines, outcomes"; any refusal is "refused", number, place
unfoldable pub answer_text : List Line → Answer → List ℕ
answer_text ls (refusal n i) = refused_text n i
answer_text ls (ran e k l o) =
    lines_text ls ++ end_word ++ spaced e ++ spaced k ++ spaced l ++ spaced o ++ (newline ∷ [])

-- "Its trace holds 4,096 lines." Its work store has 8,256 words.
unfoldable pub run_text : List ℕ → List ℕ → List ℕ → List ℕ
run_text p schedule outcomes =
    answer_text (run p outcomes 4096 schedule).state.lines (answer_of p schedule outcomes 4096 8256)

-- "A file otherwise built, longer, or with an odd program length prints "refused 9 0""
unfoldable pub printed : List ℕ → List ℕ
printed bytes =
    cond (well_built bytes) (run_text (words_of (part_of bytes 0)) (part_of bytes 1) (part_of bytes 2)) (refused_text 9 0)
