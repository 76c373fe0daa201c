-- Paper 7: the holder of a thing as a run has stored it, read from the work store.
use Rattle.std.specs.Prelude.{ℕ, ◌+◌, ◌*◌, ◌%◌, cond, ◌&&◌, ◌||◌, Option, None, Some, List, get_or, length, eqb, leb, ltb}

-- which of the 64 words is the thing's, by its kind as in trace lines (3 qubit, 5 end 0, 6 end 1) and its number:
-- "8,192 to 8,223 the holders of qubits 0 to 31, 8,224 + 2 c + s the holder of end s of channel c"; 64 where there is
-- no such thing
unfoldable pub word_of : ℕ → ℕ → ℕ
word_of kind number =
    cond (eqb kind 3 && ltb number 32) number
    (cond (eqb kind 5 && ltb number 16) (32 + 2 * number) (cond (eqb kind 6 && ltb number 16) (33 + 2 * number) 64))

-- the same as the code answers it: one of the 64 words, or none
abbrev pub word_if : ℕ → Option ℕ
word_if i = cond (ltb i 64) (Some i) None

-- 65535 where the store is too short or there is no such thing; else the word, of which a run uses the low 16 bits
-- alone
unfoldable pub stored_holder : List ℕ → ℕ → ℕ → ℕ
stored_holder work kind number =
    cond (ltb (length work) 8256 || leb 64 (word_of kind number)) 65535 (get_or work (8192 + word_of kind number) 0 % 65536)
