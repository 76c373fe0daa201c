-- Document 01, "Program table": where each part of a table stands, and the codes of the types.
-- A table is a list of 16-bit words. A word past its end reads as 0, so that every definition is total;
-- question 1 asks for the length before anything else is asked.
use Rattle.std.specs.Prelude.{ℕ, ◌+◌, ◌*◌, ◌-◌, Bool, ◌&&◌, ◌||◌, List, get_or, take, drop, leb}
use Rattle.lists.specs.Lists.{first_false}

-- "16-bit words, numbered from 0."
unfoldable pub word : List ℕ → ℕ → ℕ
word p i = get_or p i 0

-- "Word 0: methods M, 1 to 32. Word 1: instructions N, 1 to 4096."
unfoldable pub methods : List ℕ → ℕ
methods p = word p 0

unfoldable pub instructions : List ℕ → ℕ
instructions p = word p 1

-- "Then M pairs (offset, length) in instructions"
unfoldable pub offset_of : List ℕ → ℕ → ℕ
offset_of p m = word p (2 + 2 * m)

unfoldable pub length_of : List ℕ → ℕ → ℕ
length_of p m = word p (3 + 2 * m)

-- the first instruction after method m
unfoldable pub end_of : List ℕ → ℕ → ℕ
end_of p m = offset_of p m + length_of p m

-- "Then M rows of 18 words: return type, parameter count P (0 to 8), 16 slot types, parameters first."
unfoldable pub row : List ℕ → ℕ → ℕ
row p m = 2 + 2 * methods p + 18 * m

unfoldable pub return_of : List ℕ → ℕ → ℕ
return_of p m = word p (row p m)

unfoldable pub params_of : List ℕ → ℕ → ℕ
params_of p m = word p (row p m + 1)

unfoldable pub slot_type : List ℕ → ℕ → ℕ → ℕ
slot_type p m s = word p (row p m + 2 + s)

-- the 16 slot types of method m, and the types of its parameters
unfoldable pub slot_types : List ℕ → ℕ → List ℕ
slot_types p m = take 16 (drop (row p m + 2) p)

unfoldable pub param_types : List ℕ → ℕ → List ℕ
param_types p m = take (params_of p m) (slot_types p m)

-- "Then N instructions of two words, op and argument."
unfoldable pub op_at : List ℕ → ℕ → ℕ
op_at p i = word p (2 + 20 * methods p + 2 * i)

unfoldable pub arg_at : List ℕ → ℕ → ℕ
arg_at p i = word p (3 + 20 * methods p + 2 * i)

-- the method that instruction i belongs to: the first that ends after it
unfoldable pub owner_of : List ℕ → ℕ → ℕ
owner_of p i = first_false (λ m. leb (end_of p m) i) (methods p)

-- "Types: 0 none (void as a return type, unused as a slot), 1 int (signed, 32 bits), 2 boolean, 3 qbit,
-- 16+T channel and 32+T channel end carrying T, where T is 1, 2 or 3."
abbrev pub is_carried : ℕ → Bool
is_carried t = leb 1 t && leb t 3

abbrev pub is_channel : ℕ → Bool
is_channel t = leb 17 t && leb t 19

abbrev pub is_end : ℕ → Bool
is_end t = leb 33 t && leb t 35

unfoldable pub is_type : ℕ → Bool
is_type t = leb t 3 || (is_channel t || is_end t)

-- what a channel end of this type carries, and the type of the ends of a channel of this type
abbrev pub carried_by : ℕ → ℕ
carried_by t = t - 32

abbrev pub end_of_channel : ℕ → ℕ
end_of_channel t = t + 16
