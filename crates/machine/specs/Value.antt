-- Values and references. "As in document 000, a reference says which it is: quantum, channel or channel end, and one
-- never stands for another."
--
-- Choices: the two ends of a channel differ by a boolean (side 1 is true), so that a channel has two ends by
-- its type; an int is a signed integer, its range being the ops' concern; an emptied slot or pending value is a value
-- of its own, because it keeps its place.
use Rattle.std.specs.Prelude.{ℕ, suc, ◌+◌, ◌-◌, Bool, true, false, cond, ◌&&◌, ℤ, pos, negsuc, eqb, leb, ltb}
use Rattle.std.specs.Bool.{beq}

-- What is held, given and reached: a qubit, a channel, or one end of a channel.
pub data Thing : Type 0 where
  qubit : ℕ → Thing
  channel : ℕ → Thing
  end : ℕ → Bool → Thing

pub data Value : Type 0 where
  empty : Value
  int : ℤ → Value
  bool : Bool → Value
  ref : Thing → Value

abbrev pub is_empty : Value → Bool
is_empty empty = true
is_empty (int z) = false
is_empty (bool b) = false
is_empty (ref t) = false

-- To have u is to have t: u is t itself, or t is an end of the channel u. This one relation says what a reference
-- reaches ("an end also through its channel"), which lines speak of a thing ("a channel's lines count for both its
-- ends") and what a giving empties.
unfoldable pub covers : Thing → Thing → Bool
covers (qubit n) (qubit k) = eqb n k
covers (qubit n) (channel k) = false
covers (qubit n) (end k s) = false
covers (channel n) (qubit k) = false
covers (channel n) (channel k) = eqb n k
covers (channel n) (end k s) = eqb n k
covers (end n s) (qubit k) = false
covers (end n s) (channel k) = false
covers (end n s) (end k r) = eqb n k && beq s r

-- the side's number, and the side of a number
abbrev pub side_no : Bool → ℕ
side_no true = 1
side_no false = 0

abbrev pub side_of : ℕ → Bool
side_of n = eqb n 1

-- "a thing b (3 qubit, 4 channel, 5 end 0, 6 end 1) of number c"
unfoldable pub thing_kind : Thing → ℕ
thing_kind (qubit n) = 3
thing_kind (channel n) = 4
thing_kind (end n s) = 5 + side_no s

unfoldable pub thing_no : Thing → ℕ
thing_no (qubit n) = n
thing_no (channel n) = n
thing_no (end n s) = n

-- "1 int (signed, 32 bits)": from -2147483648 to 2147483647; `pos n` is n, and `negsuc n` is -(n + 1)
unfoldable pub in_range : ℤ → Bool
in_range (pos n) = ltb n 2147483648
in_range (negsuc n) = leb (suc n) 2147483648

-- two's complement: the 32-bit word of an int, and the int of a 16-bit word
unfoldable pub word32 : ℤ → ℕ
word32 (pos n) = n
word32 (negsuc n) = 4294967295 - n

unfoldable pub signed16 : ℕ → ℤ
signed16 a = cond (ltb a 32768) (pos a) (negsuc (65535 - a))

-- the two ints are the same; the first is less than the second
unfoldable pub eq_z : ℤ → ℤ → Bool
eq_z (pos m) (pos n) = eqb m n
eq_z (pos m) (negsuc n) = false
eq_z (negsuc m) (pos n) = false
eq_z (negsuc m) (negsuc n) = eqb m n

-- the word that a line of kind 8 splits: an int in two's complement, a boolean 0 or 1
unfoldable pub value_word : Value → ℕ
value_word empty = 0
value_word (int z) = word32 z
value_word (bool b) = side_no b
value_word (ref t) = 0
