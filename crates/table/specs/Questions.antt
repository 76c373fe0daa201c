-- Document 01, the eight questions, in their order: "a no gives the number, with the place in brackets".
use Rattle.std.specs.Prelude.{ℕ, zero, suc, ◌+◌, ◌*◌, ◌-◌, Bool, cond, ◌&&◌, ◌||◌, not, List, ◌≡◌, get_or, length, eqb, leb, ltb}
use Rattle.lists.specs.Lists.{first_false, all_below}
use Rattle.table.specs.Table.{methods, instructions, offset_of, length_of, end_of, return_of, params_of, slot_type, arg_at, owner_of, is_type}
use Rattle.table.specs.Reading.{op_there, reads}

-- The answer to the questions: accepted, or refused by question n with place i.
pub data Verdict : Type 0 where
  accepted : Verdict
  refused : ℕ → ℕ → Verdict

-- "Put in this order": the later question counts only where the earlier one is passed.
unfoldable pub and_then : Verdict → Verdict → Verdict
and_then accepted v = v
and_then (refused n i) v = refused n i

-- a question about the whole, and one whose place is the first of n at fault
unfoldable pub whole : ℕ → Bool → ℕ → Verdict
whole number kept place = cond kept accepted (refused number place)

unfoldable pub first_of : ℕ → (ℕ → Bool) → ℕ → Verdict
first_of number ok n = let i = first_false ok n in cond (ltb i n) (refused number i) accepted

-- "Is M in range, N in range and the length exactly 2 + 20M + 2N words? 1 (0)"
unfoldable pub sizes_kept : List ℕ → Bool
sizes_kept p =
    (leb 1 (methods p) && leb (methods p) 32)
    && ((leb 1 (instructions p) && leb (instructions p) 4096)
    && eqb (length p) (2 + 20 * methods p + 2 * instructions p))

unfoldable pub question1 : List ℕ → Verdict
question1 p = whole 1 (sizes_kept p) 0

-- "sorted by offset: the first starts at 0, each next where the one before ends, every length at least 1,
-- the lengths summing to N"
unfoldable pub start_of : List ℕ → ℕ → ℕ
start_of p zero = 0
start_of p (suc m) = end_of p m

unfoldable pub pair_kept : List ℕ → ℕ → Bool
pair_kept p m = eqb (offset_of p m) (start_of p m) && leb 1 (length_of p m)

-- "Do the pairs keep their rule? 2 (first method at fault; a wrong sum alone counts against the last)"
-- Where every pair keeps its rule, the lengths sum to where the last method ends.
unfoldable pub question2 : List ℕ → Verdict
question2 p =
    and_then (first_of 2 (pair_kept p) (methods p))
    (whole 2 (eqb (start_of p (methods p)) (instructions p)) (methods p - 1))

-- "Parameters have no type 0. Method 0 is main: P is 0, return type 0."
unfoldable pub slot_kept : List ℕ → ℕ → ℕ → Bool
slot_kept p m s = is_type (slot_type p m s) && not (ltb s (params_of p m) && eqb (slot_type p m s) 0)

unfoldable pub row_kept : List ℕ → ℕ → Bool
row_kept p m =
    is_type (return_of p m)
    && (leb (params_of p m) 8
    && (all_below (slot_kept p m) 16
    && (not (eqb m 0) || (eqb (params_of p m) 0 && eqb (return_of p m) 0))))

-- "Do the rows keep theirs? 3 (first method at fault)"
unfoldable pub question3 : List ℕ → Verdict
question3 p = first_of 3 (row_kept p) (methods p)

-- "Is every op listed, its argument in range, its slot used, its target inside its own method? 4 (first instruction
-- at fault, counted over the table)"
unfoldable pub instruction_kept : List ℕ → ℕ → Bool
instruction_kept p i = (op_there p i).argument p (owner_of p i) (arg_at p i)

unfoldable pub question4 : List ℕ → Verdict
question4 p = first_of 4 (instruction_kept p) (instructions p)

-- question 5 is in Reading.antt. "5 (first instruction at fault; the target, where a jump would meet pending values;
-- the last, where a method does not close)"
unfoldable pub question5 : List ℕ → Verdict
question5 p = first_of 5 (reads p) (instructions p)

-- "Is each outcome byte 0 or 1? 6 (its index)", and by Paper 3 "Outcome byte 2 is now allowed and means no click"
abbrev pub is_outcome : ℕ → Bool
is_outcome o = leb o 2

unfoldable pub question6 : List ℕ → Verdict
question6 outcomes = first_of 6 (λ i. is_outcome (get_or outcomes i 0)) (length outcomes)

-- "Has the schedule at most 65,535 bytes? 7 (0)"
unfoldable pub question7 : List ℕ → Verdict
question7 schedule = whole 7 (leb (length schedule) 65535) 0

-- "Has the work store at least 8,192 words of 32 bits? 8 (0)"; Paper 7: "the work store grows to 8,256 words and
-- question 8 says so"
unfoldable pub question8 : ℕ → Verdict
question8 words = whole 8 (leb 8256 words) 0

-- questions 1 to 5: the table alone
unfoldable pub table_questions : List ℕ → Verdict
table_questions p =
    and_then (question1 p) (and_then (question2 p) (and_then (question3 p) (and_then (question4 p) (question5 p))))

-- all eight: the table, the schedule, the outcome list and the work store's length in words
unfoldable pub questions : List ℕ → List ℕ → List ℕ → ℕ → Verdict
questions p schedule outcomes words =
    and_then (table_questions p) (and_then (question6 outcomes) (and_then (question7 schedule) (question8 words)))

-- the table passes questions 1 to 5
abbrev pub Accepted : List ℕ → Type 0
Accepted p = ◌≡◌ {A = Verdict} (table_questions p) accepted
