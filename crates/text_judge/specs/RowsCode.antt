-- Questions 4 and 5 put to the code of one method by rows. Each instruction is judged in a table of two methods: the
-- method itself, and the one that the instruction calls. These definitions follow the code; that they say the same as
-- the two questions do in the whole table is proved.
use Rattle.std.specs.Prelude.{ℕ, zero, suc, ◌+◌, ◌*◌, ◌<◌, ◌≢◌, ◌≡◌, Bool, true, false, cond, ◌&&◌, ◌||◌, not, List, [], ◌∷◌, ◌++◌, get_or, length, T, eqb, ltb}
use Rattle.std.proofs.Math.Option.{Option, none, some}
use Rattle.std.proofs.Math.Seq.{paste}
use Rattle.lists.specs.Lists.{any, below}
use Rattle.table.specs.Table.{is_type}
use Rattle.table.specs.Ops.{op_of}
use Rattle.table.specs.Reading.{is_nil}
use Rattle.check_arguments.specs.MarksCode.{marks}
use Rattle.check_types.specs.RulesCode.{stepped}
use Rattle.text.specs.Tree.{Method, Program, method_at}
use Rattle.text.specs.Translation.{method_code, row_words, code_words}

-- What a method is judged by: its own row, the row of each method by its number, how many methods there are, and its
-- code: so many instructions of two words.
pub record Subject : Type 0 where
  pub own : List ℕ
  pub row_of : ℕ → List ℕ
  pub methods : ℕ
  pub long : ℕ
  pub code : List ℕ

-- A row as a method of a text has it: 18 words, types where types stand, and no parameter without one among its 16
-- slots. It may have more parameters than a table allows.
pub record IsRow (r : List ℕ) : Type 0 where
  pub words : length r ≡ 18
  pub returns : T (is_type (get_or r 0 0))
  pub slots : (s : ℕ) → s < 16 → T (is_type (get_or r (2 + s) 0))
  pub parameters : (s : ℕ) → s < 16 → s < get_or r 1 0 → get_or r (2 + s) 0 ≢ 0

-- The table of two methods

-- a row with no type in it
unfoldable pub no_row : List ℕ
no_row = 0 ∷ 0 ∷ 0 ∷ 0 ∷ 0 ∷ 0 ∷ 0 ∷ 0 ∷ 0 ∷ 0 ∷ 0 ∷ 0 ∷ 0 ∷ 0 ∷ 0 ∷ 0 ∷ 0 ∷ 0 ∷ []

-- method 0 has the own row and so many instructions, method 1 the row of the one that is called
unfoldable pub two_rows : List ℕ → List ℕ → ℕ → List ℕ
two_rows own callee long = 2 ∷ 1 ∷ 0 ∷ long ∷ 0 ∷ 0 ∷ own ++ (callee ++ (0 ∷ 0 ∷ []))

-- d with n words from `at` on replaced by the first n of s
unfoldable pub copied : List ℕ → ℕ → List ℕ → ℕ → List ℕ
copied d at s n = paste d at s n

-- CALL and FORK
unfoldable pub calls : ℕ → Bool
calls op = eqb op 12 || eqb op 14

-- an instruction's argument in that table: the method that it names is number 1, and 2 where there is none
unfoldable pub argument_in : ℕ → ℕ → ℕ → ℕ
argument_in methods op a = cond (calls op) (cond (ltb a methods) 1 2) a

-- One instruction

-- An instruction of method 0 of p, with this op and argument, where the types ts are pending before it: the types after
-- it, if it keeps questions 4 and 5. `target` says whether a jump leads to it, `last` whether it is the method's last.
unfoldable pub judged_at : List ℕ → ℕ → ℕ → Bool → Bool → List ℕ → Option (List ℕ)
judged_at p op a target last ts =
    cond ((op_of op).argument p 0 a && ((not target || is_nil ts) && (not last || (op_of op).closes)))
    (stepped p 0 op a ts) none

-- The code, instruction by instruction

unfoldable pub op_in : List ℕ → ℕ → ℕ
op_in code i = get_or code (2 * i) 0

unfoldable pub arg_in : List ℕ → ℕ → ℕ
arg_in code i = get_or code (2 * i + 1) 0

-- instruction j jumps to instruction i, and some jump of the first `long` does
unfoldable pub jumps_onto : List ℕ → ℕ → ℕ → Bool
jumps_onto code i j = (op_of (op_in code j)).jumps && eqb (arg_in code j) i

unfoldable pub is_onto : List ℕ → ℕ → ℕ → Bool
is_onto code long i = any (jumps_onto code i) (below long)

-- the targets of the first k instructions marked in ts
unfoldable pub marked_in : List ℕ → ℕ → List ℕ → List ℕ
marked_in code zero ts = ts
marked_in code (suc k) ts = marks (op_in code k) (arg_in code k) (marked_in code k ts)

-- the row of the method that instruction i calls
unfoldable pub callee_row : Subject → ℕ → List ℕ
callee_row s i = cond (calls (op_in s.code i)) (s.row_of (arg_in s.code i)) no_row

-- the types after instruction i, from those before it or a fault
unfoldable pub judged_on : Subject → ℕ → Option (List ℕ) → Option (List ℕ)
judged_on s i none = none
judged_on s i (some ts) =
    judged_at (two_rows s.own (callee_row s i) s.long) (op_in s.code i)
    (argument_in s.methods (op_in s.code i) (arg_in s.code i)) (is_onto s.code s.long i)
    (eqb (i + 1) s.long) ts

-- the types after the first i instructions, if they keep both questions
unfoldable pub judged_to : Subject → ℕ → Option (List ℕ)
judged_to s zero = some []
judged_to s (suc i) = judged_on s i (judged_to s i)

abbrev pub is_kept : Option (List ℕ) → Bool
is_kept none = false
is_kept (some ts) = true

-- all of them do
unfoldable pub judged : Subject → Bool
judged s = is_kept (judged_to s s.long)

-- A method of a text

-- the row of the method of this number
abbrev pub row_in : Option Method → List ℕ
row_in none = no_row
row_in (some m) = row_words m

-- what method m of these methods, which stand in the table's order, is judged by
unfoldable pub subject_of : Program → Method → Subject
subject_of ms m = record {
  own = row_words m;
  row_of = λ a. row_in (method_at ms a);
  methods = length ms;
  long = length (method_code ms m);
  code = code_words (method_code ms m);
}
