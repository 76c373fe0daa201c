-- The program table of a tree, statement by statement, as docs/TEXT.md sets it down.
--
-- "Slots: parameters, then every declared variable of the method in text order, each its own (withends: channel, end 0,
-- end 1), none used twice; a method that returns a value has one slot more at the end, of that type, never filled."
use Rattle.std.specs.Prelude.{ℕ, suc, ◌+◌, Bool, true, false, List, [], ◌∷◌, ◌++◌, map, get_or, take, length, replicate}
use Rattle.std.proofs.Math.Option.{Option, none, some}
use Rattle.machine.specs.Value.{side_no}
use Rattle.text.specs.Tree.{Name, Carried, int_type, boolean_type, qbit_type, NonVoidType, plain, channel_type, end_type, Operator, plus, minus, equals, less_than, Expr, Exprs, number, truth, variable, assignment, operation, method_call, measurement, reception, new_qubit, new_channel, new_end, no_more, also, Statement, Statements, skip, assign, invoke, measure, receive, fork, send, give, block, conditional, alternative, loop, done, next, Method, Program, Declared, declared_by, body_variables, index_of, number_of, method_of, gate_of}

-- An instruction of two words, and the ops by their names in 01's table.
pub record Instruction : Type 0 where
  pub op : ℕ
  pub argument : ℕ

abbrev pub instruction : ℕ → ℕ → Instruction
instruction o a = record { op = o; argument = a }

abbrev pub INT : ℕ → Instruction
INT = instruction 1

abbrev pub BOOL : ℕ → Instruction
BOOL = instruction 2

abbrev pub GET : ℕ → Instruction
GET = instruction 3

abbrev pub PUT : ℕ → Instruction
PUT = instruction 4

abbrev pub DROP : Instruction
DROP = instruction 5 0

abbrev pub CLEAR : ℕ → Instruction
CLEAR = instruction 6

abbrev pub NEWQ : Instruction
NEWQ = instruction 7 0

abbrev pub NEWC : ℕ → Instruction
NEWC = instruction 8

abbrev pub END : Bool → Instruction
END d = instruction 9 (side_no d)

abbrev pub GATE : ℕ → Instruction
GATE = instruction 10

abbrev pub MEAS : Instruction
MEAS = instruction 11 0

abbrev pub CALL : ℕ → Instruction
CALL = instruction 12

abbrev pub RET : Instruction
RET = instruction 13 0

abbrev pub FORK : ℕ → Instruction
FORK = instruction 14

abbrev pub SEND : Instruction
SEND = instruction 15 0

abbrev pub RECV : Instruction
RECV = instruction 16 0

abbrev pub JUMP : ℕ → Instruction
JUMP = instruction 17

abbrev pub JFALSE : ℕ → Instruction
JFALSE = instruction 18

-- "no op makes an end: its table fails question 4": op 0 is no op
abbrev pub NONE : Instruction
NONE = instruction 0 0

-- "ADD/SUB/EQ/LESS"
unfoldable pub operator_op : Operator → ℕ
operator_op plus = 19
operator_op minus = 20
operator_op equals = 21
operator_op less_than = 22

-- "Types: 1 int, 2 boolean, 3 qbit, 16+T channel and 32+T channel end carrying T"; 0 is void as a return type
unfoldable pub carried_code : Carried → ℕ
carried_code int_type = 1
carried_code boolean_type = 2
carried_code qbit_type = 3

unfoldable pub type_code : NonVoidType → ℕ
type_code (plain t) = carried_code t
type_code (channel_type t) = 16 + carried_code t
type_code (end_type t) = 32 + carried_code t

unfoldable pub return_code : Option NonVoidType → ℕ
return_code none = 0
return_code (some t) = type_code t

unfoldable pub truth_word : Bool → ℕ
truth_word true = 1
truth_word false = 0

-- A variable in scope and its slot, the innermost one first.
pub record Placed : Type 0 where
  pub name : Name
  pub ends : Bool
  pub slot : ℕ

abbrev pub Scope : Type 0
Scope = List Placed

abbrev pub placed_name : Placed → Name
placed_name v = v.name

abbrev pub placed_slot : Placed → ℕ
placed_slot v = v.slot

-- how many variables stand before the one that a name means, its slot, and whether it is a channel with ends; a name
-- that is not declared has slot 16, which no table has
unfoldable pub found_in : Name → Scope → ℕ
found_in x sc = index_of x (map placed_name sc)

unfoldable pub slot_of : Scope → Name → ℕ
slot_of sc x = get_or (map placed_slot sc) (found_in x sc) 16

unfoldable pub ends_in : Scope → Name → Bool
ends_in sc x = get_or (map (λ (v : Placed). v.ends) sc) (found_in x sc) false

abbrev pub placed : Declared → ℕ → Placed
placed d i = record { name = d.name; ends = d.ends; slot = i }

-- the scope with these variables declared, from slot i on
unfoldable pub opened : List Declared → ℕ → Scope → Scope
opened [] i sc = sc
opened (d ∷ ds) i sc = opened ds (suc i) (placed d i ∷ sc)

-- the variables that are declared within a statement, in text order
unfoldable mutual
  pub within : Statement → List Declared
  within skip = []
  within (assign x e) = []
  within (invoke x es) = []
  within (measure q) = []
  within (receive e) = []
  within (fork m es) = []
  within (send e v) = []
  within (give e) = []
  within (block ds ss) = declared_by ds ++ all_within ss
  within (conditional e s) = within s
  within (alternative e s t) = within s ++ within t
  within (loop e s) = within s

  pub all_within : Statements → List Declared
  all_within done = []
  all_within (next s ss) = within s ++ all_within ss

-- "number INT; true, false BOOL; variable GET; x = E: E, PUT x; E op F: E, F, ADD/SUB/EQ/LESS; call: arguments, CALL;
-- measure: GET q, MEAS; recv: E, RECV; new: NEWQ, NEWC T"
unfoldable mutual
  pub expr_code : Program → Scope → Expr → List Instruction
  expr_code ms sc (number n) = INT n ∷ []
  expr_code ms sc (truth b) = BOOL (truth_word b) ∷ []
  expr_code ms sc (variable x) = GET (slot_of sc x) ∷ []
  expr_code ms sc (assignment x e) = expr_code ms sc e ++ (PUT (slot_of sc x) ∷ [])
  expr_code ms sc (operation o a b) = expr_code ms sc a ++ (expr_code ms sc b ++ (instruction (operator_op o) 0 ∷ []))
  expr_code ms sc (method_call m es) = exprs_code ms sc es ++ (CALL (number_of ms m) ∷ [])
  expr_code ms sc (measurement q) = GET (slot_of sc q) ∷ MEAS ∷ []
  expr_code ms sc (reception e) = expr_code ms sc e ++ (RECV ∷ [])
  expr_code ms sc new_qubit = NEWQ ∷ []
  expr_code ms sc (new_channel t) = NEWC (carried_code t) ∷ []
  expr_code ms sc (new_end t) = NONE ∷ []

  pub exprs_code : Program → Scope → Exprs → List Instruction
  exprs_code ms sc no_more = []
  exprs_code ms sc (also e es) = expr_code ms sc e ++ exprs_code ms sc es

-- "assignment then DROP; `c = E;` with ends a, b declared with c: E, PUT c, END 0, PUT a, DROP, GET c, END 1, PUT b,
-- DROP"; a and b have the two slots after c's
unfoldable pub assign_code : Bool → ℕ → List Instruction
assign_code false i = PUT i ∷ DROP ∷ []
assign_code true i =
    PUT i ∷ END false ∷ PUT (i + 1) ∷ DROP ∷ GET i ∷ END true ∷ PUT (i + 2) ∷ DROP ∷ []

-- "call then DROP unless void; gate: arguments, GATE"
unfoldable pub drop_code : Option NonVoidType → List Instruction
drop_code none = []
drop_code (some t) = DROP ∷ []

unfoldable pub invoke_code : Program → Name → Option Method → List Instruction
invoke_code ms x none = GATE (gate_of x) ∷ []
invoke_code ms x (some m) = CALL (number_of ms x) ∷ drop_code m.returns

-- "CLEAR for each of its variables in slot order"
unfoldable pub clear_code : List Declared → ℕ → List Instruction
clear_code [] i = []
clear_code (d ∷ ds) i = CLEAR i ∷ clear_code ds (suc i)

-- "if: E, JFALSE L, S, L:; with else: E, JFALSE L, S, JUMP K, L: T, K:; while: L: E, JFALSE K, S, JUMP L, K:"; c is the
-- code of E, which begins at instruction `at` of the method, and s that of S
unfoldable pub if_code : ℕ → List Instruction → List Instruction → List Instruction
if_code at c s = c ++ (JFALSE (at + length c + 1 + length s) ∷ s)

unfoldable pub else_code : ℕ → List Instruction → List Instruction → List Instruction → List Instruction
else_code at c s t =
    c ++ (JFALSE (at + length c + 1 + length s + 1)
    ∷ s ++ (JUMP (at + length c + 1 + length s + 1 + length t) ∷ t))

unfoldable pub while_code : ℕ → List Instruction → List Instruction → List Instruction
while_code at c s = c ++ (JFALSE (at + length c + 1 + length s + 1) ∷ s ++ (JUMP at ∷ []))

-- the code of a statement that begins at instruction `at` of its method, the next free slot being i
unfoldable mutual
  pub code : Program → Scope → ℕ → ℕ → Statement → List Instruction
  code ms sc i at skip = []
  code ms sc i at (assign x e) = expr_code ms sc e ++ assign_code (ends_in sc x) (slot_of sc x)
  code ms sc i at (invoke x es) = exprs_code ms sc es ++ invoke_code ms x (method_of ms x)
  code ms sc i at (measure q) = GET (slot_of sc q) ∷ MEAS ∷ DROP ∷ []
  code ms sc i at (receive e) = expr_code ms sc e ++ (RECV ∷ DROP ∷ [])
  code ms sc i at (fork m es) = exprs_code ms sc es ++ (FORK (number_of ms m) ∷ [])
  code ms sc i at (send e v) = expr_code ms sc e ++ (expr_code ms sc v ++ (SEND ∷ []))
  code ms sc i at (give e) = expr_code ms sc e ++ (RET ∷ [])
  code ms sc i at (block ds ss) =
      clear_code (declared_by ds) i
      ++ all_code ms (opened (declared_by ds) i sc) (i + length (declared_by ds)) (at + length (declared_by ds)) ss
  code ms sc i at (conditional e s) =
      if_code at (expr_code ms sc e) (code ms sc i (at + length (expr_code ms sc e) + 1) s)
  code ms sc i at (alternative e s t) =
      else_code at (expr_code ms sc e) (code ms sc i (at + length (expr_code ms sc e) + 1) s)
      (code ms sc (i + length (within s))
      (at + length (expr_code ms sc e) + 1 + length (code ms sc i (at + length (expr_code ms sc e) + 1) s) + 1) t)
  code ms sc i at (loop e s) =
      while_code at (expr_code ms sc e) (code ms sc i (at + length (expr_code ms sc e) + 1) s)

  pub all_code : Program → Scope → ℕ → ℕ → Statements → List Instruction
  all_code ms sc i at done = []
  all_code ms sc i at (next s ss) =
      code ms sc i at s ++ all_code ms sc (i + length (within s)) (at + length (code ms sc i at s)) ss

-- the variables of a method in slot order, and the slot after them
unfoldable pub variables_of : Method → List Declared
variables_of m = body_variables m ++ all_within m.statements

unfoldable pub hole_of : Method → ℕ
hole_of m = length (variables_of m)

-- "At the end of every method: RET if void, else GET hole, RET, also behind a return."
unfoldable pub closing : Option NonVoidType → ℕ → List Instruction
closing none hole = RET ∷ []
closing (some t) hole = GET hole ∷ RET ∷ []

-- "the body: its code, no CLEAR"
unfoldable pub body_code : Program → Method → List Instruction
body_code ms m = all_code ms (opened (body_variables m) 0 []) (length (body_variables m)) 0 m.statements

unfoldable pub method_code : Program → Method → List Instruction
method_code ms m = body_code ms m ++ closing m.returns (hole_of m)

-- The table of methods in their order, main first

-- "M pairs (offset, length) in instructions"; at is the first method's offset
unfoldable pub pair_words : Program → ℕ → Program → List ℕ
pair_words ms at [] = []
pair_words ms at (m ∷ rest) =
    at ∷ length (method_code ms m) ∷ pair_words ms (at + length (method_code ms m)) rest

-- "M rows of 18 words: return type, parameter count P, 16 slot types, parameters first"
abbrev pub code_of_type : Declared → ℕ
code_of_type d = type_code d.type

unfoldable pub hole_type : Option NonVoidType → List ℕ
hole_type none = []
hole_type (some t) = type_code t ∷ []

unfoldable pub slot_codes : Method → List ℕ
slot_codes m = map code_of_type (variables_of m) ++ hole_type m.returns

unfoldable pub row_words : Method → List ℕ
row_words m = return_code m.returns ∷ length m.parameters ∷ take 16 (slot_codes m ++ replicate 16 0)

unfoldable pub rows_words : Program → List ℕ
rows_words [] = []
rows_words (m ∷ ms) = row_words m ++ rows_words ms

-- "N instructions of two words, op and argument"
unfoldable pub program_code : Program → Program → List Instruction
program_code ms [] = []
program_code ms (m ∷ rest) = method_code ms m ++ program_code ms rest

unfoldable pub code_words : List Instruction → List ℕ
code_words [] = []
code_words (i ∷ is) = i.op ∷ i.argument ∷ code_words is

unfoldable pub program_table : Program → List ℕ
program_table ms =
    length ms ∷ length (program_code ms ms)
    ∷ pair_words ms 0 ms ++ (rows_words ms ++ code_words (program_code ms ms))
