-- What a text means: rules on its tree, after document 000's. The machine of texts has these rules for what a process
-- would do; entries, meetings, giving away, faults and ends are 01's, as for program tables (crate machine).
--
-- As in 000, a frame has a stack of terms, the variables by name, and the values that are already evaluated. A term is
-- a statement or an expression whose parts before the • are evaluated. 000's transitions that only unfold a term
-- (OP-PROMOEXPR, OP-ASSIGNEXPR, OP-IFEXPR, OP-METHODCALLEXPR and the like, OP-BRACKET, OP-SUBSTE, OP-SUBSTS,
-- OP-BLOCKHEAD, OP-BLOCK, OP-BLOCKEND, OP-SKIP) are done together with the move that follows them, so that one entry of
-- the schedule is one move. Where a rule leaves 000 beyond 01's own departures, it says so; docs/TEXT.md has a text for
-- each ("Where the meaning leaves document 000").
use Rattle.std.specs.Prelude.{ℕ, zero, suc, ◌-◌, Bool, true, false, cond, List, [], ◌∷◌, ◌++◌, map, reverse, pos, ◌+ℤ◌, ◌-ℤ◌, get_or, take, drop, length, eqb, leb, ltb}
use Rattle.std.proofs.Math.Option.{Option, none, some}
use Rattle.std.specs.Int.Signed.{lt_z}
use Rattle.lists.specs.Lists.{any}
use Rattle.table.specs.Ops.{one_qubit, gate_qubits}
use Rattle.machine.specs.Value.{Thing, qubit, channel, end, Value, empty, int, bool, ref, is_empty, in_range, eq_z, side_no}
use Rattle.machine.specs.State.{StateOf, process_at, gated_one, gated_two, measured}
use Rattle.machine.specs.Act.{ActOf, stuck, faults, goes, ends, makes, forks, offers, sends, receives, as_int, as_bool, as_qubit, as_channel, as_end, present, with_outcome, by_status}
use Rattle.machine.specs.Entry.{MachineOf, without}
use Rattle.machine.specs.Run.{ResultOf, run_in}
use Rattle.text.specs.Tree.{Name, NonVoidType, Operator, plus, minus, equals, less_than, Expr, Exprs, number, truth, variable, assignment, operation, method_call, measurement, reception, new_qubit, new_channel, new_end, no_more, also, Statement, Statements, skip, assign, invoke, measure, receive, fork, send, give, block, conditional, alternative, loop, done, next, Method, Program, Declared, declared_by, body_variables, count, index_of, method_at, number_of, method_of, main_first, gate_of}

-- What is left to do at a term, once the values that it takes are there.
pub data Move : Type 0 where
  -- a constant (OP-CONST), a variable x (OP-VAR)
  constant : Value → Move
  look_up : Name → Move
  -- x = • in an expression: an int or a boolean (OP-ASSIGNNEWVALUE), a qubit (OP-ASSIGNQVALUE), a channel or an end
  -- (OP-ASSIGNVALUE)
  store : Name → Move
  -- • op •, in 000 the call of a method that returns the value (OP-DOMETHODCALLCL, OP-RETURNVALUE), here one move
  operate : Operator → Move
  -- m(•, .., •) of so many values (OP-DOMETHODCALLCL)
  call : Name → ℕ → Move
  -- measure(StdBasis, •) (OP-DOMEASURE), recv(•) (OP-SENDRECV)
  measure_it : Move
  receive_it : Move
  -- new qbit() (OP-ALLOCQ), new channel[T]() (OP-ALLOCC), new channelEnd[T](), for which 000 has no rule
  alloc_qubit : Move
  alloc_channel : Move
  alloc_end : Move
  -- •; (OP-PROMOFORGET)
  forget : Move
  -- x = •; by the same rules, then for a channel with ends the parts of which OP-ASSIGNVALUE is made: the end of •, and
  -- its variable. So such an assignment is eight moves, in 000 it is OP-ASSIGNVALUE and OP-PROMOFORGET.
  assign_to : Name → Move
  take_end : Bool → Move
  store_end : Bool → Name → Move
  -- a gate of this number on • or on •, • (OP-DOMETHODCALLQ). In 000 it leaves a value without content, which
  -- OP-PROMOFORGET forgets; here it leaves none, and neither does a call of a void method.
  gate : ℕ → Move
  -- fork m(•, .., •); (OP-DOFORK), send(•, •); (OP-SENDRECV), return •; (OP-RETURNVALUE)
  fork_it : Name → ℕ → Move
  send_it : Move
  return_it : Move
  -- if (•) S, and if (•) S else S (OP-IFTRUE, OP-IFFALSE); the first branch of the latter is done. In 000 the former is
  -- short for `if (•) S else ;`, and the end of a branch is no transition.
  if_true : Statement → Move
  if_else : Statement → Statement → Move
  branch_done : Move
  -- while (E) S with E evaluated (OP-WHILE and then OP-IFTRUE, OP-IFFALSE); its body is done, in 000 no transition
  while_true : Expr → Statement → Move
  body_done : Expr → Statement → Move
  -- T x; in an inner block (OP-VARDECL; OP-VARDECLCHE, which is one transition, as three moves)
  declare : Declared → Move
  -- the end of a method's body (OP-RETURNVOIDIMPL)
  method_done : Move

-- A term: a move, or the mark of a block's end, at which so many variables go out of scope (OP-BLOCKEND).
pub data Term : Type 0 where
  move : Move → Term
  leave : ℕ → Term

-- A variable's name, whether it is a channel with ends, and its value.
pub record Variable : Type 0 where
  pub name : Name
  pub ends : Bool
  pub value : Value

-- The variables are listed from the innermost one on, the values from the last one on.
pub record TextFrame : Type 0 where
  pub terms : List Term
  pub variables : List Variable
  pub values : List Value
  -- whether its method returns a value
  pub gives : Bool

-- How terms unfold

-- an expression is evaluated from left to right, and its value is there for what follows
unfoldable mutual
  pub evaluated : Expr → List Term → List Term
  evaluated (number n) k = move (constant (int (pos n))) ∷ k
  evaluated (truth b) k = move (constant (bool b)) ∷ k
  evaluated (variable x) k = move (look_up x) ∷ k
  evaluated (assignment x e) k = evaluated e (move (store x) ∷ k)
  evaluated (operation o a b) k = evaluated a (evaluated b (move (operate o) ∷ k))
  evaluated (method_call m es) k = all_evaluated es (move (call m (count es)) ∷ k)
  evaluated (measurement q) k = move (look_up q) ∷ move measure_it ∷ k
  evaluated (reception e) k = evaluated e (move receive_it ∷ k)
  evaluated new_qubit k = move alloc_qubit ∷ k
  evaluated (new_channel t) k = move alloc_channel ∷ k
  evaluated (new_end t) k = move alloc_end ∷ k

  pub all_evaluated : Exprs → List Term → List Term
  all_evaluated no_more k = k
  all_evaluated (also e es) k = evaluated e (all_evaluated es k)

-- "call then DROP unless void": a value that a statement does not use is forgotten
unfoldable pub forgotten : Option NonVoidType → List Term → List Term
forgotten none k = k
forgotten (some t) k = move forget ∷ k

-- "A gate's name is a gate in a statement where no method of the text has that name"
unfoldable pub invoked : Option Method → Name → ℕ → List Term → List Term
invoked none x n k = move (gate (gate_of x)) ∷ k
invoked (some m) x n k = move (call x n) ∷ forgotten m.returns k

-- the declarations of a block, one after the other
unfoldable pub declared : List Declared → List Term → List Term
declared [] k = k
declared (d ∷ ds) k = move (declare d) ∷ declared ds k

unfoldable mutual
  pub performed : Program → Statement → List Term → List Term
  performed ms skip k = k
  performed ms (assign x e) k = evaluated e (move (assign_to x) ∷ k)
  performed ms (invoke x es) k = all_evaluated es (invoked (method_of ms x) x (count es) k)
  performed ms (measure q) k = move (look_up q) ∷ move measure_it ∷ move forget ∷ k
  performed ms (receive e) k = evaluated e (move receive_it ∷ move forget ∷ k)
  performed ms (fork m es) k = all_evaluated es (move (fork_it m (count es)) ∷ k)
  performed ms (send e v) k = evaluated e (evaluated v (move send_it ∷ k))
  performed ms (give e) k = evaluated e (move return_it ∷ k)
  performed ms (block ds ss) k =
      declared (declared_by ds) (all_performed ms ss (leave (length (declared_by ds)) ∷ k))
  performed ms (conditional e s) k = evaluated e (move (if_true s) ∷ k)
  performed ms (alternative e s t) k = evaluated e (move (if_else s t) ∷ k)
  performed ms (loop e s) k = evaluated e (move (while_true e s) ∷ k)

  pub all_performed : Program → Statements → List Term → List Term
  all_performed ms done k = k
  all_performed ms (next s ss) k = performed ms s (all_performed ms ss k)

-- Variables by name: the innermost one of the name is meant

abbrev pub variable_name : Variable → Name
variable_name v = v.name

abbrev pub value_in : Variable → Value
value_in v = v.value

-- how many variables stand before the one meant
unfoldable pub found : Name → List Variable → ℕ
found x vs = index_of x (map variable_name vs)

unfoldable pub value_of : Name → List Variable → Value
value_of x vs = get_or (map value_in vs) (found x vs) empty

-- the variable after so many others has this value
unfoldable pub bound_at : ℕ → Value → List Variable → List Variable
bound_at i v [] = []
bound_at zero v (w ∷ ws) = record { name = w.name; ends = w.ends; value = v } ∷ ws
bound_at (suc i) v (w ∷ ws) = w ∷ bound_at i v ws

unfoldable pub has_ends : Name → List Variable → Bool
has_ends x vs = get_or (map (λ (w : Variable). w.ends) vs) (found x vs) false

-- The ends of a channel with ends are the variables declared after it, so they stand one and two before it, whatever
-- an inner block declares under their names. In 000 the variables that have the ends' names there are meant; and its
-- look-up of the ends (chan_ends) passes by a plain channel of that name, which here has none.
unfoldable pub end_of_found : Bool → ℕ → ℕ
end_of_found d i = i - suc (side_no d)

-- a variable when it is declared, and the variables of a method when it starts
abbrev pub fresh : Declared → Value → Variable
fresh d v = record { name = d.name; ends = d.ends; value = v }

unfoldable pub entered : List Declared → List Value → List Variable → List Variable
entered [] vs ws = ws
entered (d ∷ ds) [] ws = entered ds [] (fresh d empty ∷ ws)
entered (d ∷ ds) (v ∷ vs) ws = entered ds vs (fresh d v ∷ ws)

abbrev pub is_some : Option NonVoidType → Bool
is_some none = false
is_some (some t) = true

-- "CALL starts a frame with the arguments in its first slots, the others empty": the parameters have the arguments, the
-- other variables of the body no value. In 000 each of these declarations is a transition of its own.
unfoldable pub body_of : Program → List Value → Option Method → TextFrame
body_of ms args none = record { terms = []; variables = []; values = []; gives = false }
body_of ms args (some m) = record {
  terms = all_performed ms m.statements (move method_done ∷ []);
  variables = entered (body_variables m) args [];
  values = [];
  gives = is_some m.returns;
}

unfoldable pub started_in : Program → ℕ → List Value → TextFrame
started_in ms n args = body_of ms args (method_at ms n)

-- The rules

-- What a move works on: the program, the outcomes not yet used, the counts of what is made; its operands, from the last
-- one on, none of them empty; the frame with the operands and the term off; the frames below.
pub record Scene : Type 0 where
  pub program : Program
  pub outcomes : List ℕ
  pub qubits : ℕ
  pub channels : ℕ
  pub processes : ℕ
  pub operands : List Value
  pub frame : TextFrame
  pub callers : List TextFrame

abbrev pub TextAct : Type 0
TextAct = ActOf TextFrame

abbrev pub operand : Scene → ℕ → Value
operand a i = get_or a.operands i empty

-- a frame with one part changed
abbrev pub with_terms : List Term → TextFrame → TextFrame
with_terms ts f = record { terms = ts; variables = f.variables; values = f.values; gives = f.gives }

abbrev pub with_variables : List Variable → TextFrame → TextFrame
with_variables vs f = record { terms = f.terms; variables = vs; values = f.values; gives = f.gives }

abbrev pub with_values : List Value → TextFrame → TextFrame
with_values vs f = record { terms = f.terms; variables = f.variables; values = vs; gives = f.gives }

abbrev pub pushed : Value → TextFrame → TextFrame
pushed v f = with_values (v ∷ f.values) f

-- going on with this top frame, with no line; with one more value; with these terms
abbrev pub onward : Scene → TextFrame → TextAct
onward a f = goes (f ∷ a.callers) [] 0

abbrev pub pushes : Scene → Value → TextAct
pushes a v = onward a (pushed v a.frame)

abbrev pub continues : Scene → List Term → TextAct
continues a ts = onward a (with_terms ts a.frame)

-- an assignment's value is the value assigned
abbrev pub binds : Scene → ℕ → TextAct
binds a i = onward a (pushed (operand a 0) (with_variables (bound_at i (operand a 0) a.frame.variables) a.frame))

-- the terms after x = •; : a channel's ends are assigned too, where it was declared with ends (OP-ASSIGNVALUE)
unfoldable pub assigned_ends : Bool → Name → List Term → List Term
assigned_ends false x k = move forget ∷ k
assigned_ends true x k =
    move (take_end false) ∷ move (store_end false x) ∷ move forget
    ∷ move (look_up x) ∷ move (take_end true) ∷ move (store_end true x) ∷ move forget ∷ k

unfoldable pub assigning : Scene → Name → TextAct
assigning a x =
    onward a (pushed (operand a 0) (with_terms (assigned_ends (has_ends x a.frame.variables) x a.frame.terms)
    (with_variables (bound_at (found x a.frame.variables) (operand a 0) a.frame.variables) a.frame)))

-- "two ints"; "26 int out of range"
unfoldable pub operating : Operator → Scene → TextAct
operating plus a =
    as_int (operand a 1) (λ x. as_int (operand a 0) (λ y. cond (in_range (x +ℤ y)) (pushes a (int (x +ℤ y))) (faults 26)))
operating minus a =
    as_int (operand a 1) (λ x. as_int (operand a 0) (λ y. cond (in_range (x -ℤ y)) (pushes a (int (x -ℤ y))) (faults 26)))
operating equals a = as_int (operand a 1) (λ x. as_int (operand a 0) (λ y. pushes a (bool (eq_z x y))))
operating less_than a = as_int (operand a 1) (λ x. as_int (operand a 0) (λ y. pushes a (bool (lt_z x y))))

-- "25 frame beyond 8", "23 process beyond 8"
unfoldable pub calling : Scene → Name → TextAct
calling a x =
    cond (ltb (suc (length a.callers)) 8)
    (goes (started_in a.program (number_of a.program x) (reverse a.operands) ∷ a.frame ∷ a.callers) [] 0)
    (faults 25)

unfoldable pub forking : Scene → Name → TextAct
forking a x =
    cond (ltb a.processes 8)
    (forks (number_of a.program x) (reverse a.operands) (a.frame ∷ a.callers))
    (faults 23)

unfoldable pub measuring : Scene → TextAct
measuring a =
    as_qubit (operand a 0) (λ q. with_outcome a.outcomes (λ o.
    goes (pushed (int (pos o)) a.frame ∷ a.callers) (measured q o ∷ []) 1))

-- "22 qubit beyond 32", "21 channel beyond 16"
unfoldable pub allocating : Scene → TextAct
allocating a =
    cond (ltb a.qubits 32)
    (makes (qubit a.qubits) (pushed (ref (qubit a.qubits)) a.frame ∷ a.callers))
    (faults 22)

unfoldable pub opening : Scene → TextAct
opening a =
    cond (ltb a.channels 16)
    (makes (channel a.channels) (pushed (ref (channel a.channels)) a.frame ∷ a.callers))
    (faults 21)

-- "27 a two-qubit gate on one qubit"
unfoldable pub gating : Scene → ℕ → TextAct
gating a g =
    cond (one_qubit g)
    (as_qubit (operand a 0) (λ q. goes (a.frame ∷ a.callers) (gated_one g q ∷ []) 0))
    (as_qubit (operand a 1) (λ first. as_qubit (operand a 0) (λ q.
    cond (eqb first q) (faults 27) (goes (a.frame ∷ a.callers) (gated_two g first q ∷ []) 0))))

-- the frame goes, and the value returned is there for the frame below; "The root frame's RET finishes the process"
abbrev pub returning : List Value → List TextFrame → TextAct
returning vs [] = ends
returning vs (f ∷ fs) = goes (with_values (vs ++ f.values) f ∷ fs) [] 0

-- "Running off a non-void method's end is fault 20."
unfoldable pub running_off : Scene → TextAct
running_off a = cond a.frame.gives (faults 20) (returning [] a.callers)

unfoldable pub sending : Scene → TextAct
sending a = as_end (operand a 1) (λ n d. offers (sends n d (operand a 0) (a.frame ∷ a.callers)))

unfoldable pub receiving : Scene → TextAct
receiving a = as_end (operand a 0) (λ n d. offers (receives n d (a.frame ∷ a.callers)))

unfoldable pub declaring : Scene → Declared → TextAct
declaring a d = onward a (with_variables (fresh d empty ∷ a.frame.variables) a.frame)

-- one rule for each move
unfoldable pub rule : Move → Scene → TextAct
rule (constant v) a = pushes a v
rule (look_up x) a = present (value_of x a.frame.variables) (pushes a)
rule (store x) a = binds a (found x a.frame.variables)
rule (operate o) a = operating o a
rule (call x n) a = calling a x
rule measure_it a = measuring a
rule receive_it a = receiving a
rule alloc_qubit a = allocating a
rule alloc_channel a = opening a
rule alloc_end a = stuck
rule forget a = onward a a.frame
rule (assign_to x) a = assigning a x
rule (take_end d) a = as_channel (operand a 0) (λ n. pushes a (ref (end n d)))
rule (store_end d x) a = binds a (end_of_found d (found x a.frame.variables))
rule (gate g) a = gating a g
rule (fork_it x n) a = forking a x
rule send_it a = sending a
rule return_it a = returning a.operands a.callers
rule (if_true s) a =
    as_bool (operand a 0) (λ b. continues a (cond b (performed a.program s a.frame.terms) a.frame.terms))
rule (if_else s t) a =
    as_bool (operand a 0) (λ b. continues a
    (cond b (performed a.program s (move branch_done ∷ a.frame.terms))
    (performed a.program t a.frame.terms)))
rule branch_done a = onward a a.frame
rule (while_true e s) a =
    as_bool (operand a 0) (λ b. continues a
    (cond b (performed a.program s (move (body_done e s) ∷ a.frame.terms)) a.frame.terms))
rule (body_done e s) a = continues a (evaluated e (move (while_true e s) ∷ a.frame.terms))
rule (declare d) a = declaring a d
rule method_done a = running_off a

-- how many values a move takes; return takes one where the method returns a value
unfoldable pub taken_by : Bool → Move → ℕ
taken_by gives (constant v) = 0
taken_by gives (look_up x) = 0
taken_by gives (store x) = 1
taken_by gives (operate o) = 2
taken_by gives (call x n) = n
taken_by gives measure_it = 1
taken_by gives receive_it = 1
taken_by gives alloc_qubit = 0
taken_by gives alloc_channel = 0
taken_by gives alloc_end = 0
taken_by gives forget = 1
taken_by gives (assign_to x) = 1
taken_by gives (take_end d) = 1
taken_by gives (store_end d x) = 1
taken_by gives (gate g) = gate_qubits g
taken_by gives (fork_it x n) = n
taken_by gives send_it = 2
taken_by gives return_it = cond gives 1 0
taken_by gives (if_true s) = 1
taken_by gives (if_else s t) = 1
taken_by gives branch_done = 0
taken_by gives (while_true e s) = 1
taken_by gives (body_done e s) = 0
taken_by gives (declare d) = 0
taken_by gives method_done = 0

unfoldable pub scene_in : Program → List ℕ → StateOf TextFrame → ℕ → TextFrame → List TextFrame → Scene
scene_in ms outcomes s n f fs = record {
  program = ms;
  outcomes = drop s.used outcomes;
  qubits = s.config.qubits;
  channels = s.config.channels;
  processes = length s.config.processes;
  operands = take n f.values;
  frame = with_values (drop n f.values) f;
  callers = fs;
}

-- "20 .. a value taken, stored, dropped or returned, is empty (before all others, and before waiting)"; f is the frame
-- with the term off
unfoldable pub moving : Program → List ℕ → StateOf TextFrame → Move → TextFrame → List TextFrame → TextAct
moving ms outcomes s m f fs =
    let n = taken_by f.gives m in
    cond (leb n (length f.values))
    (cond (any is_empty (take n f.values)) (faults 20) (rule m (scene_in ms outcomes s n f fs)))
    stuck

-- the first move of the terms; where a block ends, its variables go out of scope before it
unfoldable pub first_move : Program → List ℕ → StateOf TextFrame → List Term → List Variable → TextFrame
    → List TextFrame → TextAct
first_move ms outcomes s [] ws f fs = stuck
first_move ms outcomes s (move m ∷ ts) ws f fs = moving ms outcomes s m (with_terms ts (with_variables ws f)) fs
first_move ms outcomes s (leave n ∷ ts) ws f fs = first_move ms outcomes s ts (drop n ws) f fs

unfoldable pub at_top : Program → List ℕ → StateOf TextFrame → List TextFrame → TextAct
at_top ms outcomes s [] = stuck
at_top ms outcomes s (f ∷ fs) = first_move ms outcomes s f.terms f.variables f fs

unfoldable pub text_act : Program → List ℕ → StateOf TextFrame → ℕ → TextAct
text_act ms outcomes s n =
    by_status (process_at s.config n).status (at_top ms outcomes s (process_at s.config n).frames)

-- "Giving away": every variable and every value of the giver that holds the thing, the half-evaluated ones too
unfoldable pub variable_without : List Thing → Variable → Variable
variable_without ts v = record { name = v.name; ends = v.ends; value = without ts v.value }

unfoldable pub text_frame_without : List Thing → TextFrame → TextFrame
text_frame_without ts f = record {
  terms = f.terms;
  variables = map (variable_without ts) f.variables;
  values = map (without ts) f.values;
  gives = f.gives;
}

unfoldable pub value_received : Value → List TextFrame → List TextFrame
value_received v [] = []
value_received v (f ∷ fs) = pushed v f ∷ fs

-- The machine of a text whose methods stand with main first, and the run that is the text's meaning.
abbrev pub text_machine : Program → List ℕ → MachineOf TextFrame
text_machine ms outcomes = record {
  act = text_act ms outcomes;
  starts = started_in ms;
  loses = λ ts fs. map (text_frame_without ts) fs;
  gets = value_received;
}

unfoldable pub meaning : Program → List ℕ → ℕ → List ℕ → ResultOf TextFrame
meaning ms outcomes room schedule = run_in (text_machine (main_first ms) outcomes) room schedule
