-- What one process would do if it were named: 01's table of ops, with the faults in their order.
--
-- An act is a value. Applying it, and whether an offer to send or to receive finds a partner, is in Entry.antt; end 2,
-- meetings and faults all read the same value. Where 01's rules have no case, as for an operand of another kind, the
-- act is `stuck`; for a table that passes questions 1 to 5 no process is ever stuck (proofs/Sound.antt).
use Rattle.std.specs.Prelude.{ℕ, suc, ◌+◌, Bool, cond, not, List, [], ◌∷◌, ◌++◌, reverse, ℤ, pos, ◌+ℤ◌, ◌-ℤ◌, get_or, take, drop, length, eqb, leb, ltb}
use Rattle.std.specs.Int.Signed.{lt_z}
use Rattle.lists.specs.Lists.{any}
use Rattle.table.specs.Table.{offset_of, op_at, arg_at}
use Rattle.table.specs.Ops.{one_qubit}
use Rattle.table.specs.Reading.{taken_at}
use Rattle.machine.specs.Value.{Thing, qubit, channel, end, Value, empty, int, bool, ref, is_empty, in_range, signed16, eq_z, side_of}
use Rattle.machine.specs.State.{Frame, Status, running, finished, stopped, State, Event, process_at, started, at_place, with_pending, with_slot, push, gated_one, gated_two, measured}

-- An offer names the channel and the side of the end that it is made on.
pub data OfferOf (F : Type 0) : Type 0 where
  -- to send this value; the frames once it is sent
  sends : ℕ → Bool → Value → List F → OfferOf F
  -- to receive; the frames before the value is pushed
  receives : ℕ → Bool → List F → OfferOf F

pub data ActOf (F : Type 0) : Type 0 where
  -- not started, finished or stopped
  idle : ActOf F
  -- 01 has no case: document 000 gets stuck here too
  stuck : ActOf F
  -- stops by this fault
  faults : ℕ → ActOf F
  -- goes on with these frames; the lines written; how many outcomes are used
  goes : List F → List Event → ℕ → ActOf F
  -- the root frame returns
  ends : ActOf F
  -- makes the next qubit or channel, and goes on with these frames
  makes : Thing → List F → ActOf F
  -- starts a process in this method with these arguments, first to last, and goes on with these frames
  forks : ℕ → List Value → List F → ActOf F
  -- stands at SEND or RECV
  offers : OfferOf F → ActOf F

-- those of program tables
abbrev pub Offer : Type 0
Offer = OfferOf Frame

abbrev pub Act : Type 0
Act = ActOf Frame

-- What an instruction works on: the table, the outcomes not yet used, the counts of things made; its argument; its
-- operands, from the top down, none of them empty; the frame with the operands off, standing after the instruction;
-- the frames below.
pub record At : Type 0 where
  pub program : List ℕ
  pub outcomes : List ℕ
  pub qubits : ℕ
  pub channels : ℕ
  pub processes : ℕ
  pub argument : ℕ
  pub operands : List Value
  pub frame : Frame
  pub callers : List Frame

-- the operand at depth i
abbrev pub operand : At → ℕ → Value
operand a i = get_or a.operands i empty

-- What goes on with a value of the kind wanted, for any type of frames.
abbrev pub as_int : {F : Type 0} → Value → (ℤ → ActOf F) → ActOf F
as_int empty k = stuck
as_int (int z) k = k z
as_int (bool b) k = stuck
as_int (ref t) k = stuck

abbrev pub as_bool : {F : Type 0} → Value → (Bool → ActOf F) → ActOf F
as_bool empty k = stuck
as_bool (int z) k = stuck
as_bool (bool b) k = k b
as_bool (ref t) k = stuck

abbrev pub as_thing : {F : Type 0} → Value → (Thing → ActOf F) → ActOf F
as_thing empty k = stuck
as_thing (int z) k = stuck
as_thing (bool b) k = stuck
as_thing (ref t) k = k t

abbrev pub thing_qubit : {F : Type 0} → (ℕ → ActOf F) → Thing → ActOf F
thing_qubit k (qubit n) = k n
thing_qubit k (channel n) = stuck
thing_qubit k (end n s) = stuck

abbrev pub thing_channel : {F : Type 0} → (ℕ → ActOf F) → Thing → ActOf F
thing_channel k (qubit n) = stuck
thing_channel k (channel n) = k n
thing_channel k (end n s) = stuck

abbrev pub thing_end : {F : Type 0} → (ℕ → Bool → ActOf F) → Thing → ActOf F
thing_end k (qubit n) = stuck
thing_end k (channel n) = stuck
thing_end k (end n s) = k n s

abbrev pub as_qubit : {F : Type 0} → Value → (ℕ → ActOf F) → ActOf F
as_qubit v k = as_thing v (thing_qubit k)

abbrev pub as_channel : {F : Type 0} → Value → (ℕ → ActOf F) → ActOf F
as_channel v k = as_thing v (thing_channel k)

abbrev pub as_end : {F : Type 0} → Value → (ℕ → Bool → ActOf F) → ActOf F
as_end v k = as_thing v (thing_end k)

-- "20 the slot read .. is empty"
abbrev pub present : {F : Type 0} → Value → (Value → ActOf F) → ActOf F
present empty k = faults 20
present (int z) k = k (int z)
present (bool b) k = k (bool b)
present (ref t) k = k (ref t)

-- going on with this top frame, with no line; pushing a value
abbrev pub onward : At → Frame → Act
onward a f = goes (f ∷ a.callers) [] 0

abbrev pub pushes : At → Value → Act
pushes a v = onward a (push v a.frame)

-- "INT: two's complement, -32768 to 32767", "push it"
unfoldable pub do_int : At → Act
do_int a = pushes a (int (signed16 a.argument))

unfoldable pub do_bool : At → Act
do_bool a = pushes a (bool (eqb a.argument 1))

-- "push its value"
unfoldable pub do_get : At → Act
do_get a = present (get_or a.frame.slots a.argument empty) (pushes a)

-- "store the top, leave it on top"
unfoldable pub do_put : At → Act
do_put a = onward a (push (operand a 0) (with_slot a.argument (operand a 0) a.frame))

-- "take the top away"
unfoldable pub do_drop : At → Act
do_drop a = onward a a.frame

-- "empty it"
unfoldable pub do_clear : At → Act
do_clear a = onward a (with_slot a.argument empty a.frame)

-- "push a new qubit"; "22 qubit beyond 32"
unfoldable pub do_new_q : At → Act
do_new_q a =
    cond (ltb a.qubits 32)
    (makes (qubit a.qubits) (push (ref (qubit a.qubits)) a.frame ∷ a.callers))
    (faults 22)

-- "push a new channel"; "21 channel beyond 16"
unfoldable pub do_new_c : At → Act
do_new_c a =
    cond (ltb a.channels 16)
    (makes (channel a.channels) (push (ref (channel a.channels)) a.frame ∷ a.callers))
    (faults 21)

-- "channel off, that end on"
unfoldable pub do_end : At → Act
do_end a = as_channel (operand a 0) (λ n. pushes a (ref (end n (side_of a.argument))))

-- "one qubit off for 1 to 5, else two"; "27 a two-qubit gate on one qubit"
unfoldable pub do_gate_one : At → Act
do_gate_one a = as_qubit (operand a 0) (λ q. goes (a.frame ∷ a.callers) (gated_one a.argument q ∷ []) 0)

unfoldable pub do_gate_two : At → Act
do_gate_two a =
    as_qubit (operand a 1) (λ deeper. as_qubit (operand a 0) (λ q.
    cond (eqb deeper q) (faults 27) (goes (a.frame ∷ a.callers) (gated_two a.argument deeper q ∷ []) 0)))

unfoldable pub do_gate : At → Act
do_gate a = cond (one_qubit a.argument) (do_gate_one a) (do_gate_two a)

-- "qubit off, next outcome on as int"; "24 no outcome left"
abbrev pub with_outcome : {F : Type 0} → List ℕ → (ℕ → ActOf F) → ActOf F
with_outcome [] k = faults 24
with_outcome (o ∷ os) k = k o

unfoldable pub do_meas : At → Act
do_meas a =
    as_qubit (operand a 0) (λ q. with_outcome a.outcomes (λ o.
    goes (push (int (pos o)) a.frame ∷ a.callers) (measured q o ∷ []) 1))

-- "its P arguments off, last on top"; "25 frame beyond 8", the frame that calls among them
unfoldable pub do_call : At → Act
do_call a =
    cond (ltb (suc (length a.callers)) 8)
    (goes (started a.program a.argument (reverse a.operands) ∷ a.frame ∷ a.callers) [] 0)
    (faults 25)

-- "return value off unless void; the frame goes"; "The root frame's RET finishes the process"
abbrev pub return_to : List Value → List Frame → Act
return_to vs [] = ends
return_to vs (f ∷ fs) = goes (with_pending (vs ++ f.pending) f ∷ fs) [] 0

unfoldable pub do_ret : At → Act
do_ret a = return_to a.operands a.callers

-- "FORK starts such a frame in a new process"; "23 process beyond 8"
unfoldable pub do_fork : At → Act
do_fork a =
    cond (ltb a.processes 8) (forks a.argument (reverse a.operands) (a.frame ∷ a.callers)) (faults 23)

-- "off: end, then value above it"
unfoldable pub do_send : At → Act
do_send a = as_end (operand a 1) (λ n s. offers (sends n s (operand a 0) (a.frame ∷ a.callers)))

-- "end off, received value on"
unfoldable pub do_recv : At → Act
do_recv a = as_end (operand a 0) (λ n s. offers (receives n s (a.frame ∷ a.callers)))

-- "instruction, from the method's start"
abbrev pub jump : At → Act
jump a = onward a (at_place (offset_of a.program a.frame.method + a.argument) a.frame)

unfoldable pub do_jump : At → Act
do_jump a = jump a

-- "JFALSE takes a boolean, jumps on false"
unfoldable pub do_j_false : At → Act
do_j_false a = as_bool (operand a 0) (λ b. cond b (onward a a.frame) (jump a))

-- "two ints; SUB and LESS put the deeper first"; "26 int out of range"
abbrev pub two_ints : At → (ℤ → ℤ → Act) → Act
two_ints a k = as_int (operand a 1) (λ x. as_int (operand a 0) (λ y. k x y))

abbrev pub result : At → ℤ → Act
result a z = cond (in_range z) (pushes a (int z)) (faults 26)

unfoldable pub do_add : At → Act
do_add a = two_ints a (λ x y. result a (x +ℤ y))

unfoldable pub do_sub : At → Act
do_sub a = two_ints a (λ x y. result a (x -ℤ y))

unfoldable pub do_eq : At → Act
do_eq a = two_ints a (λ x y. pushes a (bool (eq_z x y)))

unfoldable pub do_less : At → Act
do_less a = two_ints a (λ x y. pushes a (bool (lt_z x y)))

unfoldable pub do_not : At → Act
do_not a = as_bool (operand a 0) (λ b. pushes a (bool (not b)))

unfoldable pub do_nothing : At → Act
do_nothing a = stuck

-- 01's table, from op 0, which is no op, to op 23
unfoldable pub doings : List (At → Act)
doings =
    do_nothing
    ∷ do_int ∷ do_bool ∷ do_get ∷ do_put ∷ do_drop ∷ do_clear
    ∷ do_new_q ∷ do_new_c ∷ do_end ∷ do_gate ∷ do_meas
    ∷ do_call ∷ do_ret ∷ do_fork ∷ do_send ∷ do_recv
    ∷ do_jump ∷ do_j_false
    ∷ do_add ∷ do_sub ∷ do_eq ∷ do_less ∷ do_not
    ∷ []

unfoldable pub doing_of : ℕ → At → Act
doing_of n = get_or doings n do_nothing

-- the frame with n operands off, standing after its instruction
unfoldable pub passed_by : ℕ → Frame → Frame
passed_by n f = at_place (suc f.place) (with_pending (drop n f.pending) f)

-- what the instruction at the frame's place works on
unfoldable pub scene_of : List ℕ → List ℕ → State → Frame → List Frame → At
scene_of p outcomes s f fs = record {
  program = p;
  outcomes = drop s.used outcomes;
  qubits = s.config.qubits;
  channels = s.config.channels;
  processes = length s.config.processes;
  argument = arg_at p f.place;
  operands = take (taken_at p f.place) f.pending;
  frame = passed_by (taken_at p f.place) f;
  callers = fs;
}

-- "20 the slot read, or a value taken, stored, dropped or returned, is empty (before all others, and before waiting)"
unfoldable pub at_frame : List ℕ → List ℕ → State → Frame → List Frame → Act
at_frame p outcomes s f fs =
    cond (leb (taken_at p f.place) (length f.pending))
    (cond (any is_empty (take (taken_at p f.place) f.pending))
    (faults 20)
    (doing_of (op_at p f.place) (scene_of p outcomes s f fs)))
    stuck

unfoldable pub at_frames : List ℕ → List ℕ → State → List Frame → Act
at_frames p outcomes s [] = stuck
at_frames p outcomes s (f ∷ fs) = at_frame p outcomes s f fs

unfoldable pub by_status : {F : Type 0} → Status → ActOf F → ActOf F
by_status running act = act
by_status finished act = idle
by_status (stopped n) act = idle

-- what process n would do
unfoldable pub act_of : List ℕ → List ℕ → State → ℕ → Act
act_of p outcomes s n =
    by_status (process_at s.config n).status (at_frames p outcomes s (process_at s.config n).frames)
