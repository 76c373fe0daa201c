-- Frames that stand for each other do alike: each move by its instruction.
use Prim.Native.Nat.{ℕ, ◌≤◌}
use mathlib.Core.Bool.{cond}
use mathlib.Core.Path.{◌≡◌, refl, sym, ap, ◌∙◌}
use mathlib.Core.List.{List, map}
use mathlib.Core.Option.{Option, none, some}
use lib.ListN.{get_or, length}
use Rattle.table.specs.Table.{params_of}
use Rattle.table.specs.Ops.{gate_qubits, returned, op_int, op_bool, op_get, op_put, op_drop, op_clear, op_new_q, op_new_c, op_end, op_gate, op_meas, op_call, op_ret, op_fork, op_send, op_recv, op_jump, op_j_false, op_arith, op_compare, unlisted, ops, op_of}
use Rattle.machine.specs.Value.{Value}
use Rattle.machine.specs.State.{Frame, State, StateOf}
use Rattle.machine.specs.Act.{at_frame}
use Rattle.simulation.specs.Simulation.{FramesLike}
use Rattle.text.specs.Tree.{Name, int_type, boolean_type, qbit_type, NonVoidType, plain, channel_type, end_type, Operator, plus, minus, equals, less_than, Method, Program, method_at, method_of, number_of}
use Rattle.text.specs.Meaning.{Move, constant, look_up, store, operate, call, measure_it, receive_it, alloc_qubit, alloc_channel, alloc_end, forget, assign_to, take_end, store_end, gate, fork_it, send_it, return_it, if_true, if_else, branch_done, while_true, body_done, declare, method_done, Term, TextFrame, is_some, end_of_found, taken_by, moving}
use Rattle.text.specs.Translation.{Instruction, instruction, GET, PUT, DROP, CLEAR, NEWQ, NEWC, END, GATE, MEAS, CALL, RET, FORK, SEND, RECV, JUMP, JFALSE, NONE, operator_op, carried_code, type_code, return_code, placed_slot, found_in, slot_of, closing, hole_of, method_code, program_table}
use Rattle.text.proofs.Elements.{nth}
use Rattle.text.proofs.Words.{return-of, params-of}
use Rattle.text.proofs.Limited.{Limited}
use Rattle.text.proofs.Follows.{Callable, ConstantOf, of-int, of-bool, CodeThen, Follow, Follows}
use Rattle.text.proofs.Like.{Stand, table-frame, text-frame, Like}
use Rattle.text.proofs.Acting.{Acts}
use Rattle.text.proofs.Scenes.{Counts, counts_of, Does, taken-by, act-like}
use Rattle.text.proofs.Rules.{constant-like, look-up-like, forget-like, end-of-like, operate-like, measure-like, receive-like, send-like, qubit-made-like, channel-made-like, no-op-like, gate-like, return-like}
use Rattle.text.proofs.Storing.{store-like, store-end-like, assign-like, declare-like}
use Rattle.text.proofs.Control.{LoopParts, loop-parts, if-like, else-like, jump-like, while-like, back-like, void-like, run-off-like}
use Rattle.text.proofs.Calls.{call-like, fork-like}

-- How many values an instruction takes

-- a constant takes none
constant-takes : (p : List ℕ) (n : ℕ) (v : Value) (x : Instruction) → ConstantOf v x
    → (op_of x.op).takes p n x.argument ≡ 0
unfolding op_of ops op_int op_bool
constant-takes p n v x (of-int i le) = refl
constant-takes p n v x (of-bool b) = refl

-- an operator two
operator-takes : (p : List ℕ) (n : ℕ) (o : Operator) → (op_of (operator_op o)).takes p n 0 ≡ 2
unfolding op_of ops op_arith op_compare operator_op
operator-takes p n plus = refl
operator-takes p n minus = refl
operator-takes p n equals = refl
operator-takes p n less_than = refl

-- a call and a fork take the method's parameters
module _ (ms : Program) (x : Name) (k : ℕ) (callable : Callable ms x k) where
  takes-parameters : params_of (program_table ms) (number_of ms x) ≡ k
  unfolding method_of
  takes-parameters =
      params-of ms (number_of ms x) callable.method callable.is-method ∙ sym callable.arguments

  -- of a call
  call-takes : (n : ℕ) → (op_of 12).takes (program_table ms) n (number_of ms x) ≡ k
  unfolding op_of ops op_call
  call-takes n = takes-parameters

  -- of a fork
  fork-takes : (n : ℕ) → (op_of 14).takes (program_table ms) n (number_of ms x) ≡ k
  unfolding op_of ops op_fork
  fork-takes n = takes-parameters

-- a value returned is one value
type-returned : (t : NonVoidType) → length (returned (type_code t)) ≡ 1
unfolding returned type_code carried_code
type-returned (plain int_type) = refl
type-returned (plain boolean_type) = refl
type-returned (plain qbit_type) = refl
type-returned (channel_type int_type) = refl
type-returned (channel_type boolean_type) = refl
type-returned (channel_type qbit_type) = refl
type-returned (end_type int_type) = refl
type-returned (end_type boolean_type) = refl
type-returned (end_type qbit_type) = refl

-- and none is returned where there is no return type
value-returned : (o : Option NonVoidType) → length (returned (return_code o)) ≡ cond (is_some o) 1 0
unfolding return_code returned
value-returned none = refl
value-returned (some t) = type-returned t

-- what RET takes
return-takes : (ms : Program) (n : ℕ) (m : Method) → method_at ms n ≡ some m
    → (op_of 13).takes (program_table ms) n 0 ≡ cond (is_some m.returns) 1 0
unfolding op_of ops op_ret
return-takes ms n m is =
    ap (λ (t : ℕ). length (returned t)) (return-of ms n m is) ∙ value-returned m.returns

module _ (ms : Program) (limited : Limited ms) (outcomes : List ℕ) (w : Stand ms) (ts : List Term)
    {fs : List Frame} {gs : List TextFrame} (callers : FramesLike (Like ms) fs gs)
    (s : State) (s' : StateOf TextFrame) (counts : counts_of ms outcomes s ≡ counts_of ms outcomes s') where
  abbrev m : Method
  m = w.method

  abbrev p : List ℕ
  p = program_table ms

  abbrev c : Counts
  c = counts_of ms outcomes s

  -- both frames would do alike
  abbrev pub Alike : Move → Type 0
  Alike v =
      Acts ms outcomes (at_frame p outcomes s (table-frame w) fs) (moving ms outcomes s' v (text-frame w ts) gs)

  -- instruction x stands where the frames do, takes as many values as move v, and does what its rule does
  by : (x : Instruction) (v : Move) → nth (method_code ms m) w.at ≡ some x
      → (op_of x.op).takes p w.number x.argument ≡ taken-by ms outcomes w ts callers v
      → (taken-by ms outcomes w ts callers v ≤ length w.values
      → Does ms outcomes w ts callers c x.op x.argument (taken-by ms outcomes w ts callers v) v)
      → Alike v
  by x v stands takes does = act-like ms outcomes w ts callers s s' counts x v stands takes does

  -- the end of a body
  done-by : (o : Option NonVoidType) → m.returns ≡ o
      → CodeThen ms m (closing o (hole_of m)) (λ (j : ℕ). Unit {0}) w.at → Alike method_done
  unfolding closing taken_by op_of ops op_get
  done-by none e h =
      by RET method_done h.0
      (return-takes ms w.number m w.is-method ∙ ap (λ (o : Option NonVoidType). cond (is_some o) 1 0) e)
      (λ l. void-like ms outcomes w ts callers c (ap is_some e))
  done-by (some t) e h =
      by (GET (hole_of m)) method_done h.0 refl (λ l. run-off-like ms outcomes w ts callers c (ap is_some e))

  -- Each move has its instruction where the frames stand.
  pub move-like : (v : Move) → Follow ms m v (Follows ms m ts) w.scope w.at → Alike v
  unfolding taken_by op_of ops op_get op_put op_drop op_clear op_new_q op_new_c op_end op_gate op_meas op_send op_recv op_jump op_j_false
      unlisted
  move-like (constant v) h =
      by h.pushes (constant v) h.stands.0 (constant-takes p w.number v h.pushes h.is-constant)
      (λ l. constant-like ms outcomes w ts callers c h.stands.1 v h.pushes h.is-constant)
  move-like (look_up x) h =
      by (GET (slot_of w.scope x)) (look_up x) h.0 refl (λ l. look-up-like ms outcomes w ts callers c h.1 x)
  move-like (store x) h =
      by (PUT (slot_of w.scope x)) (store x) h.0 refl (λ l. store-like ms outcomes w ts callers c x h.1)
  move-like (operate o) h =
      by (instruction (operator_op o) 0) (operate o) h.0 (operator-takes p w.number o)
      (λ l. operate-like ms outcomes w ts callers c h.1 o)
  move-like (call x k) h =
      by (CALL (number_of ms x)) (call x k) h.1.0 (call-takes ms x k h.0 w.number)
      (λ l. call-like ms limited outcomes w ts callers c h.1.1 x k h.0 l)
  move-like measure_it h = by MEAS measure_it h.0 refl (λ l. measure-like ms outcomes w ts callers c h.1)
  move-like receive_it h = by RECV receive_it h.0 refl (λ l. receive-like ms outcomes w ts callers c h.1)
  move-like alloc_qubit h = by NEWQ alloc_qubit h.0 refl (λ l. qubit-made-like ms outcomes w ts callers c h.1)
  move-like alloc_channel h =
      by (NEWC h.carried) alloc_channel h.stands.0 refl
      (λ l. channel-made-like ms outcomes w ts callers c h.stands.1 h.carried)
  move-like alloc_end h = by NONE alloc_end h.0 refl (λ l. no-op-like ms outcomes w ts callers c h.1)
  move-like forget h = by DROP forget h.0 refl (λ l. forget-like ms outcomes w ts callers c h.1)
  move-like (assign_to x) h =
      by (PUT (slot_of w.scope x)) (assign_to x) h.0 refl (λ l. assign-like ms outcomes w ts callers c x h.1)
  move-like (take_end d) h = by (END d) (take_end d) h.0 refl (λ l. end-of-like ms outcomes w ts callers c h.1 d)
  move-like (store_end d x) h =
      by (PUT (get_or (map placed_slot w.scope) (end_of_found d (found_in x w.scope)) 16)) (store_end d x) h.0 refl
      (λ l. store-end-like ms outcomes w ts callers c d x h.1)
  move-like (gate g) h =
      by (GATE g) (gate g) h.0 refl (λ l. gate-like ms outcomes w ts callers c h.1 g (gate_qubits g))
  move-like (fork_it x k) h =
      by (FORK (number_of ms x)) (fork_it x k) h.1.0 (fork-takes ms x k h.0 w.number)
      (λ l. fork-like ms limited outcomes w ts callers c h.1.1 x k h.0 l)
  move-like send_it h = by SEND send_it h.0 refl (λ l. send-like ms outcomes w ts callers c h.1)
  move-like return_it h =
      by RET return_it h.0 (return-takes ms w.number m w.is-method)
      (λ l. return-like ms outcomes w ts callers c h.1 (cond (is_some m.returns) 1 0))
  move-like (if_true b) h =
      by (JFALSE h.target) (if_true b) h.test refl (λ l. if-like ms outcomes w ts callers c b h)
  move-like (if_else b d) h =
      by (JFALSE h.target) (if_else b d) h.test refl (λ l. else-like ms outcomes w ts callers c b d h)
  move-like branch_done h =
      by (JUMP h.target) branch_done h.jump refl (λ l. jump-like ms outcomes w ts callers c h)
  move-like (while_true e b) h =
      let parts : LoopParts ms m e b ts w.scope h.loops = loop-parts ms m e b ts w.scope h.loops in
      by (JFALSE parts.target) (while_true e b) (ap (nth (method_code ms m)) h.here ∙ parts.test) refl
      (λ l. while-like ms outcomes w ts callers c e b h)
  move-like (body_done e b) h =
      let parts : LoopParts ms m e b ts w.scope h.loops = loop-parts ms m e b ts w.scope h.loops in
      by (JUMP h.loops.begin) (body_done e b) (ap (nth (method_code ms m)) h.here ∙ parts.back) refl
      (λ l. back-like ms outcomes w ts callers c e b h.loops)
  move-like (declare d) h =
      by (CLEAR h.slot) (declare d) h.clears refl
      (λ l. declare-like ms outcomes w ts callers c d h.slot h.below h.inside h.after)
  move-like method_done h = done-by m.returns refl h
