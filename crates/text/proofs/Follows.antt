-- What it means that a method's code follows the terms of a text's frame, from an instruction of the method on: each
-- move has its instruction, and what is still a statement in the terms stands as code where it is jumped to. A loop's
-- term holds the whole code of its loop, so that nothing here is circular.
use Prim.Native.Nat.{ℕ, suc, ◌+◌, ◌≤◌, ◌<◌}
use mathlib.Core.Bool.{Bool, true, false}
use mathlib.Core.Path.{◌≡◌}
use mathlib.Core.List.{List, [], ◌∷◌, map}
use mathlib.Core.Option.{some}
use lib.IntN.{pos}
use lib.ListN.{get_or, drop, length}
use Rattle.machine.specs.Value.{Value, int, bool}
use Rattle.text.specs.Tree.{Name, Expr, Statement, loop, Method, Program, Declared, method_of, number_of}
use Rattle.text.specs.Meaning.{Move, constant, look_up, store, operate, call, measure_it, receive_it, alloc_qubit, alloc_channel, alloc_end, forget, assign_to, take_end, store_end, gate, fork_it, send_it, return_it, if_true, if_else, branch_done, while_true, body_done, declare, method_done, Term, move, leave, end_of_found}
use Rattle.text.specs.Translation.{Instruction, instruction, INT, BOOL, GET, PUT, DROP, CLEAR, NEWQ, NEWC, END, GATE, MEAS, CALL, RET, FORK, SEND, RECV, JUMP, JFALSE, NONE, operator_op, truth_word, Scope, placed_slot, placed, found_in, slot_of, ends_in, expr_code, code, closing, hole_of, method_code}
use Rattle.text.proofs.Elements.{nth}
use Rattle.text.proofs.Scopes.{Below}
use Rattle.text.proofs.Fits.{Fits}

module _ (ms : Program) (m : Method) where
  -- Instruction x stands at `at`, and then R holds of the next place.
  abbrev pub Then : Instruction → (ℕ → Type 0) → ℕ → Type 0
  Then x R at = (nth (method_code ms m) at ≡ some x) × R (suc at)

  -- a list of instructions stands from `at` on, and then R holds
  abbrev pub CodeThen : List Instruction → (ℕ → Type 0) → ℕ → Type 0
  CodeThen [] R at = R at
  CodeThen (x ∷ xs) R at = Then x (CodeThen xs R) at

-- the place after a list of instructions that begins at `at`
abbrev pub past : List Instruction → ℕ → ℕ
past [] at = at
past (x ∷ xs) at = past xs (suc at)

-- the instruction of a constant
pub data ConstantOf : Value → Instruction → Type 0 where
  of-int : (n : ℕ) → n ≤ 32767 → ConstantOf (int (pos n)) (INT n)
  of-bool : (b : Bool) → ConstantOf (bool b) (BOOL (truth_word b))

-- the method of a call takes so many arguments
pub record Callable (ms : Program) (x : Name) (n : ℕ) : Type 0 where
  pub method : Method
  pub is-method : method_of ms x ≡ some method
  pub arguments : n ≡ length method.parameters

-- the rest after x = •;
abbrev pub FollowEnds : Program → Method → Bool → Name → (ℕ → Type 0) → Scope → ℕ → Type 0
FollowEnds ms m false x R sc at = Then ms m DROP R at
FollowEnds ms m true x R sc at =
    Then ms m (END false) (Then ms m (PUT (get_or (map placed_slot sc) (end_of_found false (found_in x sc)) 16))
    (Then ms m DROP (Then ms m (GET (slot_of sc x)) (Then ms m (END true)
    (Then ms m (PUT (get_or (map placed_slot sc) (end_of_found true (found_in x sc)) 16)) (Then ms m DROP R)))))) at

-- if (•) S: the code of S, and where it is jumped over
pub record FollowIf (ms : Program) (m : Method) (s : Statement) (R : ℕ → Type 0) (sc : Scope) (at : ℕ) : Type 0 where
  pub slot : ℕ
  pub fits : Fits ms m sc slot s
  pub target : ℕ
  pub test : nth (method_code ms m) at ≡ some (JFALSE target)
  pub branch : CodeThen ms m (code ms sc slot (suc at) s) R (suc at)
  pub over : R target

-- the first branch is done: a jump to where R holds
pub record FollowJump (ms : Program) (m : Method) (R : ℕ → Type 0) (at : ℕ) : Type 0 where
  pub target : ℕ
  pub jump : nth (method_code ms m) at ≡ some (JUMP target)
  pub there : R target

-- if (•) S else T: the code of both
pub record FollowElse (ms : Program) (m : Method) (s t : Statement) (R : ℕ → Type 0) (sc : Scope) (at : ℕ)
    : Type 0 where
  pub slot : ℕ
  pub fits : Fits ms m sc slot s
  pub target : ℕ
  pub test : nth (method_code ms m) at ≡ some (JFALSE target)
  pub branch : CodeThen ms m (code ms sc slot (suc at) s) (FollowJump ms m R) (suc at)
  pub other-slot : ℕ
  pub other_fits : Fits ms m sc other-slot t
  pub other : CodeThen ms m (code ms sc other-slot target t) R target

-- a loop whose code begins at `begin`
pub record FollowLoop (ms : Program) (m : Method) (e : Expr) (s : Statement) (R : ℕ → Type 0) (sc : Scope)
    : Type 0 where
  pub begin : ℕ
  pub slot : ℕ
  pub fits : Fits ms m sc slot (loop e s)
  pub whole : CodeThen ms m (code ms sc slot begin (loop e s)) R begin

-- the place of its test
abbrev pub test_of : {ms : Program} {m : Method} {e : Expr} {s : Statement} {R : ℕ → Type 0} {sc : Scope}
    → FollowLoop ms m e s R sc → ℕ
test_of {ms} {m} {e} {s} {R} {sc} l = past (expr_code ms sc e) l.begin

-- the place after its body, where it jumps back
abbrev pub back-of : {ms : Program} {m : Method} {e : Expr} {s : Statement} {R : ℕ → Type 0} {sc : Scope}
    → FollowLoop ms m e s R sc → ℕ
back-of {ms} {m} {e} {s} {R} {sc} l =
    past (code ms sc l.slot (l.begin + length (expr_code ms sc e) + 1) s) (suc (past (expr_code ms sc e) l.begin))

-- while (•) S, and the end of its body
pub record FollowTest (ms : Program) (m : Method) (e : Expr) (s : Statement) (R : ℕ → Type 0) (sc : Scope) (at : ℕ)
    : Type 0 where
  pub loops : FollowLoop ms m e s R sc
  pub here : at ≡ test_of loops

pub record FollowBack (ms : Program) (m : Method) (e : Expr) (s : Statement) (R : ℕ → Type 0) (sc : Scope) (at : ℕ)
    : Type 0 where
  pub loops : FollowLoop ms m e s R sc
  pub here : at ≡ back-of loops

-- T x; in an inner block: its slot is above those in scope
pub record FollowDeclare (ms : Program) (m : Method) (d : Declared) (R : Scope → ℕ → Type 0) (sc : Scope) (at : ℕ)
    : Type 0 where
  pub slot : ℕ
  pub below : Below slot sc
  pub inside : slot < hole_of m
  pub clears : nth (method_code ms m) at ≡ some (CLEAR slot)
  pub after : R (placed d slot ∷ sc) (suc at)

-- a constant, and new channel[T](): the argument is not the move's to know
pub record FollowConstant (ms : Program) (m : Method) (v : Value) (R : ℕ → Type 0) (at : ℕ) : Type 0 where
  pub pushes : Instruction
  pub is-constant : ConstantOf v pushes
  pub stands : Then ms m pushes R at

pub record FollowMaking (ms : Program) (m : Method) (R : ℕ → Type 0) (at : ℕ) : Type 0 where
  pub carried : ℕ
  pub stands : Then ms m (NEWC carried) R at

-- The instruction of a move stands at `at`, and R holds of what is after it.
abbrev pub Follow : Program → Method → Move → (Scope → ℕ → Type 0) → Scope → ℕ → Type 0
Follow ms m (constant v) R sc at = FollowConstant ms m v (R sc) at
Follow ms m (look_up x) R sc at = Then ms m (GET (slot_of sc x)) (R sc) at
Follow ms m (store x) R sc at = Then ms m (PUT (slot_of sc x)) (R sc) at
Follow ms m (operate o) R sc at = Then ms m (instruction (operator_op o) 0) (R sc) at
Follow ms m (call x n) R sc at = Callable ms x n × Then ms m (CALL (number_of ms x)) (R sc) at
Follow ms m measure_it R sc at = Then ms m MEAS (R sc) at
Follow ms m receive_it R sc at = Then ms m RECV (R sc) at
Follow ms m alloc_qubit R sc at = Then ms m NEWQ (R sc) at
Follow ms m alloc_channel R sc at = FollowMaking ms m (R sc) at
Follow ms m alloc_end R sc at = Then ms m NONE (R sc) at
Follow ms m forget R sc at = Then ms m DROP (R sc) at
Follow ms m (assign_to x) R sc at =
    Then ms m (PUT (slot_of sc x)) (FollowEnds ms m (ends_in sc x) x (R sc) sc) at
Follow ms m (take_end d) R sc at = Then ms m (END d) (R sc) at
Follow ms m (store_end d x) R sc at =
    Then ms m (PUT (get_or (map placed_slot sc) (end_of_found d (found_in x sc)) 16)) (R sc) at
Follow ms m (gate g) R sc at = Then ms m (GATE g) (R sc) at
Follow ms m (fork_it x n) R sc at = Callable ms x n × Then ms m (FORK (number_of ms x)) (R sc) at
Follow ms m send_it R sc at = Then ms m SEND (R sc) at
Follow ms m return_it R sc at = Then ms m RET (R sc) at
Follow ms m (if_true s) R sc at = FollowIf ms m s (R sc) sc at
Follow ms m (if_else s t) R sc at = FollowElse ms m s t (R sc) sc at
Follow ms m branch_done R sc at = FollowJump ms m (R sc) at
Follow ms m (while_true e s) R sc at = FollowTest ms m e s (R sc) sc at
Follow ms m (body_done e s) R sc at = FollowBack ms m e s (R sc) sc at
Follow ms m (declare d) R sc at = FollowDeclare ms m d R sc at
Follow ms m method_done R sc at = CodeThen ms m (closing m.returns (hole_of m)) (λ (j : ℕ). Unit {0}) at

-- The code follows the terms from instruction `at` on, the variables in scope having these slots.
abbrev pub Follows : Program → Method → List Term → Scope → ℕ → Type 0
Follows ms m [] sc at = ⊥
Follows ms m (move v ∷ ts) sc at = Follow ms m v (Follows ms m ts) sc at
Follows ms m (leave k ∷ ts) sc at = Follows ms m ts (drop k sc) at
