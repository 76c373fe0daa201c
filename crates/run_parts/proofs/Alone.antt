-- The acts of all ops but SEND and RECV: a process offers nothing there and is not idle, and where it goes on it writes
-- at most one line and uses at most one outcome.
use Prim.Native.Nat.{ℕ, zero, suc, ◌≤◌}
use mathlib.Core.Path.{◌∙◌, subst}
use mathlib.Core.Logic.{◌≢◌}
use mathlib.Core.Bool.{Bool}
use mathlib.Core.List.{List, [], ◌∷◌}
use native.Mathlib.Omega.{arith}
use lib.IntN.{ℤ, ◌+ℤ◌, ◌-ℤ◌}
use lib.ListN.{get_or, set, take, length}
use lib.Seq.{get_or-set_other}
use lib.Dec.{eqb, leb, ltb}
use Rattle.lists.specs.Lists.{any}
use Rattle.lists.proofs.Tests.{cond_both}
use Rattle.table.specs.Table.{op_at}
use Rattle.table.specs.Reading.{taken_at}
use Rattle.machine.specs.Value.{qubit, channel, end, Value, empty, int, bool, ref, is_empty, in_range}
use Rattle.machine.specs.State.{Frame, State}
use Rattle.machine.specs.Act.{Act, idle, stuck, faults, goes, ends, makes, forks, offers, At, operand, as_int, as_bool, as_qubit, as_channel, present, pushes, with_outcome, return_to, two_ints, result, do_nothing, do_int, do_bool, do_get, do_put, do_drop, do_clear, do_new_q, do_new_c, do_end, do_gate, do_gate_one, do_gate_two, do_meas, do_call, do_ret, do_fork, do_jump, do_j_false, do_add, do_sub, do_eq, do_less, do_not, doings, doing_of, scene_of, at_frame}

-- The process moves by itself, or is stuck.
abbrev pub Alone : Act → Type 0
Alone idle = ⊥
Alone stuck = Unit {0}
Alone (faults n) = Unit {0}
Alone (goes fs es u) = (length es ≤ 1) × (u ≤ 1)
Alone ends = Unit {0}
Alone (makes t fs) = Unit {0}
Alone (forks m args fs) = Unit {0}
Alone (offers o) = ⊥

-- going on without a line, and with one
quietly : (0 ≤ 1) × (0 ≤ 1)
quietly = (omega arith, omega arith)

with-line : (1 ≤ 1) × (0 ≤ 1)
with-line = (omega arith, omega arith)

with-outcome : (1 ≤ 1) × (1 ≤ 1)
with-outcome = (omega arith, omega arith)

-- the values that an op reads

on-int : (v : Value) (k : ℤ → Act) → ((z : ℤ) → Alone (k z)) → Alone (as_int v k)
on-int empty k h = tt
on-int (int z) k h = h z
on-int (bool b) k h = tt
on-int (ref t) k h = tt

on_bool : (v : Value) (k : Bool → Act) → ((b : Bool) → Alone (k b)) → Alone (as_bool v k)
on_bool empty k h = tt
on_bool (int z) k h = tt
on_bool (bool b) k h = h b
on_bool (ref t) k h = tt

on-qubit : (v : Value) (k : ℕ → Act) → ((n : ℕ) → Alone (k n)) → Alone (as_qubit v k)
on-qubit empty k h = tt
on-qubit (int z) k h = tt
on-qubit (bool b) k h = tt
on-qubit (ref (qubit n)) k h = h n
on-qubit (ref (channel n)) k h = tt
on-qubit (ref (end n r)) k h = tt

on-channel : (v : Value) (k : ℕ → Act) → ((n : ℕ) → Alone (k n)) → Alone (as_channel v k)
on-channel empty k h = tt
on-channel (int z) k h = tt
on-channel (bool b) k h = tt
on-channel (ref (qubit n)) k h = tt
on-channel (ref (channel n)) k h = h n
on-channel (ref (end n r)) k h = tt

on-present : (v : Value) (k : Value → Act) → ((u : Value) → Alone (k u)) → Alone (present v k)
on-present empty k h = tt
on-present (int z) k h = h (int z)
on-present (bool b) k h = h (bool b)
on-present (ref t) k h = h (ref t)

on-outcome : (os : List ℕ) (k : ℕ → Act) → ((o : ℕ) → Alone (k o)) → Alone (with_outcome os k)
on-outcome [] k h = tt
on-outcome (o ∷ os) k h = h o

on_return : (vs : List Value) (fs : List Frame) → Alone (return_to vs fs)
on_return vs [] = tt
on_return vs (f ∷ fs) = quietly

two-ints : (a : At) (k : ℤ → ℤ → Act) → ((x y : ℤ) → Alone (k x y)) → Alone (two_ints a k)
two-ints a k h =
    on-int (operand a 1) (λ x. as_int (operand a 0) (λ y. k x y)) (λ x. on-int (operand a 0) (λ y. k x y) (h x))

in-range : (a : At) (z : ℤ) → Alone (result a z)
in-range a z = cond_both Alone (in_range z) quietly tt

-- every op but the two

abbrev AloneAt : (At → Act) → Type 0
AloneAt d = (a : At) → Alone (d a)

-- every one of these acts so
data Each : List (At → Act) → Type 0 where
  nil : Each []
  cons : {d : At → Act} {ds : List (At → Act)} → AloneAt d → Each ds → Each (d ∷ ds)

-- 01's table with SEND and RECV left out
abbrev others : List (At → Act)
others = set (set doings 15 do_nothing) 16 do_nothing

others-alone : Each others
unfolding doings do_nothing do_int do_bool do_get do_put do_drop do_clear do_new_q do_new_c do_end do_gate do_gate_one do_gate_two
    do_meas do_call do_ret do_fork do_jump do_j_false do_add do_sub do_eq do_less do_not
others-alone =
    cons (λ a. tt)
    (cons (λ a. quietly) (cons (λ a. quietly)
    (cons (λ a. on-present (get_or a.frame.slots a.argument empty) (pushes a) (λ u. quietly))
    (cons (λ a. quietly) (cons (λ a. quietly) (cons (λ a. quietly)
    (cons (λ a. cond_both Alone (ltb a.qubits 32) tt tt)
    (cons (λ a. cond_both Alone (ltb a.channels 16) tt tt)
    (cons (λ a. on-channel (operand a 0) _ (λ n. quietly))
    (cons (λ a. cond_both Alone (leb a.argument 5) (on-qubit (operand a 0) _ (λ q. with-line))
    (on-qubit (operand a 1) _ (λ d. on-qubit (operand a 0) _ (λ q. cond_both Alone (eqb d q) tt with-line))))
    (cons (λ a. on-qubit (operand a 0) _ (λ q. on-outcome a.outcomes _ (λ o. with-outcome)))
    (cons (λ a. cond_both Alone (ltb (suc (length a.callers)) 8) quietly tt)
    (cons (λ a. on_return a.operands a.callers)
    (cons (λ a. cond_both Alone (ltb a.processes 8) tt tt)
    (cons (λ a. tt) (cons (λ a. tt)
    (cons (λ a. quietly)
    (cons (λ a. on_bool (operand a 0) _ (λ b. cond_both Alone b quietly quietly))
    (cons (λ a. two-ints a _ (λ x y. in-range a (x +ℤ y)))
    (cons (λ a. two-ints a _ (λ x y. in-range a (x -ℤ y)))
    (cons (λ a. two-ints a _ (λ x y. quietly)) (cons (λ a. two-ints a _ (λ x y. quietly))
    (cons (λ a. on_bool (operand a 0) _ (λ b. quietly)) nil)))))))))))))))))))))))

nothing-alone : AloneAt do_nothing
unfolding do_nothing
nothing-alone a = tt

pick : {ds : List (At → Act)} → Each ds → (k : ℕ) → AloneAt (get_or ds k do_nothing)
pick nil k = nothing-alone
pick (cons h t) zero = h
pick (cons h t) (suc k) = pick t k

doing-alone : (k : ℕ) → k ≢ 15 → k ≢ 16 → AloneAt (doing_of k)
unfolding doing_of
doing-alone k m n =
    subst AloneAt
    (get_or-set_other (set doings 15 do_nothing) 16 k do_nothing do_nothing n
    ∙ get_or-set_other doings 15 k do_nothing do_nothing m)
    (pick others-alone k)

-- a frame at any op but the two
pub frame-alone : (p outcomes : List ℕ) (s : State) (f : Frame) (fs : List Frame) → op_at p f.place ≢ 15
    → op_at p f.place ≢ 16
    → Alone (at_frame p outcomes s f fs)
unfolding at_frame
frame-alone p outcomes s f fs m n =
    cond_both Alone (leb (taken_at p f.place) (length f.pending))
    (cond_both Alone (any is_empty (take (taken_at p f.place) f.pending)) tt
    (doing-alone (op_at p f.place) m n (scene_of p outcomes s f fs)))
    tt
