-- A process that runs is never idle by its instruction: every op makes it step, fault, end, fork, make or offer
-- something.
use Prim.Native.Nat.{ℕ, suc}
use mathlib.Core.Bool.{cond, not, ◌&&◌}
use mathlib.Core.List.{List, [], ◌∷◌, reverse}
use lib.IntN.{ℤ, ◌+ℤ◌, ◌-ℤ◌}
use lib.ListN.{get_or, take, length}
use lib.Dec.{eqb, leb, ltb}
use Rattle.lists.specs.Lists.{any, All}
use Rattle.lists.proofs.Tests.{cond_both}
use Rattle.lists.proofs.Any.{All-get_d}
use Rattle.table.specs.Table.{op_at}
use Rattle.table.specs.Ops.{one_qubit}
use Rattle.table.specs.Reading.{taken_at}
use Rattle.machine.specs.Value.{Value, empty, is_empty, in_range}
use Rattle.machine.specs.State.{Frame, State}
use Rattle.machine.specs.Act.{Act, idle, stuck, faults, goes, ends, makes, forks, offers, At, operand, as_int, pushes, return_to, do_int, do_bool, do_get, do_put, do_drop, do_clear, do_new_q, do_new_c, do_end, do_gate_one, do_gate_two, do_gate, do_meas, do_call, do_ret, do_fork, do_send, do_recv, do_jump, do_j_false, do_add, do_sub, do_eq, do_less, do_not, do_nothing, doings, doing_of, scene_of, at_frame, at_frames}
use Rattle.machine.proofs.Operands.{on-int, on_bool, on-qubit, on-channel, on-end, on-present, on-outcome}

abbrev pub Busy : Act → Type 0
Busy idle = ⊥
Busy stuck = Unit {0}
Busy (faults f) = Unit {0}
Busy (goes fs es u) = Unit {0}
Busy ends = Unit {0}
Busy (makes t fs) = Unit {0}
Busy (forks m args fs) = Unit {0}
Busy (offers o) = Unit {0}

busy-return : (vs : List Value) (fs : List Frame) → Busy (return_to vs fs)
busy-return vs [] = tt
busy-return vs (f ∷ fs) = tt

busy-gate : (a : At) → Busy (do_gate a)
unfolding do_gate do_gate_one do_gate_two
busy-gate a =
    cond_both Busy (one_qubit a.argument) (on-qubit Busy tt (operand a 0) _ (λ q e. tt))
    (on-qubit Busy tt (operand a 1) _ (λ d e. on-qubit Busy tt (operand a 0) _ (λ q i. cond_both Busy (eqb d q) tt tt)))

busy-ints : (a : At) (k : ℤ → ℤ → Act) → ((x y : ℤ) → Busy (k x y))
    → Busy (as_int (operand a 1) (λ x. as_int (operand a 0) (λ y. k x y)))
busy-ints a k h = on-int Busy tt (operand a 1) _ (λ x. on-int Busy tt (operand a 0) _ (λ y. h x y))

busy : All (λ (d : At → Act). (a : At) → Busy (d a)) doings
unfolding doings do_nothing do_int do_bool do_get do_put do_drop do_clear do_new_q do_new_c do_end do_meas do_call do_ret do_fork
    do_send do_recv do_jump do_j_false do_add do_sub do_eq do_less do_not
busy = (
  λ a. tt,
  (
    λ a. tt,
    (
      λ a. tt,
      (
        λ a. on-present Busy tt (get_or a.frame.slots a.argument empty) (pushes a) tt,
        (
          λ a. tt,
          (
            λ a. tt,
            (
              λ a. tt,
              (
                λ a. cond_both Busy (ltb a.qubits 32) tt tt,
                (
                  λ a. cond_both Busy (ltb a.channels 16) tt tt,
                  (
                    λ a. on-channel Busy tt (operand a 0) _ (λ n e. tt),
                    (
                      busy-gate,
                      (
                        λ a. on-qubit Busy tt (operand a 0) _ (λ q e. on-outcome Busy tt a.outcomes _ (λ o. tt)),
                        (
                          λ a. cond_both Busy (ltb (suc (length a.callers)) 8) tt tt,
                          (
                            λ a. busy-return a.operands a.callers,
                            (
                              λ a. cond_both Busy (ltb a.processes 8) tt tt,
                              (
                                λ a. on-end Busy tt (operand a 1) _ (λ n s e. tt),
                                (
                                  λ a. on-end Busy tt (operand a 0) _ (λ n s e. tt),
                                  (
                                    λ a. tt,
                                    (
                                      λ a. on_bool Busy tt (operand a 0) _ (λ b. cond_both Busy b tt tt),
                                      (
                                        λ a. busy-ints a _ (λ x y. cond_both Busy (in_range (x +ℤ y)) tt tt),
                                        (
                                          λ a. busy-ints a _ (λ x y. cond_both Busy (in_range (x -ℤ y)) tt tt),
                                          (
                                            λ a. busy-ints a _ (λ x y. tt),
                                            (
                                              λ a. busy-ints a _ (λ x y. tt),
                                              (
                                                λ a. on_bool Busy tt (operand a 0) _
                                                    (λ b. tt),
                                                tt,
                                              ),
                                            ),
                                          ),
                                        ),
                                      ),
                                    ),
                                  ),
                                ),
                              ),
                            ),
                          ),
                        ),
                      ),
                    ),
                  ),
                ),
              ),
            ),
          ),
        ),
      ),
    ),
  ),
)

pub frames-busy : (p outcomes : List ℕ) (s : State) (fs : List Frame) → Busy (at_frames p outcomes s fs)
unfolding at_frames at_frame doing_of do_nothing
frames-busy p outcomes s [] = tt
frames-busy p outcomes s (f ∷ fs) =
    cond_both Busy (leb (taken_at p f.place) (length f.pending))
    (cond_both Busy (any is_empty (take (taken_at p f.place) f.pending)) tt
    (All-get_d (λ (d : At → Act). (a : At) → Busy (d a)) doings (op_at p f.place) do_nothing busy (λ a. tt)
    (scene_of p outcomes s f fs)))
    tt
