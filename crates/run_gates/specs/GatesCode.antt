-- What an op that writes one line answers and leaves, and what NEWQ, NEWC and GATE do. These definitions follow the
-- code; that they are document 01's ops is proved in proofs/.
use Rattle.std.specs.Prelude.{ℕ, ◌%◌, cond, List, eqb, ltb}
use Rattle.table.specs.Ops.{one_qubit}
use Rattle.run_store.specs.declared.head.Head.{Head}
use Rattle.run_store.specs.StoreCode.{value_at, top_at, popped}
use Rattle.run_values.specs.ValuesCode.{push_on, drop_top, drop_to, empty_two}
use Rattle.run_gates.specs.declared.event.EventResult.{EventResult}

-- the answer, and the words left
pub record AfterEvent : Type 0 where
  pub event : EventResult
  pub words : List ℕ

abbrev pub after_event : EventResult → List ℕ → AfterEvent
after_event t w = record { event = t; words = w }

abbrev pub fault_event : ℕ → EventResult
fault_event n = record { code = n; used = 0; kind = 10; a = n; b = 65535; c = 65535 }

abbrev pub line_event : ℕ → ℕ → ℕ → ℕ → EventResult
line_event k a b c = record { code = 0; used = 0; kind = k; a = a; b = b; c = c }

abbrev pub measured_event : ℕ → ℕ → EventResult
measured_event q o = record { code = 0; used = 1; kind = 4; a = q; b = o; c = 65535 }

-- a number of the value n below the next free one, as a line has it
abbrev pub qubit_at : List ℕ → Head → ℕ → ℕ
qubit_at w h n = (value_at w (top_at h n)).number % 65536

unfoldable pub newq_op : List ℕ → Head → ℕ → AfterEvent
newq_op w h made =
    cond (ltb made 32)
    (after_event (line_event 1 made 65535 65535) (push_on w h (record { tag = 3; number = made })))
    (after_event (fault_event 22) w)

unfoldable pub newc_op : List ℕ → Head → ℕ → AfterEvent
newc_op w h made =
    cond (ltb made 16)
    (after_event (line_event 2 made 65535 65535) (push_on w h (record { tag = 4; number = made })))
    (after_event (fault_event 21) w)

unfoldable pub drop_two : List ℕ → Head → List ℕ
drop_two w h = drop_top (drop_to w h h.place) (popped h)

unfoldable pub gate_one : List ℕ → Head → ℕ → AfterEvent
gate_one w h a =
    cond (eqb (value_at w (top_at h 1)).tag 0)
    (after_event (fault_event 20) w)
    (after_event (line_event 3 a (qubit_at w h 1) 65535) (drop_top w h))

unfoldable pub gate_two : List ℕ → Head → ℕ → AfterEvent
gate_two w h a =
    cond (empty_two w h)
    (after_event (fault_event 20) w)
    (cond (eqb (qubit_at w h 2) (qubit_at w h 1))
    (after_event (fault_event 27) w)
    (after_event (line_event 3 a (qubit_at w h 2) (qubit_at w h 1)) (drop_two w h)))

unfoldable pub gate_op : List ℕ → Head → ℕ → AfterEvent
gate_op w h a = cond (one_qubit a) (gate_one w h a) (gate_two w h a)
