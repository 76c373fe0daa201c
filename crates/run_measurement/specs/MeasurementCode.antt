-- What the functions of MEAS answer and leave. These definitions follow the code; that they are document 01's op is
-- proved in proofs/.
use Rattle.std.specs.Prelude.{ℕ, cond, List, get_or, length, eqb, ltb}
use Rattle.std.proofs.Math.Option.{Option, none, some}
use Rattle.run_store.specs.declared.head.Head.{Head}
use Rattle.run_store.specs.StoreCode.{value_at, top_at}
use Rattle.run_values.specs.ValuesCode.{int_val, on_top}
use Rattle.run_gates.specs.GatesCode.{AfterEvent, after_event, fault_event, measured_event, qubit_at}

-- a byte as an outcome, and the outcome after the first `used`, if one is left; question 6 leaves no byte above 2
unfoldable pub clipped : ℕ → ℕ
clipped o = cond (eqb o 0) 0 (cond (eqb o 1) 1 2)

unfoldable pub next_in : List ℕ → ℕ → Option ℕ
next_in outcomes used = cond (ltb used (length outcomes)) (some (clipped (get_or outcomes used 0))) none

unfoldable pub measured_as : List ℕ → Head → Option ℕ → AfterEvent
measured_as w h none = after_event (fault_event 24) w
measured_as w h (some o) = after_event (measured_event (qubit_at w h 1) o) (on_top w h (int_val o))

unfoldable pub meas_op : List ℕ → Head → List ℕ → ℕ → AfterEvent
meas_op w h outcomes used =
    cond (eqb (value_at w (top_at h 1)).tag 0) (after_event (fault_event 20) w) (measured_as w h (next_in outcomes used))
