-- What an entry that writes one line answers and leaves. These definitions follow the code; that they are document 01's
-- entries is proved in proofs/.
use Rattle.std.specs.Prelude.{ℕ, cond, List, eqb}
use Rattle.table.specs.Table.{arg_at}
use Rattle.run_store.specs.StoreCode.{head_of}
use Rattle.run_gates.specs.declared.event.EventResult.{EventResult}
use Rattle.run_gates.specs.GatesCode.{AfterEvent, after_event, fault_event, line_event, newq_op, newc_op, gate_op}
use Rattle.run_measurement.specs.MeasurementCode.{meas_op}
use Rattle.run_events.specs.EndsCode.{stopped_words, finished_words}
use Rattle.run_events.specs.declared.conclude.Single.{Single}
use Rattle.run_events.specs.declared.conclude.Single.TheVariants.{NewQ, NewC, Gate, Meas, LastRet, Fault}

unfoldable pub perform_op : List ℕ → List ℕ → Single → ℕ → ℕ → List ℕ → ℕ → AfterEvent
perform_op p w NewQ qubits channels outcomes used = newq_op w (head_of w) qubits
perform_op p w NewC qubits channels outcomes used = newc_op w (head_of w) channels
perform_op p w Gate qubits channels outcomes used = gate_op w (head_of w) (arg_at p (head_of w).place)
perform_op p w Meas qubits channels outcomes used = meas_op w (head_of w) outcomes used
perform_op p w LastRet qubits channels outcomes used = after_event (line_event 9 65535 65535 65535) w
perform_op p w (Fault n) qubits channels outcomes used = after_event (fault_event n) w

unfoldable pub status_words : List ℕ → EventResult → List ℕ
status_words w t = cond (eqb t.code 0) (cond (eqb t.kind 9) (finished_words w) w) (stopped_words w t.code)

unfoldable pub with_status : AfterEvent → AfterEvent
with_status l = after_event l.event (status_words l.words l.event)

unfoldable pub conclude_op : List ℕ → List ℕ → Single → ℕ → ℕ → List ℕ → ℕ → AfterEvent
conclude_op p w does qubits channels outcomes used = with_status (perform_op p w does qubits channels outcomes used)
