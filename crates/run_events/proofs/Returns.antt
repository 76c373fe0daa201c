-- What an entry's functions have done at their returns, from what their callees did and how their tests came out.
use Prim.Native.Nat.{ℕ}
use mathlib.Core.Path.{◌≡◌, sym, ◌∙◌, ap}
use mathlib.Core.List.{List}
use borrow.Author.Tests.{eq-eqb, ne_eqb}
use Rattle.table.specs.Table.{arg_at}
use Rattle.run_store.specs.declared.head.Head.{Head}
use Rattle.run_store.specs.StoreCode.{head_of}
use Rattle.run_gates.specs.declared.event.EventResult.{EventResult}
use Rattle.run_gates.specs.GatesCode.{AfterEvent, after_event, fault_event, line_event, newq_op, newc_op, gate_op}
use Rattle.run_measurement.specs.MeasurementCode.{meas_op}
use Rattle.run_events.specs.EndsCode.{stopped_words, finished_words}
use Rattle.run_events.specs.declared.conclude.Single.{Single}
use Rattle.run_events.specs.declared.conclude.Single.TheVariants.{NewQ, NewC, Gate, Meas, LastRet, Fault}
use Rattle.run_events.specs.ConcludeCode.{perform_op, status_words}

module _ (p w : List ℕ) (does : Single) (qubits channels : ℕ) (outcomes : List ℕ) (used : ℕ) {d : AfterEvent} where
  -- the answer in this case
  at-case : (k : Single) → does ≡ k → d ≡ perform_op p w k qubits channels outcomes used
      → d ≡ perform_op p w does qubits channels outcomes used
  at-case k e q = q ∙ ap (λ (x : Single). perform_op p w x qubits channels outcomes used) (sym e)

  module _ {h : Head} (e : h ≡ head_of w) where
    pub event-newq : does ≡ NewQ → d ≡ newq_op w h qubits → d ≡ perform_op p w does qubits channels outcomes used
    unfolding perform_op
    event-newq k q = at-case NewQ k (q ∙ ap (λ (g : Head). newq_op w g qubits) e)

    pub event-newc : does ≡ NewC → d ≡ newc_op w h channels → d ≡ perform_op p w does qubits channels outcomes used
    unfolding perform_op
    event-newc k q = at-case NewC k (q ∙ ap (λ (g : Head). newc_op w g channels) e)

    pub event-gate : {a : ℕ} → a ≡ arg_at p h.place → does ≡ Gate → d ≡ gate_op w h a
        → d ≡ perform_op p w does qubits channels outcomes used
    unfolding perform_op
    event-gate i k q =
        at-case Gate k (q ∙ ap (gate_op w h) i ∙ ap (λ (g : Head). gate_op w g (arg_at p g.place)) e)

    pub event-meas : does ≡ Meas → d ≡ meas_op w h outcomes used → d ≡ perform_op p w does qubits channels outcomes used
    unfolding perform_op
    event-meas k q = at-case Meas k (q ∙ ap (λ (g : Head). meas_op w g outcomes used) e)

  pub event-end : does ≡ LastRet → d ≡ after_event (line_event 9 65535 65535 65535) w
      → d ≡ perform_op p w does qubits channels outcomes used
  unfolding perform_op
  event-end k q = at-case LastRet k q

  pub event-fault : (n : ℕ) → does ≡ Fault n → d ≡ after_event (fault_event n) w
      → d ≡ perform_op p w does qubits channels outcomes used
  unfolding perform_op
  event-fault n k q = at-case (Fault n) k q

-- the process as the line leaves it

module _ (w : List ℕ) (t : EventResult) where
  pub status-stopped : (t.code ≡ 0 → ⊥) → status_words w t ≡ stopped_words w t.code
  unfolding status_words
  status-stopped n = rw (ne_eqb t.code 0 n)

  pub status-finished : t.code ≡ 0 → t.kind ≡ 9 → status_words w t ≡ finished_words w
  unfolding status_words
  status-finished c k = rw (eq-eqb t.code 0 c, eq-eqb t.kind 9 k)

  pub status-as-left : t.code ≡ 0 → (t.kind ≡ 9 → ⊥) → status_words w t ≡ w
  unfolding status_words
  status-as-left c k = rw (eq-eqb t.code 0 c, ne_eqb t.kind 9 k)
