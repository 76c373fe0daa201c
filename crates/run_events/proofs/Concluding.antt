-- An entry that writes one line leaves the process as document 01 says: stopped by its fault, finished, or as its op
-- left it.
use Prim.Native.Nat.{ℕ, ◌≤◌, ◌<◌}
use mathlib.Core.Path.{◌≡◌, refl, sym, ◌∙◌, ap, subst}
use mathlib.Core.Bool.{Bool, true, false, true≢false}
use mathlib.Core.List.{List, [], ◌∷◌}
use mathlib.Core.Option.{Option, none, some}
use native.Mathlib.Omega.{arith}
use lib.ListN.{get_or, length}
use lib.Dec.{eqb, ltb, leb}
use Rattle.lists.specs.Lists.{All}
use Rattle.lists.proofs.Tests.{cond_both}
use Rattle.lists.proofs.Numbers.{by_number, ◌▹◌}
use Rattle.table.specs.Table.{op_at, arg_at}
use Rattle.machine.specs.State.{Frame, State, finished, stopped, finishes}
use Rattle.machine.specs.Act.{Act, idle, stuck, faults, goes, ends, makes, forks, offers, at_frame}
use Rattle.machine.specs.Entry.{runs, making}
use Rattle.machine.proofs.Reachable.{AtWork}
use Rattle.layout.specs.Layout.{process_words}
use Rattle.layout.proofs.RoundTrip.{process-length}
use Rattle.run_store.specs.declared.head.Head.{Head}
use Rattle.run_store.specs.StoreCode.{value_at, head_of, top_at}
use Rattle.run_values.specs.ValuesCode.{empty_two}
use Rattle.run_values.proofs.Places.{head-is}
use Rattle.run_ops.proofs.Meaning.{Height, w, hd, act}
use Rattle.run_gates.specs.GatesCode.{AfterEvent, after_event, fault_event, line_event, qubit_at, newq_op, newc_op, gate_one, gate_two, gate_op}
use Rattle.run_measurement.specs.MeasurementCode.{next_in, measured_as, meas_op}
use Rattle.run_events.specs.declared.conclude.Single.{Single}
use Rattle.run_events.specs.declared.conclude.Single.TheVariants.{NewQ, NewC, Gate, Meas, LastRet, Fault}
use Rattle.run_events.specs.ConcludeCode.{perform_op, with_status, conclude_op}
use Rattle.run_gates.proofs.Answers.{event_of, EventAgrees, newq-event, newc-event, gate-event}
use Rattle.run_measurement.proofs.Measurement.{meas-event}
use Rattle.run_events.proofs.Ended.{stopped-words, finished-words}
use Rattle.run_events.proofs.Returns.{event-end, event-fault, status-stopped, status-finished, status-as-left}

-- the ops that write one line and stay within their process: NEWQ, NEWC, GATE and MEAS
abbrev pub writes_line : ℕ → Bool
writes_line op =
    get_or (false ∷ false ∷ false ∷ false ∷ false ∷ false ∷ false ∷ true ∷ true ∷ false ∷ true ∷ true ∷ []) op false

-- what each does
abbrev pub single_at : ℕ → Single
single_at op =
    get_or
    (Fault 0 ∷ Fault 0 ∷ Fault 0 ∷ Fault 0 ∷ Fault 0 ∷ Fault 0 ∷ Fault 0 ∷ NewQ ∷ NewC ∷ Fault 0 ∷ Gate ∷ Meas ∷ [])
    op
    (Fault 0)

-- their answer has a fault's number, or a line that is none of a process's end
abbrev Apart : AfterEvent → Type 0
Apart d = d.event.code ≡ 0 → (d.event.kind ≡ 9 → ⊥) × (d.event.kind ≡ 10 → ⊥)

newq-apart : (w : List ℕ) (h : Head) (n : ℕ) → Apart (newq_op w h n)
unfolding newq_op
newq-apart w h n = cond_both Apart (ltb n 32) (λ z. (λ e. omega arith, λ e. omega arith)) (λ z. absurd (omega arith))

newc-apart : (w : List ℕ) (h : Head) (n : ℕ) → Apart (newc_op w h n)
unfolding newc_op
newc-apart w h n = cond_both Apart (ltb n 16) (λ z. (λ e. omega arith, λ e. omega arith)) (λ z. absurd (omega arith))

gate-apart : (w : List ℕ) (h : Head) (a : ℕ) → Apart (gate_op w h a)
unfolding gate_op gate_one gate_two
gate-apart w h a =
    cond_both Apart (leb a 5)
    (cond_both Apart (eqb (value_at w (top_at h 1)).tag 0) (λ z. absurd (omega arith))
    (λ z. (λ e. omega arith, λ e. omega arith)))
    (cond_both Apart (empty_two w h) (λ z. absurd (omega arith))
    (cond_both Apart (eqb (qubit_at w h 2) (qubit_at w h 1)) (λ z. absurd (omega arith))
    (λ z. (λ e. omega arith, λ e. omega arith))))

measured-apart : (w : List ℕ) (h : Head) (o : Option ℕ) → Apart (measured_as w h o)
unfolding measured_as
measured-apart w h none = λ z. absurd (omega arith)
measured-apart w h (some o) = λ z. (λ e. omega arith, λ e. omega arith)

meas-apart : (w : List ℕ) (h : Head) (os : List ℕ) (u : ℕ) → Apart (meas_op w h os u)
unfolding meas_op
meas-apart w h os u =
    cond_both Apart (eqb (value_at w (top_at h 1)).tag 0) (λ z. absurd (omega arith)) (measured-apart w h (next_in os u))

module _ {p : List ℕ} (outcomes : List ℕ) (s : State) {f : Frame} {fs : List Frame} (busy : AtWork p s.config f fs)
    (few : s.config.qubits ≤ 32) where
  abbrev words : List ℕ
  words = w outcomes s busy

  abbrev top : Head
  top = hd outcomes s busy

  abbrev does : Act
  does = act outcomes s busy

  pub concluded-fault : (n : ℕ) → 0 < n → (q c : ℕ) (os : List ℕ) (u : ℕ)
      → conclude_op p words (Fault n) q c os u ≡ after_event (fault_event n)
      (process_words (record { status = stopped n; frames = f ∷ fs }))
  unfolding conclude_op with_status
  concluded-fault n a q c os u =
      ap with_status (sym (event-fault p words (Fault n) q c os u n refl refl))
      ∙ ap (after_event (fault_event n))
      (status-stopped words (fault_event n) (λ e. omega arith) ∙ stopped-words busy.stack n)

  words_long : length words ≡ 512
  words_long =
      process-length p s.config (runs (f ∷ fs)) (record {
        status = omega arith;
        depth = omega
            (arith, busy.stack.deep);
        frames = busy.stack.sound;
      })

  pub concluded-ends : (q c : ℕ) (os : List ℕ) (u : ℕ)
      → conclude_op p words LastRet q c os u ≡ after_event (line_event 9 65535 65535 65535)
      (process_words (record { status = finished; frames = [] }))
  unfolding conclude_op with_status
  concluded-ends q c os u =
      ap with_status (sym (event-end p words LastRet q c os u refl refl))
      ∙ ap (after_event (line_event 9 65535 65535 65535))
      (status-finished words (line_event 9 65535 65535 65535) refl refl ∙ finished-words words words_long)

  -- What an act that writes one line leaves, as answer and words. No other act agrees with anything.
  abbrev pub Concluded : Act → AfterEvent → Type 0
  Concluded idle d = ⊥
  Concluded stuck d = Unit {0}
  Concluded (faults n) d = d ≡ after_event (fault_event n) (process_words (record { status = stopped n; frames = f ∷ fs }))
  Concluded (goes gs [] u) d = ⊥
  Concluded (goes gs (e ∷ []) u) d = d ≡ after_event (event_of u e) (process_words (runs gs))
  Concluded (goes gs (e ∷ g ∷ es) u) d = ⊥
  Concluded ends d = d ≡ after_event (event_of 0 finishes) (process_words (record { status = finished; frames = [] }))
  Concluded (makes t gs) d = d ≡ after_event (event_of 0 (making t)) (process_words (runs gs))
  Concluded (forks m args gs) d = ⊥
  Concluded (offers o) d = ⊥

  -- an answer that agrees with an act leaves the status that the act says
  concludes : (x : Act) (d : AfterEvent) → Apart d → EventAgrees x words d → Concluded x (with_status d)
  unfolding with_status
  concludes idle d h q = absurd q
  concludes stuck d h q = tt
  concludes (faults n) d h q =
      ap with_status q
      ∙ ap (after_event (fault_event n))
      (status-stopped words (fault_event n) (λ e. (subst Apart q h e).1 refl) ∙ stopped-words busy.stack n)
  concludes (goes gs [] u) d h q = absurd q
  concludes (goes gs (e ∷ []) u) d h q =
      ap with_status q
      ∙ ap (after_event (event_of u e))
      (status-as-left (process_words (runs gs)) (event_of u e) refl (subst Apart q h refl).0)
  concludes (goes gs (e ∷ g ∷ es) u) d h q = absurd q
  concludes ends d h q = absurd q
  concludes (makes t gs) d h q =
      ap with_status q
      ∙ ap (after_event (event_of 0 (making t)))
      (status-as-left (process_words (runs gs)) (event_of 0 (making t)) refl (subst Apart q h refl).0)
  concludes (forks m args gs) d h q = absurd q
  concludes (offers o) d h q = absurd q

  -- the op's answer over the head that is read is the one over the top frame
  by-head : (answer : Head → AfterEvent) → Apart (answer top) → EventAgrees does words (answer top)
      → Concluded does (with_status (answer (head_of words)))
  by-head answer a t =
      subst (λ (h : Head). Concluded does (with_status (answer h))) (sym (head-is busy.stack))
      (concludes does (answer top) a t)

  pub concluded-op : All (λ o. o ≤ 2) outcomes → (k : ℕ) → op_at p f.place ≡ k → writes_line k ≡ true
      → Height (at_frame p outcomes s f fs)
      → Concluded (at_frame p outcomes s f fs)
      (conclude_op p (process_words (runs (f ∷ fs))) (single_at k) s.config.qubits s.config.channels outcomes
      s.used)
  unfolding conclude_op perform_op
  concluded-op bytes k =
      by_number
      (λ (k : ℕ). op_at p f.place ≡ k → writes_line k ≡ true → Height does
      → Concluded does (conclude_op p words (single_at k) s.config.qubits s.config.channels outcomes s.used))
      12
      (silent ▹ silent ▹ silent ▹ silent ▹ silent ▹ silent ▹ silent ▹
      (λ e t h. by-head (λ g. newq_op words g s.config.qubits) (newq-apart words top s.config.qubits)
      (newq-event outcomes s busy few e h)) ▹
      (λ e t h. by-head (λ g. newc_op words g s.config.channels) (newc-apart words top s.config.channels)
      (newc-event outcomes s busy few e h)) ▹
      silent ▹
      (λ e t h. by-head (λ g. gate_op words g (arg_at p g.place)) (gate-apart words top (arg_at p f.place))
      (gate-event outcomes s busy few e h)) ▹
      (λ e t h. by-head (λ g. meas_op words g outcomes s.used) (meas-apart words top outcomes s.used)
      (meas-event outcomes s busy few bytes e h)) ▹
      (λ k. silent)) k
    where
      silent : {A B C : Type 0} → A → false ≡ true → B → C
      silent e t h = absurd (true≢false (sym t))
