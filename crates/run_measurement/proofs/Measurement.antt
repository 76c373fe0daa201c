-- The functions of MEAS do what document 01's op does: the answer and the words left agree with what the process at
-- MEAS would do.
use Prim.Native.Nat.{ℕ, zero, suc, ◌%◌, ◌≤◌, ◌<◌}
use mathlib.Core.Path.{◌≡◌, refl, ◌∙◌, ap, ap₂}
use mathlib.Core.Logic.{⊎_elim}
use mathlib.Core.Bool.{Bool, true, false, cond, ◌||◌}
use mathlib.Core.List.{List, [], ◌∷◌}
use mathlib.Core.Option.{Option, none, some}
use native.Mathlib.Nat.{le_of_suc-le-suc, not-suc-le-zero}
use native.Mathlib.Omega.{arith}
use lib.IntN.{pos}
use lib.ListN.{get_or, drop, length}
use lib.Dec.{eqb, ltb}
use borrow.Author.Tests.{ltb-true, ltb-false}
use Rattle.lists.specs.Lists.{All}
use Rattle.lists.proofs.Tests.{decide}
use Rattle.lists.proofs.Any.{All-get_d}
use Rattle.table.specs.Table.{op_at}
use Rattle.table.specs.Ops.{op_of, ops, op_meas}
use Rattle.machine.specs.Value.{qubit, channel, end, Value, empty, int, bool, ref, is_empty, word32}
use Rattle.machine.specs.State.{Frame, State, at_place, with_pending, push, measured}
use Rattle.machine.specs.Act.{Act, faults, goes, At, with_outcome, do_meas, doings, doing_of}
use Rattle.machine.proofs.Reachable.{AtWork}
use Rattle.layout.specs.Layout.{value_words}
use Rattle.layout.proofs.Frames.{tag_of, number_of}
use Rattle.run_store.specs.declared.head.Head.{Head}
use Rattle.run_store.specs.StoreCode.{value_at, top_at}
use Rattle.run_store.proofs.Vals.{val_of}
use Rattle.run_values.specs.ValuesCode.{int_val, on_top}
use Rattle.run_values.proofs.Places.{top-words}
use Rattle.run_ops.proofs.Meaning.{w, hd, scene, act, taken-by}
use Rattle.run_gates.specs.GatesCode.{AfterEvent, after_event, fault_event, measured_event, qubit_at}
use Rattle.run_gates.proofs.Answers.{Good, by, as-left, fits_line, pending-sound, one-op, read_one}
use Rattle.run_measurement.specs.MeasurementCode.{clipped, next_in, measured_as, meas_op}

-- an outcome that question 6 lets pass is the routine's
clipped-same : (o : ℕ) → o ≤ 2 → clipped o ≡ o
unfolding clipped
clipped-same zero h = refl
clipped-same (suc zero) h = refl
clipped-same (suc (suc zero)) h = refl
clipped-same (suc (suc (suc o))) h = absurd (omega (arith, h))

-- the outcomes that are left
drop-some : (os : List ℕ) (n : ℕ) → n < length os → drop n os ≡ get_or os n 0 ∷ drop (suc n) os
drop-some [] n h = absurd (not-suc-le-zero h)
drop-some (o ∷ os) zero h = refl
drop-some (o ∷ os) (suc n) h = drop-some os n (le_of_suc-le-suc h)

drop-none : (os : List ℕ) (n : ℕ) → length os ≤ n → drop n os ≡ []
drop-none [] zero h = refl
drop-none [] (suc n) h = refl
drop-none (o ∷ os) zero h = absurd (not-suc-le-zero h)
drop-none (o ∷ os) (suc n) h = drop-none os n (le_of_suc-le-suc h)

module _ {p : List ℕ} (outcomes : List ℕ) (s : State) {f : Frame} {fs : List Frame} (busy : AtWork p s.config f fs)
    (few : s.config.qubits ≤ 32) where
  abbrev words : List ℕ
  words = w outcomes s busy

  abbrev top : Head
  top = hd outcomes s busy

  abbrev does : Act
  does = act outcomes s busy

  abbrev stage : ℕ → List Value → At
  stage = scene outcomes s busy

  abbrev Right : Act → AfterEvent → Type 0
  Right x d = Good outcomes s busy few x d

  -- what a measurement of qubit n leaves, by the next outcome
  outcome-words : ℕ → Option ℕ → AfterEvent
  outcome-words n none = after_event (fault_event 24) words
  outcome-words n (some o) = after_event (measured_event n o) (on_top words top (int_val o))

  measured-words : (o : Option ℕ) → measured_as words top o ≡ outcome-words (qubit_at words top 1) o
  unfolding measured_as outcome-words
  measured-words none = refl
  measured-words (some o) = refl

  module _ (bytes : All (λ o. o ≤ 2) outcomes) where
    -- with a qubit, and the outcomes that are left
    with-outcomes : (n : ℕ) (us : List Value) → f.pending ≡ ref (qubit n) ∷ us
        → Right
        (with_outcome (drop s.used outcomes) (λ o.
        goes (push (int (pos o)) (at_place (suc f.place) (with_pending us f)) ∷ fs) (measured n o ∷ []) 1))
        (outcome-words (n % 65536) (next_in outcomes s.used))
    unfolding val_of tag_of number_of value_words word32 outcome-words next_in
    with-outcomes n us q = ⊎_elim one_left none_left (decide (ltb s.used (length outcomes)))
      where
        next : ℕ
        next = get_or outcomes s.used 0

        answer : Bool → AfterEvent
        answer b = outcome-words (n % 65536) (cond b (some (clipped next)) none)

        onward : List ℕ → Act
        onward os =
            with_outcome os
            (λ o. goes (push (int (pos o)) (at_place (suc f.place) (with_pending us f)) ∷ fs) (measured n o ∷ []) 1)

        one_left : ltb s.used (length outcomes) ≡ true
            → Right (onward (drop s.used outcomes)) (answer (ltb s.used (length outcomes)))
        one_left t =
            by outcomes s busy few (ap onward (drop-some outcomes s.used (ltb-true s.used (length outcomes) t)))
            (ap answer t ∙ ap (λ (o : ℕ). outcome-words (n % 65536) (some o))
            (clipped-same next (All-get_d (λ o. o ≤ 2) outcomes s.used 0 bytes (omega arith))))
            (λ h. ap₂ (λ (m : ℕ) (l : List ℕ). after_event (measured_event m next) l)
            (fits_line outcomes s busy few n (pending-sound outcomes s busy few (ref (qubit n) ∷ us) q).0)
            (top-words busy.stack (ref (qubit n)) (int (pos next)) us q))

        none_left : ltb s.used (length outcomes) ≡ false
            → Right (onward (drop s.used outcomes)) (answer (ltb s.used (length outcomes)))
        none_left t =
            by outcomes s busy few
            (ap onward (drop-none outcomes s.used (ltb-false s.used (length outcomes) t)))
            (ap answer t)
            (λ h. refl)

    on-measured : (u : Value) (us : List Value) → f.pending ≡ u ∷ us
        → Right (cond (is_empty u || false) (faults 20) (do_meas (stage 1 (u ∷ us))))
        (cond (is_empty u) (after_event (fault_event 20) words)
        (outcome-words ((val_of u).number % 65536) (next_in outcomes s.used)))
    unfolding do_meas val_of number_of value_words
    on-measured empty us q h = refl
    on-measured (int z) us q h = tt
    on-measured (bool b) us q h = tt
    on-measured (ref (qubit n)) us q h = with-outcomes n us q h
    on-measured (ref (channel n)) us q h = tt
    on-measured (ref (end n r)) us q h = tt

    pub meas-event : op_at p f.place ≡ 11 → Right does (meas_op words top outcomes s.used)
    unfolding meas_op doing_of doings op_of ops op_meas
    meas-event e =
        one-op outcomes s busy few 11 (meas_op words top outcomes s.used) e (taken-by outcomes s busy 11 e)
        (λ u us q.
        as-left outcomes s busy few (cond (is_empty u || false) (faults 20) (do_meas (stage 1 (u ∷ us))))
        (ap (cond (eqb (value_at words (top_at top 1)).tag 0) (after_event (fault_event 20) words))
        (measured-words (next_in outcomes s.used))
        ∙ read_one outcomes s busy few u us (λ n. outcome-words n (next_in outcomes s.used)) q)
        (on-measured u us q))
