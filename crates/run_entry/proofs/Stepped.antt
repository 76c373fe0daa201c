-- One entry of any process: what the step and, where it is no plain step, the rest of the entry leave in trace and
-- store is what the definitions say.
use Prim.Native.Nat.{ℕ, zero, suc, ◌+◌, ◌≤◌, ◌<◌}
use mathlib.Core.Path.{◌≡◌, refl, sym, ◌∙◌, ap, subst}
use mathlib.Core.Logic.{◌≢◌, ◌⊎◌, inl, inr, ⊎_elim}
use mathlib.Core.Bool.{Bool, true, false, cond, true≢false}
use mathlib.Core.List.{List, [], ◌∷◌, ◌++◌}
use native.Mathlib.Omega.{arith}
use lib.ListN.{length, length-append, replicate}
use lib.Dec.{eqb, ltb}
use borrow.Author.Tests.{eqb-true, eqb-false, ne_eqb, ltb-true, ltb-false, lt-ltb}
use Rattle.lists.proofs.Tests.{decide, never}
use Rattle.lists.proofs.Numbers.{by_number, ◌▹◌}
use Rattle.lists.proofs.Each.{both-length}
use Rattle.table.specs.Table.{arg_at, op_at}
use Rattle.table.proofs.Accepted.{Kept}
use Rattle.table.proofs.Methods.{inside-bound}
use Rattle.table.proofs.Before.{before-height}
use Rattle.machine.specs.Value.{Thing, qubit, channel, end, Value}
use Rattle.machine.specs.State.{Frame, Status, running, finished, stopped, Process, Config, State, process_at}
use Rattle.machine.specs.Act.{Act, idle, stuck, faults, goes, ends, makes, forks, offers, at_frame, at_frames, by_status, act_of}
use Rattle.machine.specs.Entry.{Effect, runs, judged, applied, effect_of, moves, able, able_in, applied_in, effect_in, moves_in}
use Rattle.machine.specs.Owner.{values_of}
use Rattle.machine.specs.Answer.{trace_after}
use Rattle.machine.specs.Sound.{ProcessSound}
use Rattle.machine.proofs.Reachable.{Reachable, busy-at, Running}
use Rattle.machine.proofs.Typing.{FrameTyped}
use Rattle.machine.proofs.Acts.{ActTyped}
use Rattle.machine.proofs.Standing.{act-typed}
use Rattle.machine.proofs.Within.{ActWithin, act-within}
use Rattle.machine.proofs.Giving.{process-same}
use Rattle.machine.proofs.Unmade.{unmade-idle}
use Rattle.machine.proofs.Ownership as own
use Rattle.layout.specs.Layout.{padded, status_words, process_words, encode}
use Rattle.run_store.specs.StoreCode.{head_of}
use Rattle.run_values.specs.ValuesCode.{went_on, not_running, is_offer, AfterStep, after_step}
use Rattle.run_ops.specs.OpsCode.{act_op, step_op}
use Rattle.run_ops.proofs.Meaning.{FaultIs, Agrees, Height, is_left, left_at, step-agrees, step_left}
use Rattle.run_parts.specs.PartsCode.{part_of, with_part}
use Rattle.run_parts.proofs.Encoded.{part-is, part-put, part-unmade}
use Rattle.run_events.specs.ConcludeCode.{conclude_op}
use Rattle.run_events.proofs.Concluding.{writes_line, single_at, Concluded, concluded-op}
use Rattle.run_holders.proofs.Holding.{Holding}
use Rattle.run_parts.proofs.Alone.{Alone, frame-alone}
use Rattle.run_ability.specs.declared.pairing.Pairing.{Pairing}
use Rattle.run_ability.specs.PairingCode.{pairing_op}
use Rattle.run_ability.specs.declared.pairing.Pairing.TheVariants.{NoOffer}
use Rattle.run_ability.proofs.Able.{process-sound, not_stuck}
use Rattle.run_single.specs.declared.result.Count.{Count}
use Rattle.run_single.specs.ResultCode.{AfterEntry, after_entry}
use Rattle.run_single.specs.declared.result.EntryResult.TheVariants.{Unable}
use Rattle.run_single.specs.SingleCode.{single_op}
use Rattle.run_values.specs.declared.steps.StepResult.{StepResult}
use Rattle.run_values.specs.declared.steps.StepResult.TheVariants.{WentOn, NotRunning, AtNewQ, AtNewC, AtGate, AtMeas, AtLastRet, AtFork, AtSend, AtRecv, Empty, FrameBeyond8, OutOfRange}
use Rattle.run_events.specs.declared.conclude.Single.{Single}
use Rattle.run_events.specs.declared.conclude.Single.TheVariants.{LastRet, Fault}
use Rattle.run_entry.specs.declared.entry.Rest.{Rest}
use Rattle.run_entry.specs.declared.entry.Rest.TheVariants.{Nothing, Fork, Offer, Line}
use Rattle.run_entry.specs.MeetingCode.{meet_by}
use Rattle.run_entry.specs.EntryCode.{rest_of, offer_at, rest_op, entry_op}
use Rattle.run_single.proofs.Here.{Here}
use Rattle.run_single.proofs.Singly.{sound, laid, count, tried, part-now, fault-as, fault-law, ends_as, ends-law, after-long, line-law, made-law}
use Rattle.run_entry.proofs.Forked.{fork-law}
use Rattle.run_entry.proofs.Meets.{went, send-law, receive-law}

-- a typed act leaves at most 8 pending values in the top frame

module _ (p : List ℕ) (kept : Kept p) where
  frame-height : {R : Value → ℕ → Type 0} (owed : List ℕ) (f : Frame) → FrameTyped p R owed f → length f.pending ≤ 8
  frame-height owed f h =
      omega (
        arith,
        both-length h.pending,
        simp length-append at (ap length h.stands),
        before-height p kept f.place
            (inside-bound p kept h.place),
      )

  height-of : (ks : List ℕ) (q n : ℕ) (a : Act) → ActTyped p ks q n a → Height a
  height-of ks q n idle h = tt
  height-of ks q n stuck h = tt
  height-of ks q n (faults m) h = tt
  height-of ks q n (goes [] es u) h = tt
  height-of ks q n (goes (f ∷ fs) es u) h = frame-height [] f h.stack.0
  height-of ks q n ends h = tt
  height-of ks q n (makes t []) h = tt
  height-of ks q n (makes (qubit i) (f ∷ fs)) h = frame-height [] f h.1.stack.0
  height-of ks q n (makes (channel i) (f ∷ fs)) h = frame-height [] f h.1.1.stack.0
  height-of ks q n (makes (end i d) (f ∷ fs)) h = absurd h
  height-of ks q n (forks m args fs) h = tt
  height-of ks q n (offers o) h = tt

-- the ops that are left to the entry are those with one line, FORK, SEND and RECV
left-writes-line : (op : ℕ) → is_left op ≡ true → op ≢ 14 → op ≢ 15 → op ≢ 16 → writes_line op ≡ true
left-writes-line =
    by_number (λ (op : ℕ). is_left op ≡ true → op ≢ 14 → op ≢ 15 → op ≢ 16 → writes_line op ≡ true) 17
    (never ▹ never ▹ never ▹ never ▹ never ▹ never ▹ never ▹ line ▹ line ▹ never ▹ line ▹ line ▹ never ▹ never ▹
    (λ t a b c. absurd (a refl)) ▹ (λ t a b c. absurd (b refl)) ▹ (λ t a b c. absurd (c refl)) ▹ (λ k. never))
  where
    line : {A B C D : Type 0} → A → B → C → D → true ≡ true
    line t a b c = refl

-- what the step answers at an op that writes a line leaves the line's entry
record Leaves (op : ℕ) : Type 0 where
  stops : went_on (left_at op) ≡ false
  rest : rest_of (left_at op) ≡ Line (single_at op)
  small : op < 12

line-left : (op : ℕ) → writes_line op ≡ true → Leaves op
unfolding went_on rest_of
line-left =
    by_number (λ (op : ℕ). writes_line op ≡ true → Leaves op) 12
    (never ▹ never ▹ never ▹ never ▹ never ▹ never ▹ never ▹
    (λ t. record { stops = refl; rest = refl; small = omega arith }) ▹
    (λ t. record { stops = refl; rest = refl; small = omega arith }) ▹ never ▹
    (λ t. record { stops = refl; rest = refl; small = omega arith }) ▹
    (λ t. record { stops = refl; rest = refl; small = omega arith }) ▹ (λ k. never))

-- and a fault that a step answers leaves the fault's
fault-left : (r : StepResult) (m : ℕ) → FaultIs m r → (went_on r ≡ false) × (rest_of r ≡ Line (Fault m))
unfolding went_on rest_of
fault-left WentOn m h = absurd h
fault-left NotRunning m h = absurd h
fault-left AtNewQ m h = absurd h
fault-left AtNewC m h = absurd h
fault-left AtGate m h = absurd h
fault-left AtMeas m h = absurd h
fault-left AtLastRet m h = absurd h
fault-left AtFork m h = absurd h
fault-left AtSend m h = absurd h
fault-left AtRecv m h = absurd h
fault-left Empty m h = (refl, ap (λ (i : ℕ). Line (Fault i)) (sym h))
fault-left FrameBeyond8 m h = (refl, ap (λ (i : ℕ). Line (Fault i)) (sym h))
fault-left OutOfRange m h = (refl, ap (λ (i : ℕ). Line (Fault i)) (sym h))

-- zeros are no running process
no-status : eqb (head_of (replicate 512 0)).status 1 ≡ false
unfolding head_of
no-status = refl

module _ {p outcomes : List ℕ} {s : State} {t0 : List ℕ} {room : ℕ} (here : Here p outcomes s t0 room)
    (rest : List ℕ) (k n : ℕ) (owned : own.Kept s.config s.lines) (t : List (List ℕ))
    (holding : Holding t s.lines)
    (near : n < 8) where
  abbrev reached : Reachable p outcomes s
  reached = here.reached

  abbrev c : Config
  c = s.config

  abbrev store : List ℕ
  store = encode c ++ rest

  abbrev lines : List ℕ
  lines = trace_after s.lines t0

  abbrev counted : Count
  counted = count here rest k n

  abbrev comes : Act → AfterEntry
  comes = went here rest k n

  abbrev effect : Effect
  effect = effect_of p outcomes k s n

  -- a plain step: the process goes on, with no line
  pub record Plain (d : AfterStep) : Type 0 where
    pub result : d.result ≡ WentOn
    pub can : able p outcomes s n ≡ true
    pub words : with_part store n d.words ≡ encode effect.config ++ rest
    pub lines : effect.lines ≡ []
    pub used : effect.used ≡ 0

  -- any other entry: the step changes nothing, and the rest of the entry does all
  pub record Other (d : AfterStep) : Type 0 where
    pub result : went_on d.result ≡ false
    pub words : d.words ≡ part_of store n
    pub entry :
        entry_op p outcomes lines store room counted n d.result (offer_at p store t n d.result) ≡ comes
        (act_of p outcomes s n)

  abbrev pub Law : Type 0
  Law = Plain (step_op p (part_of store n)) ⊎ Other (step_op p (part_of store n))

  going : act_of p outcomes s n ≢ stuck
  going = not_stuck reached rest n

  other : (r : StepResult) → step_op p (part_of store n) ≡ after_step r (part_of store n) → went_on r ≡ false
      → entry_op p outcomes lines store room counted n r (offer_at p store t n r) ≡ comes (act_of p outcomes s n)
      → Law
  other r e z h =
      inr (record {
        result = ap (λ (d : AfterStep). went_on d.result) e ∙ z;
        words = ap (λ (d : AfterStep). d.words) e;
        entry =
            ap
            (λ (d : AfterStep). entry_op p outcomes lines store room counted n d.result
            (offer_at p store t n d.result))
            e
            ∙ h;
      })

  -- an act of an op other than SEND and RECV moves its process, and is not judged
  alone-comes : (a : Act) → Alone a → a ≢ stuck → tried here rest k n (applied p outcomes k s n a) ≡ comes a
  unfolding moves_in judged
  alone-comes idle h g = absurd h
  alone-comes stuck h g = absurd (g refl)
  alone-comes (faults m) h g = refl
  alone-comes (goes gs es u) h g = refl
  alone-comes ends h g = refl
  alone-comes (makes x gs) h g = refl
  alone-comes (forks m args gs) h g = refl
  alone-comes (offers o) h g = absurd h

  -- a process that does not run
  over : (w : List ℕ) → part_of store n ≡ w → eqb (head_of w).status 1 ≡ false → act_of p outcomes s n ≡ idle → Law
  unfolding step_op entry_op rest_op rest_of went_on moves_in judged
  over w e h i =
      other NotRunning
      (ap (λ (b : Bool). cond b
      (act_op p (part_of store n) (head_of (part_of store n)) (op_at p (head_of (part_of store n)).place)
      (arg_at p (head_of (part_of store n)).place)) (after_step NotRunning (part_of store n)))
      (ap (λ (l : List ℕ). eqb (head_of l).status 1) e ∙ h))
      refl
      (sym (ap comes i))

  module _ {f : Frame} {fs : List Frame} (live : Running p c n f fs) where
    abbrev words : List ℕ
    words = process_words (runs (f ∷ fs))

    part : part_of store n ≡ words
    part = part-now here rest k n live

    act-here : act_of p outcomes s n ≡ at_frame p outcomes s f fs
    unfolding act_of by_status at_frames
    act-here = ap (λ (pr : Process). by_status pr.status (at_frames p outcomes s pr.frames)) live.stands

    typed-act : ActTyped p reached.kinds c.qubits (length c.processes) (at_frame p outcomes s f fs)
    typed-act =
        subst (ActTyped p reached.kinds c.qubits (length c.processes)) act-here
        (act-typed p reached.kept outcomes reached.bytes s reached.kinds reached.typed n)

    within-act : ActWithin (values_of (process_at c n).frames) c.qubits c.channels (at_frame p outcomes s f fs)
    within-act =
        subst (ActWithin (values_of (process_at c n).frames) c.qubits c.channels) act-here
        (act-within p outcomes s n)

    high : Height (at_frame p outcomes s f fs)
    high =
        height-of p reached.kept reached.kinds c.qubits (length c.processes) (at_frame p outcomes s f fs)
        typed-act

    -- the step's answer with the words as they were
    left-at : (r : StepResult) → step_op p words ≡ after_step r words
        → step_op p (part_of store n) ≡ after_step r (part_of store n)
    left-at r e = ap (step_op p) part ∙ e ∙ ap (after_step r) (sym part)

    single-other : (r : StepResult) (does : Single) → step_op p words ≡ after_step r words → went_on r ≡ false
        → rest_of r ≡ Line does
        → single_op p outcomes lines store room counted n does ≡ comes (act_of p outcomes s n) → Law
    unfolding entry_op rest_op
    single-other r does e z q h =
        other r (left-at r e) z
        (ap (λ (x : Rest). rest_op p outcomes lines store room counted n x (offer_at p store t n r)) q ∙ h)

    -- an op that stays within the process and writes no line
    quiet : (a : Act) → at_frame p outcomes s f fs ≡ a
        → ActTyped p reached.kinds c.qubits (length c.processes) a → Agrees a words (step_op p words) → Law
    unfolding moves_in applied_in effect_in able_in judged went_on rest_of
    quiet idle i ty g = absurd g
    quiet stuck i ty g = absurd ty
    quiet (faults m) i ty g =
        let left = fault-left (step_op p words).result m g.0 in
        single-other (step_op p words).result (Fault m) (ap (after_step (step_op p words).result) g.1) left.0
        left.1
        (fault-law here rest k n live m (inl ty)
        ∙ ap comes (sym (act-here ∙ i)))
    quiet (goes gs [] zero) i ty g =
        inl (record {
          result = ap (λ (d : AfterStep). d.result) stepped;
          can = ap (λ (a : Act). moves p outcomes s n (judged s n a)) does;
          words =
              ap (λ (d : AfterStep). with_part store n d.words) stepped
              ∙ part-put c (laid here rest k n) rest n (runs gs) live.made
              (after-long here rest k n live (goes gs [] 0) does n (runs gs) (process-same c n (runs gs) live.made))
              ∙ ap (λ (a : Act). encode (applied p outcomes k s n (judged s n a)).config ++ rest) (sym does);
          lines = ap (λ (a : Act). (applied p outcomes k s n (judged s n a)).lines) does;
          used = ap (λ (a : Act). (applied p outcomes k s n (judged s n a)).used) does;
        })
      where
        does : act_of p outcomes s n ≡ goes gs [] 0
        does = act-here ∙ i

        stepped : step_op p (part_of store n) ≡ after_step WentOn (process_words (runs gs))
        stepped = ap (step_op p) part ∙ g
    quiet (goes gs [] (suc u)) i ty g = absurd g
    quiet (goes gs (e ∷ es) u) i ty g = absurd g
    quiet ends i ty g =
        single-other AtLastRet LastRet g refl refl
        (ends-law here rest k n live ∙ ap comes (sym (act-here ∙ i)))
    quiet (makes x gs) i ty g = absurd g
    quiet (forks m args gs) i ty g = absurd g
    quiet (offers o) i ty g = absurd g

    -- an op with one line
    one_line : (does : Single) (a : Act) → at_frame p outcomes s f fs ≡ a
        → ActTyped p reached.kinds c.qubits (length c.processes) a
        → ActWithin (values_of (process_at c n).frames) c.qubits c.channels a → Alone a
        → Concluded outcomes s live.busy (sound here rest k n).qubit_count a
        (conclude_op p words does c.qubits c.channels outcomes s.used)
        → single_op p outcomes lines store room counted n does ≡ comes a
    unfolding moves_in judged
    one_line does idle i ty wi al g = absurd g
    one_line does stuck i ty wi al g = absurd ty
    one_line does (faults m) i ty wi al g =
        fault-as here rest k n live does m (inl ty) g
    one_line does (goes gs [] u) i ty wi al g = absurd g
    one_line does (goes gs (e ∷ []) u) i ty wi al g =
        line-law here rest k n live does gs e u (act-here ∙ i) g
        wi.1.0.not_made.0 wi.1.0.not_made.1 al.1
    one_line does (goes gs (e ∷ g ∷ es) u) i ty wi al h = absurd h
    one_line does ends i ty wi al g = ends_as here rest k n live does g
    one_line does (makes (qubit q) gs) i ty wi al g =
        made-law here rest k n live does (qubit q) gs (act-here ∙ i) g (λ j d e. not_end e)
      where
        not_end : {j : ℕ} {d : Bool} → qubit q ≡ end j d → ⊥
        not_end e = subst is-qubit e tt
          where
            is-qubit : Thing → Type 0
            is-qubit (qubit x) = Unit {0}
            is-qubit (channel x) = ⊥
            is-qubit (end x y) = ⊥
    one_line does (makes (channel q) gs) i ty wi al g =
        made-law here rest k n live does (channel q) gs (act-here ∙ i) g (λ j d e. not_end e)
      where
        not_end : {j : ℕ} {d : Bool} → channel q ≡ end j d → ⊥
        not_end e = subst is-channel e tt
          where
            is-channel : Thing → Type 0
            is-channel (qubit x) = ⊥
            is-channel (channel x) = Unit {0}
            is-channel (end x y) = ⊥
    one_line does (makes (end q d) gs) i ty wi al g = absurd ty
    one_line does (forks m args gs) i ty wi al g = absurd g
    one_line does (offers o) i ty wi al g = absurd g

    left-one-line : (op : ℕ) → op_at p f.place ≡ op → writes_line op ≡ true
        → step_op p words ≡ after_step (left_at op) words → Law
    left-one-line op e h g =
        let left = line-left op h in
        single-other (left_at op) (single_at op) g left.stops left.rest
        (one_line (single_at op) (at_frame p outcomes s f fs) refl typed-act within-act
        (frame-alone p outcomes s f fs (λ z. absurd (omega (arith, z, e, left.small)))
        (λ z. absurd (omega (arith, z, e, left.small))))
        (concluded-op outcomes s live.busy (sound here rest k n).qubit_count here.reached.bytes op e h high)
        ∙ ap comes (sym act-here))

    at-work : Law
    unfolding entry_op rest_op rest_of is_offer not_running went_on offer_at
    at-work =
        ⊎_elim left-to
        (λ h. quiet (at_frame p outcomes s f fs) refl typed-act (step-agrees outcomes s live.busy h high))
        (decide (is_left (op_at p f.place)))
      where
        stepped : is_left (op_at p f.place) ≡ true → step_op p words ≡ after_step (left_at (op_at p f.place)) words
        stepped h = step_left outcomes s live.busy h

        at_op : (op : ℕ) → is_left (op_at p f.place) ≡ true → op_at p f.place ≡ op
            → step_op p (part_of store n) ≡ after_step (left_at op) (part_of store n)
        at_op op h e = left-at (left_at op) (stepped h ∙ ap (λ (i : ℕ). after_step (left_at i) words) e)

        fork_at : is_left (op_at p f.place) ≡ true → op_at p f.place ≡ 14 → Law
        fork_at h e =
            other AtFork (at_op 14 h e) refl
            (fork-law here rest k n live e going
            ∙ forks-come)
          where
            forks-come :
                tried here rest k n (applied p outcomes k s n (act_of p outcomes s n)) ≡ comes (act_of p outcomes s n)
            forks-come =
                alone-comes (act_of p outcomes s n)
                (subst Alone (sym act-here)
                (frame-alone p outcomes s f fs (λ z. absurd (omega (arith, z, e))) (λ z. absurd (omega (arith, z, e)))))
                going

        -- what the offer comes to was worked out
        paired : (step : StepResult)
            → meet_by p outcomes lines store room counted n (cond (ltb n 8) (pairing_op p store t n step)
            NoOffer)
            ≡ meet_by p outcomes lines store room counted n (pairing_op p store t n step)
        paired step =
            ap
            (λ (b : Bool). meet_by p outcomes lines store room counted n
            (cond b (pairing_op p store t n step) NoOffer)) (lt-ltb n 8 near)

        elsewhere : is_left (op_at p f.place) ≡ true → op_at p f.place ≢ 14 → Law
        elsewhere h x =
            ⊎_elim
            (λ i. let e = eqb-true (op_at p f.place) 15 i in
            other AtSend (at_op 15 h e) refl
            (paired AtSend
            ∙ send-law here rest k n owned t holding live e going near))
            (λ i. ⊎_elim
            (λ j. let e = eqb-true (op_at p f.place) 16 j in
            other AtRecv (at_op 16 h e) refl
            (paired AtRecv
            ∙ receive-law here rest k n owned t holding live e going near))
            (λ j. left-one-line (op_at p f.place) refl
            (left-writes-line (op_at p f.place) h x (eqb-false (op_at p f.place) 15 i)
            (eqb-false (op_at p f.place) 16 j)) (stepped h))
            (decide (eqb (op_at p f.place) 16)))
            (decide (eqb (op_at p f.place) 15))

        left-to : is_left (op_at p f.place) ≡ true → Law
        left-to h =
            ⊎_elim (λ i. fork_at h (eqb-true (op_at p f.place) 14 i))
            (λ i. elsewhere h (eqb-false (op_at p f.place) 14 i)) (decide (eqb (op_at p f.place) 14))

  by-process : n < length c.processes → (st : Status) (fs : List Frame)
      → process_at c n ≡ record { status = st; frames = fs } → ProcessSound p c (record { status = st; frames = fs })
      → Law
  unfolding head_of process_words status_words padded act_of by_status
  by-process made running [] i h = absurd (omega (arith, h.status))
  by-process made running (f ∷ fs) i h =
      at-work (record { made = made; busy = busy-at reached h.frames (omega (arith, h.depth)); stands = i })
  by-process made finished fs i h =
      over (process_words (record { status = finished; frames = fs }))
      (part-is c (laid here rest k n) rest n made ∙ ap process_words i) refl
      (ap (λ (pr : Process). by_status pr.status (at_frames p outcomes s pr.frames)) i)
  by-process made (stopped m) fs i h =
      over (process_words (record { status = stopped m; frames = fs }))
      (part-is c (laid here rest k n) rest n made ∙ ap process_words i) refl
      (ap (λ (pr : Process). by_status pr.status (at_frames p outcomes s pr.frames)) i)

  -- an entry that names process n
  pub entry-law : Law
  entry-law =
      ⊎_elim
      (λ h. by-process (ltb-true n (length c.processes) h) (process_at c n).status (process_at c n).frames refl
      (process-sound reached rest n))
      (λ h. unmade (ltb-false n (length c.processes) h))
      (decide (ltb n (length c.processes)))
    where
      unmade : length c.processes ≤ n → Law
      unmade h =
          over (replicate 512 0) (part-unmade c (laid here rest k n) rest n h near) no-status
          (unmade-idle p outcomes s n h)
