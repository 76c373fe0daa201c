-- An entry at SEND or RECV, by what the process and its partner stand at.
use Prim.Native.Nat.{ℕ, ◌<◌}
use mathlib.Core.Path.{◌≡◌, refl, sym, ◌∙◌, ap, ap₂, subst}
use mathlib.Core.Logic.{◌≢◌, inl, inr, ⊎_elim}
use mathlib.Core.Bool.{Bool, true, false, cond, not, ◌&&◌, ◌||◌, beq, true≢false}
use mathlib.Core.List.{List, [], ◌∷◌, ◌++◌}
use mathlib.Core.Option.{Option, none, some, none-ne-some}
use native.Mathlib.Omega.{arith}
use lib.ListN.{length}
use lib.Dec.{eqb, ltb}
use borrow.Author.Tests.{ne_eqb, lt-leb, ltb-true, ltb-false}
use Rattle.lists.proofs.Tests.{decide}
use Rattle.table.specs.Table.{op_at}
use Rattle.table.specs.Ops.{op_of, ops, op_send, op_recv}
use Rattle.table.specs.Reading.{taken_at}
use Rattle.machine.specs.Value.{qubit, channel, end, Value, empty, int, bool, ref, is_empty}
use Rattle.machine.specs.State.{Frame, Status, running, finished, stopped, Process, Config, State, process_at}
use Rattle.machine.specs.Act.{Offer, sends, receives, Act, idle, stuck, faults, goes, ends, makes, forks, offers, do_send, do_recv, doings, doing_of, at_frame, at_frames, by_status, act_of}
use Rattle.machine.specs.Entry.{Effect, Meeting, joins, offered, meets_with, meeting_of, is_meeting, meet_in, meet_if_in, gone, judged, applied, effect_of, moves, applied_in, effect_in, moves_in, table_machine}
use Rattle.machine.specs.Owner.{values_of}
use Rattle.machine.specs.Sound.{ProcessSound}
use Rattle.machine.proofs.Reachable.{Reachable, busy-at, Running}
use Rattle.machine.proofs.Typing.{Typed}
use Rattle.machine.proofs.Effects.{effect-typed}
use Rattle.machine.proofs.Within.{OfferWithin, ActWithin, act-within}
use Rattle.machine.proofs.Unmade.{unmade-idle}
use Rattle.machine.proofs.Ownership.{cond-some, meets-offer}
use Rattle.machine.proofs.Ownership as own
use Rattle.machine.specs.Answer.{trace_after}
use Rattle.layout.specs.Layout.{encode}
use Rattle.run_store.specs.declared.head.Head.{Head}
use Rattle.run_store.specs.StoreCode.{head_of}
use Rattle.run_values.proofs.Places.{head_in, head-is}
use Rattle.run_ops.proofs.Meaning.{act-one, act-two, act-short, taken-by, scene}
use Rattle.run_parts.specs.PartsCode.{part_of}
use Rattle.run_holders.proofs.Holding.{Holding}
use Rattle.run_parts.specs.declared.readiness.Readiness.{Readiness}
use Rattle.run_parts.specs.ReadinessCode.{readiness_op, offer_of}
use Rattle.run_parts.proofs.Returns.{offers-send, offers-receive}
use Rattle.run_parts.proofs.Standing.{Stands}
use Rattle.run_ability.specs.PairingCode.{pairing_op}
use Rattle.run_ability.specs.PartnerCode.{waits, ready}
use Rattle.run_ability.specs.PartnerCode as code
use Rattle.run_ability.proofs.Able.{process-sound, stand-at, found, partner-law, met-with, found-partner}
use Rattle.run_single.specs.ResultCode.{AfterEntry, after_entry}
use Rattle.run_single.specs.declared.result.EntryResult.TheVariants.{Unable}
use Rattle.run_single.specs.SingleCode.{single_op}
use Rattle.run_values.specs.declared.steps.StepResult.{StepResult}
use Rattle.run_values.specs.declared.steps.StepResult.TheVariants.{AtSend, AtRecv}
use Rattle.run_events.specs.declared.conclude.Single.TheVariants.{Fault}
use Rattle.run_entry.specs.MeetingCode.{exchange_op, meet_by}
use Rattle.run_single.proofs.Here.{Here}
use Rattle.run_single.proofs.Singly.{sound, count, tried, part-now, fault-law}
use Rattle.run_entry.proofs.Exchanged.{exchange-law}
use Rattle.run_entry.proofs.Paired.{receive_by, pair_by, pair_op, join_op, offer_op, stands_op, meet_op, meet-same}

module _ {p outcomes : List ℕ} {s : State} {t0 : List ℕ} {room : ℕ} (here : Here p outcomes s t0 room)
    (rest : List ℕ) (k n : ℕ) where
  abbrev reached : Reachable p outcomes s
  reached = here.reached

  abbrev c : Config
  c = s.config

  abbrev store : List ℕ
  store = encode c ++ rest

  abbrev lines : List ℕ
  lines = trace_after s.lines t0

  abbrev tries : Effect → AfterEntry
  tries = tried here rest k n

  abbrev stay : AfterEntry
  stay = after_entry Unable lines store

  -- what an entry of process n leaves, by its act
  abbrev pub went : Act → AfterEntry
  went a = cond (moves p outcomes s n (judged s n a)) (tries (applied p outcomes k s n (judged s n a))) stay

  -- a process that offers is running
  record Offerer (q : ℕ) (o : Offer) : Type 0 where
    frame : Frame
    below : List Frame
    live : Running p c q frame below
    offer : at_frame p outcomes s frame below ≡ offers o

  is-offer : Act → Type 0
  is-offer idle = ⊥
  is-offer stuck = ⊥
  is-offer (faults m) = ⊥
  is-offer (goes gs es u) = ⊥
  is-offer ends = ⊥
  is-offer (makes x gs) = ⊥
  is-offer (forks m args gs) = ⊥
  is-offer (offers o) = Unit {0}

  idle-offers : (o : Offer) → idle ≡ offers o → ⊥
  unfolding is-offer
  idle-offers o e = subst is-offer (sym e) tt

  running-at : (q : ℕ) (o : Offer) → act_of p outcomes s q ≡ offers o → Offerer q o
  unfolding act_of by_status at_frames
  running-at q o e = go (process_at c q).status (process_at c q).frames refl (process-sound reached rest q) e
    where
      made : q < length c.processes
      made =
          ⊎_elim (λ t. ltb-true q (length c.processes) t)
          (λ t. absurd (idle-offers o (sym (unmade-idle p outcomes s q (ltb-false q (length c.processes) t)) ∙ e)))
          (decide (ltb q (length c.processes)))

      go : (st : Status) (fs : List Frame) → process_at c q ≡ record { status = st; frames = fs }
          → ProcessSound p c (record { status = st; frames = fs })
          → by_status st (at_frames p outcomes s fs) ≡ offers o → Offerer q o
      go running [] i h e = absurd (omega (arith, h.status))
      go running (f ∷ fs) i h e =
          record {
            frame = f;
            below = fs;
            live = record { made = made; busy = busy-at reached h.frames (omega (arith, h.depth)); stands = i };
            offer = e;
          }
      go finished fs i h e = absurd (idle-offers o e)
      go (stopped m) fs i h e = absurd (idle-offers o e)

  -- the meeting of process n, which offers o, with process q, which offers r
  pair-law : (q : ℕ) (o r : Offer) (e : Meeting) (st : Readiness) → Offerer n o → Offerer q r → q < 8 → q ≢ n
      → Stands (offers o) st
      → Stands (offers r) (readiness_op p (part_of store q)) → joins n o q r ≡ some e
      → Typed p (meet_in (table_machine p outcomes) k s e).config
      → pair_op p lines store room (count here rest k n) n st q ≡ tries (meet_in (table_machine p outcomes) k s e)
  unfolding joins pair_op pair_by receive_by
  pair-law q (sends i d v hs) (sends i' d' v' hs') e st x y near two h h' j after = absurd (none-ne-some e j)
  pair-law q (sends i d v hs) (receives i' d' hs') e st x y near two h h' j after =
      let w = cond-some (eqb i i' && beq d (not d')) _ e j in
      ap (λ (a : Readiness). pair_op p lines store room (count here rest k n) n a q) h
      ∙ exchange-law here rest k n x.live y.live (λ z. two (sym z)) i i' d d' v hs hs' x.offer y.offer
      (subst (λ (m : Meeting). Typed p (meet_in (table_machine p outcomes) k s m).config) (sym w.1) after)
      ∙ ap (λ (m : Meeting). tries (meet_in (table_machine p outcomes) k s m)) w.1
  pair-law q (receives i d hs) (sends i' d' v hs') e st x y near two h h' j after =
      let w = cond-some (eqb i i' && beq d (not d')) _ e j in
      ap₂ (λ (a b : Readiness). pair_by lines store room (count here rest k n) n a q b) h h'
      ∙ exchange-law here rest k n y.live x.live two i' i d' d v hs' hs y.offer x.offer
      (subst (λ (m : Meeting). Typed p (meet_in (table_machine p outcomes) k s m).config) (sym w.1) after)
      ∙ ap (λ (m : Meeting). tries (meet_in (table_machine p outcomes) k s m)) w.1
  pair-law q (receives i d hs) (receives i' d' hs') e st x y near two h h' j after = absurd (none-ne-some e j)

  module _ (owned : own.Kept c s.lines) (t : List (List ℕ)) (holding : Holding t s.lines) where
    abbrev partner : Offer → ℕ
    partner = found reached rest owned t holding

    within : (o : Offer) → act_of p outcomes s n ≡ offers o → OfferWithin (values_of (process_at c n).frames) o
    within o e =
        subst (ActWithin (values_of (process_at c n).frames) c.qubits c.channels) e (act-within p outcomes s n)

    offer-law : {f : Frame} {fs : List Frame} → Running p c n f fs → (o : Offer) (st : Readiness)
        → act_of p outcomes s n ≡ offers o → Stands (offers o) st
        → offer_op p outcomes lines store room t (count here rest k n) n st ≡ went (offers o)
    unfolding offer_op join_op moves_in applied_in effect_in is_meeting meet_if_in judged
    offer-law live o st does h =
        ap (join_op p outcomes lines store room (count here rest k n) n st)
        (partner-law reached rest owned t holding n o st (within o does) h)
        ∙ by-gone (gone s n o) refl
      where
        after : gone s n o ≡ false
            → Typed p (meet_if_in (table_machine p outcomes) k s (meeting_of p outcomes s n o)).config
        after g =
            subst (λ (b : Bool). Typed p (applied p outcomes k s n (cond b (faults 33) (offers o))).config) g
            (subst (λ (a : Act). Typed p (applied p outcomes k s n (judged s n a)).config) does
            (effect-typed p reached.kept outcomes reached.bytes s reached.kinds reached.typed k n))

        paired : (m : Option Meeting) → meeting_of p outcomes s n o ≡ m → is_meeting m ≡ true
            → Typed p (meet_if_in (table_machine p outcomes) k s m).config
            → pair_op p lines store room (count here rest k n) n st (partner o) ≡ tries
            (meet_if_in (table_machine p outcomes) k s m)
        paired none i b u = absurd (true≢false (sym b))
        paired (some e) i b u =
            let q = found-partner reached rest owned t holding n o (within o does) (ap is_meeting i) in
            let near : partner o < 8 = omega (arith, q.0, (sound here rest k n).process_count) in
            let w = meets-offer n (partner o) o (act_of p outcomes s (partner o)) e
            (sym (ap (λ (z : Bool). cond z none (meets_with n o (partner o) (offered (act_of p outcomes s (partner o)))))
            (ne_eqb (partner o) n q.1))
            ∙ sym (met-with reached rest owned t holding n o (within o does)) ∙ i) in
            pair-law (partner o) o w.0 e st (running-at n o does) (running-at (partner o) w.0 w.1) near q.1
            h
            (subst (λ (a : Act). Stands a (readiness_op p (part_of store (partner o)))) w.1
            (stand-at reached rest (partner o) near)) w.2 u

        by-meeting : gone s n o ≡ false → (b : Bool) → is_meeting (meeting_of p outcomes s n o) ≡ b
            → join_op p outcomes lines store room (count here rest k n) n st (cond b (ready (partner o)) waits)
            ≡ cond b (tries (meet_if_in (table_machine p outcomes) k s (meeting_of p outcomes s n o))) stay
        by-meeting g true b = paired (meeting_of p outcomes s n o) refl b (after g)
        by-meeting g false b = refl

        by-gone : (g : Bool) → gone s n o ≡ g
            → join_op p outcomes lines store room (count here rest k n) n st
            (cond g code.gone (cond (is_meeting (meeting_of p outcomes s n o)) (ready (partner o)) waits))
            ≡ cond (moves p outcomes s n (cond g (faults 33) (offers o)))
            (tries (applied p outcomes k s n (cond g (faults 33) (offers o)))) stay
        by-gone true e = fault-law here rest k n live 33 (inr refl)
        by-gone false e = by-meeting e (is_meeting (meeting_of p outcomes s n o)) refl

    -- the acts at SEND and RECV
    abbrev pub Offering : Act → Type 0
    Offering idle = ⊥
    Offering stuck = Unit {0}
    Offering (faults m) = m ≡ 20
    Offering (goes gs es u) = ⊥
    Offering ends = ⊥
    Offering (makes x gs) = ⊥
    Offering (forks m args gs) = ⊥
    Offering (offers o) = Unit {0}

    module _ {f : Frame} {fs : List Frame} (live : Running p c n f fs) where
      stands-law : (a : Act) (st : Readiness) → act_of p outcomes s n ≡ a → Offering a → a ≢ stuck → Stands a st
          → stands_op p outcomes lines store room t (count here rest k n) n st ≡ went a
      unfolding stands_op moves_in judged
      stands-law idle st does o going h = absurd o
      stands-law stuck st does o going h = absurd (going refl)
      stands-law (faults m) st does o going h =
          ap (stands_op p outcomes lines store room t (count here rest k n) n) h
          ∙ fault-law here rest k n live 20 (inl (omega arith, omega arith))
          ∙ ap (λ (i : ℕ). tries (applied p outcomes k s n (faults i))) (sym o)
      stands-law (goes gs es u) st does o going h = absurd o
      stands-law ends st does o going h = absurd o
      stands-law (makes x gs) st does o going h = absurd o
      stands-law (forks m args gs) st does o going h = absurd o
      stands-law (offers (sends i d v hs)) st does o going h =
          ap (stands_op p outcomes lines store room t (count here rest k n) n) h
          ∙ offer-law live (sends i d v hs) _ does refl
      stands-law (offers (receives i d hs)) st does o going h =
          ap (stands_op p outcomes lines store room t (count here rest k n) n) h
          ∙ offer-law live (receives i d hs) _ does refl

      offering : (b : Bool) (a : Act) → Offering a → Offering (cond b (faults 20) a)
      offering true a h = refl
      offering false a h = h

      send-offering : op_at p f.place ≡ 15 → Offering (at_frame p outcomes s f fs)
      unfolding doing_of doings do_send op_of ops op_send
      send-offering e = go f.pending refl
        where
          taken : taken_at p f.place ≡ 2
          taken = taken-by outcomes s live.busy 15 e

          short : (vs : List Value) → f.pending ≡ vs → length vs < 2 → Offering (at_frame p outcomes s f fs)
          short vs q h =
              subst Offering
              (sym (act-short outcomes s live.busy 15 2 e taken
              (subst (λ (l : List Value). length l < 2) (sym q) h)))
              tt

          ended : (y x : Value) (us : List Value) → Offering (do_send (scene outcomes s live.busy 2 (y ∷ x ∷ us)))
          ended y empty us = tt
          ended y (int z) us = tt
          ended y (bool z) us = tt
          ended y (ref (qubit z)) us = tt
          ended y (ref (channel z)) us = tt
          ended y (ref (end z d)) us = tt

          go : (vs : List Value) → f.pending ≡ vs → Offering (at_frame p outcomes s f fs)
          go [] q = short [] q (omega arith)
          go (u ∷ []) q = short (u ∷ []) q (omega arith)
          go (y ∷ x ∷ us) q =
              subst Offering (sym (act-two outcomes s live.busy 15 y x us e taken q))
              (offering (is_empty y || (is_empty x || false)) (do_send (scene outcomes s live.busy 2 (y ∷ x ∷ us)))
              (ended y x us))

      receive-offering : op_at p f.place ≡ 16 → Offering (at_frame p outcomes s f fs)
      unfolding doing_of doings do_recv op_of ops op_recv
      receive-offering e = go f.pending refl
        where
          taken : taken_at p f.place ≡ 1
          taken = taken-by outcomes s live.busy 16 e

          ended : (x : Value) (us : List Value) → Offering (do_recv (scene outcomes s live.busy 1 (x ∷ us)))
          ended empty us = tt
          ended (int z) us = tt
          ended (bool z) us = tt
          ended (ref (qubit z)) us = tt
          ended (ref (channel z)) us = tt
          ended (ref (end z d)) us = tt

          go : (vs : List Value) → f.pending ≡ vs → Offering (at_frame p outcomes s f fs)
          go [] q =
              subst Offering
              (sym
              (act-short outcomes s live.busy 16 1 e taken
              (subst (λ (l : List Value). length l < 1) (sym q) (omega arith)))) tt
          go (x ∷ us) q =
              subst Offering (sym (act-one outcomes s live.busy 16 x us e taken q))
              (offering (is_empty x || false) (do_recv (scene outcomes s live.busy 1 (x ∷ us))) (ended x us))

      act-here : act_of p outcomes s n ≡ at_frame p outcomes s f fs
      unfolding act_of by_status at_frames
      act-here = ap (λ (pr : Process). by_status pr.status (at_frames p outcomes s pr.frames)) live.stands

      pub meet-law : (step : StepResult) → Offering (at_frame p outcomes s f fs) → act_of p outcomes s n ≢ stuck → n < 8
          → offer_of (part_of store n) step ≡ readiness_op p (part_of store n)
          → meet_by p outcomes lines store room (count here rest k n) n (pairing_op p store t n step) ≡ went
          (act_of p outcomes s n)
      unfolding pairing_op meet_op
      meet-law step o going near e =
          meet-same p outcomes lines store room t (count here rest k n) n e
          ∙ stands-law (act_of p outcomes s n) (readiness_op p (part_of store n)) refl (subst Offering (sym act-here) o)
          going
          (stand-at reached rest n near)

      head-here : head_of (part_of store n) ≡ head_in f fs
      head-here =
          ap head_of (part-now here rest k n live)
          ∙ head-is live.busy.stack

      runs_here : (head_of (part_of store n)).status ≡ 1
      runs_here = ap (λ (h : Head). h.status) head-here

      op-here : {op : ℕ} → op_at p f.place ≡ op → op_at p (head_of (part_of store n)).place ≡ op
      op-here e = ap (λ (h : Head). op_at p h.place) head-here ∙ e

      pub send-law : op_at p f.place ≡ 15 → act_of p outcomes s n ≢ stuck → n < 8
          → meet_by p outcomes lines store room (count here rest k n) n (pairing_op p store t n AtSend) ≡ went
          (act_of p outcomes s n)
      send-law e going near =
          meet-law AtSend (send-offering e) going near (offers-send p (part_of store n) runs_here (op-here e))

      pub receive-law : op_at p f.place ≡ 16 → act_of p outcomes s n ≢ stuck → n < 8
          → meet_by p outcomes lines store room (count here rest k n) n (pairing_op p store t n AtRecv) ≡ went
          (act_of p outcomes s n)
      receive-law e going near =
          meet-law AtRecv (receive-offering e) going near (offers-receive p (part_of store n) runs_here (op-here e))
