-- Applying a typed act keeps the configuration typed: giving away, making, forking and meeting, one by one, and then
-- any entry.
use Prim.Native.Nat.{ℕ, ◌≤◌, ◌<◌}
use native.Mathlib.Omega.{arith}
use mathlib.Core.Logic.{◌≢◌, inl, inr}
use mathlib.Core.Bool.{Bool, true, cond, ◌&&◌, not, beq}
use mathlib.Core.Path.{◌≡◌, refl, sym, ◌∙◌, subst}
use mathlib.Core.List.{List, [], ◌∷◌, ◌++◌}
use mathlib.Core.Option.{Option, none, some}
use lib.ListN.{get_or, length, length-append, length-set, length-map}
use lib.Dec.{eqb, eqb→eq}
use Rattle.lists.specs.Lists.{any, All}
use Rattle.lists.proofs.Tests.{cond_both, cond-each, passes, and_left}
use Rattle.lists.proofs.Any.{All-append, All-set}
use Rattle.lists.proofs.First.{Given, first_some-given}
use Rattle.lists.proofs.Each.{nil, cons, both-map}
use Rattle.table.proofs.Accepted.{Kept}
use Rattle.machine.specs.Value.{Thing, qubit, channel, end, Value, empty}
use Rattle.machine.specs.State.{Frame, Process, Config, State, process_at, set_process, started}
use Rattle.machine.specs.Act.{Offer, sends, receives, Act, idle, stuck, faults, goes, ends, makes, forks, offers, act_of}
use Rattle.machine.specs.Entry.{lost_with, without, frame_without, frames_without, things_of, Meeting, joins, offered, meets_with, meeting_of, runs, counted, joined, forking, push_top, meet_in, meet_if_in, applied, effect_of, applied_in, effect_in, forking_in, meeting_in, table_machine}
use Rattle.machine.specs.Sound.{IsFault}
use Rattle.machine.proofs.Gone.{judged-keeps}
use Rattle.machine.proofs.Typing.{Fits, fits-more-qubits, fits-more-channels, FrameTyped, Callers, Frames, frames-pay, started-typed, ProcessTyped, processes-imply, ConfigTyped, Typed}
use Rattle.machine.proofs.Acts.{OfferTyped, MakingTyped, ActTyped}
use Rattle.machine.proofs.Standing.{act-typed, act-runs}

-- Giving away: an emptied value fits everywhere, so frames stay typed.

without-fits : (ks : List ℕ) (q : ℕ) (us : List Thing) (v : Value) (t : ℕ) → Fits ks q v t → Fits ks q (without us v) t
unfolding without
without-fits ks q us v t h = cond_both (λ w. Fits ks q w t) (any (λ u. lost_with u v) us) {x = empty} tt h

module _ (p ks : List ℕ) (q : ℕ) (us : List Thing) where
  frame-without : (owed : List ℕ) (f : Frame)
      → FrameTyped p (Fits ks q) owed f → FrameTyped p (Fits ks q) owed (frame_without us f)
  unfolding frame_without
  frame-without owed f h = record {
    place = h.place;
    slots = both-map (without us) (without-fits ks q us) h.slots;
    types = h.types;
    stands = h.stands;
    pending = both-map (without us) (without-fits ks q us) h.pending;
  }

  callers-without : (m : ℕ) (fs : List Frame)
      → Callers p (Fits ks q) m fs → Callers p (Fits ks q) m (frames_without us fs)
  unfolding frames_without frame_without
  callers-without m [] h = tt
  callers-without m (f ∷ fs) h = (frame-without _ f h.0, callers-without f.method fs h.1)

  frames-without : (owed : List ℕ) (fs : List Frame)
      → Frames p (Fits ks q) owed fs → Frames p (Fits ks q) owed (frames_without us fs)
  unfolding frames_without frame_without
  frames-without owed [] h = absurd h.stack
  frames-without owed (f ∷ fs) h = record {
    stack = (frame-without owed f h.stack.0, callers-without f.method fs h.stack.1);
    depth = rw (length-map fs (frame_without us)) h.depth;
  }

-- Changes of a typed configuration

module _ (p ks : List ℕ) (c : Config) (t : ConfigTyped p ks c) where
  abbrev Fitting : Value → ℕ → Type 0
  Fitting = Fits ks c.qubits

  set_typed : (n : ℕ) (pr : Process) → ProcessTyped p Fitting pr → ConfigTyped p ks (set_process c n pr)
  unfolding set_process
  set_typed n pr h = record {
    channels = t.channels;
    channel_count = t.channel_count;
    qubit_count = t.qubit_count;
    process_count = rw length-set t.process_count;
    processes = All-set (ProcessTyped p Fitting) c.processes n pr t.processes h;
  }

  joined_typed : (pr : Process) → length c.processes < 8 → ProcessTyped p Fitting pr → ConfigTyped p ks (joined c pr)
  unfolding joined
  joined_typed pr l h = record {
    channels = t.channels;
    channel_count = t.channel_count;
    qubit_count = t.qubit_count;
    process_count = rw length-append (omega arith);
    processes = All-append (ProcessTyped p Fitting) c.processes (pr ∷ []) t.processes (h, tt);
  }

  making-typed : (n : ℕ) (u : Thing) (fs : List Frame) → MakingTyped p ks c.qubits u fs
      → Typed p (counted u (set_process c n (runs fs)))
  unfolding counted set_process
  making-typed n (qubit i) fs h = (
    ks,
    record {
      channels = t.channels;
      channel_count = t.channel_count;
      qubit_count = h.0;
      process_count = rw length-set t.process_count;
      processes =
          All-set (ProcessTyped p _) c.processes n (runs fs)
          (processes-imply p (fits-more-qubits ks c.qubits) c.processes t.processes) h.1;
    },
  )
  making-typed n (channel i) fs h = (
    ks ++ (h.1.0 ∷ []),
    record {
      channels = rw length-append (omega (arith, t.channels));
      channel_count = omega (arith, h.0, t.channels);
      qubit_count = t.qubit_count;
      process_count = rw length-set t.process_count;
      processes =
          All-set (ProcessTyped p _) c.processes n (runs fs)
          (processes-imply p (fits-more-channels ks h.1.0 c.qubits) c.processes t.processes) h.1.1;
    },
  )
  making-typed n (end i s) fs h = absurd h

-- forking: the child starts with the arguments, which its parent gives away
forking-typed : (p ks : List ℕ) (k : Kept p) (c : Config) → ConfigTyped p ks c
    → (n m : ℕ) (args : List Value) (fs : List Frame)
    → ActTyped p ks c.qubits (length c.processes) (forks m args fs)
    → ConfigTyped p ks
    (joined (set_process c n (runs (frames_without (things_of args) fs))) (runs (started p m args ∷ [])))
unfolding set_process
forking-typed p ks k c t n m args fs (room, method, fit, parent) =
    let given = frames-without p ks c.qubits (things_of args) [] fs parent in
    let child = started-typed p k (λ t. tt) m args method fit in
    joined_typed p ks _ (set_typed p ks c t n (runs (frames_without (things_of args) fs)) given)
    (runs (started p m args ∷ [])) (rw length-set room) (record { stack = (child, tt); depth = omega arith })

-- Meetings

abbrev MeetingTyped : List ℕ → List ℕ → ℕ → Meeting → Type 0
MeetingTyped p ks q e =
    Fits ks q e.value (get_or ks e.channel 0)
    × Frames p (Fits ks q) [] e.sender_frames
    × Frames p (Fits ks q) (get_or ks e.channel 0 ∷ []) e.receiver_frames

module _ (p ks : List ℕ) (q : ℕ) where
  one-channel : (c d : ℕ) (b : Bool) → (eqb c d && b) ≡ true → c ≡ d
  one-channel c d b e = eqb→eq c d (and_left (eqb c d) b (passes e))

  -- two offers that meet are made on one channel, so what is sent fits what is received
  joins-typed : (n : ℕ) (o : Offer) (m : ℕ) (r : Offer) → OfferTyped p ks q o → OfferTyped p ks q r
      → Given (MeetingTyped p ks q) (joins n o m r)
  unfolding joins
  joins-typed n (sends c d v fs) m (sends c' d' w gs) h g = tt
  joins-typed n (sends c d v fs) m (receives c' d' gs) h g =
      cond-each (Given (MeetingTyped p ks q)) (eqb c c' && beq d (not d'))
      (λ e. (h.0, h.1, rw (one-channel c c' _ e) g)) (λ e. tt)
  joins-typed n (receives c d fs) m (sends c' d' w gs) h g =
      cond-each (Given (MeetingTyped p ks q)) (eqb c c' && beq d (not d'))
      (λ e. (g.0, g.1, rw (one-channel c c' _ e) at h)) (λ e. tt)
  joins-typed n (receives c d fs) m (receives c' d' gs) h g = tt

  offered-typed : (n : ℕ) (act : Act) → ActTyped p ks q n act → Given (OfferTyped p ks q) (offered act)
  unfolding offered
  offered-typed n idle h = tt
  offered-typed n stuck h = tt
  offered-typed n (faults f) h = tt
  offered-typed n (goes fs es u) h = tt
  offered-typed n ends h = tt
  offered-typed n (makes t fs) h = tt
  offered-typed n (forks m args fs) h = tt
  offered-typed n (offers o) h = h

  meets_with-typed : (n : ℕ) (o : Offer) (m : ℕ) (r : Option Offer) → OfferTyped p ks q o → Given (OfferTyped p ks q) r
      → Given (MeetingTyped p ks q) (meets_with n o m r)
  unfolding meets_with
  meets_with-typed n o m none h g = tt
  meets_with-typed n o m (some r) h g = joins-typed n o m r h g

  push_top-typed : (v : Value) (t : ℕ) (fs : List Frame) → Fits ks q v t → Frames p (Fits ks q) (t ∷ []) fs
      → Frames p (Fits ks q) [] (push_top v fs)
  unfolding push_top
  push_top-typed v t [] f h = absurd h.stack
  push_top-typed v t (g ∷ fs) f h = frames-pay h (cons f nil)

meeting-typed : (p outcomes ks : List ℕ) (k : ℕ) (s : State) → ConfigTyped p ks s.config → (e : Meeting)
    → MeetingTyped p ks s.config.qubits e → ConfigTyped p ks (meet_in (table_machine p outcomes) k s e).config
unfolding meet_in set_process
meeting-typed p outcomes ks k s t e (fit, sender, receiver) =
    let q = s.config.qubits in
    let things = things_of (e.value ∷ []) in
    let sent = frames-without p ks q things [] e.sender_frames sender in
    set_typed p ks _ (set_typed p ks s.config t e.sender (runs (frames_without things e.sender_frames)) sent)
    e.receiver (runs (push_top e.value e.receiver_frames))
    (push_top-typed p ks q e.value (get_or ks e.channel 0) e.receiver_frames fit receiver)

meeting_if-typed : (p outcomes ks : List ℕ) (k : ℕ) (s : State) → ConfigTyped p ks s.config → (o : Option Meeting)
    → Given (MeetingTyped p ks s.config.qubits) o
    → ConfigTyped p ks (meet_if_in (table_machine p outcomes) k s o).config
unfolding meet_if_in
meeting_if-typed p outcomes ks k s t none g = t
meeting_if-typed p outcomes ks k s t (some e) g = meeting-typed p outcomes ks k s t e g

-- Entries

faults≢idle : (f : ℕ) → ◌≢◌ {A = Act} (faults f) idle
faults≢idle f e = let z : ◌≡◌ {A = ℕ} 0 1 = cc in omega arith

offers≢idle : (o : Offer) → ◌≢◌ {A = Act} (offers o) idle
offers≢idle o e = subst Offers e tt
  where
    Offers : Act → Type 0
    Offers idle = ⊥
    Offers stuck = ⊥
    Offers (faults f) = ⊥
    Offers (goes fs es u) = ⊥
    Offers ends = ⊥
    Offers (makes t fs) = ⊥
    Offers (forks m args fs) = ⊥
    Offers (offers o) = Unit {0}

module _ (p : List ℕ) (k : Kept p) (outcomes : List ℕ) (bytes : All (λ o. o ≤ 2) outcomes)
    (s : State) (ks : List ℕ) (t : ConfigTyped p ks s.config) where
  meeting_of-typed : (n : ℕ) (o : Offer) → OfferTyped p ks s.config.qubits o
      → Given (MeetingTyped p ks s.config.qubits) (meeting_of p outcomes s n o)
  unfolding meeting_in
  meeting_of-typed n o h = first_some-given (MeetingTyped p ks q) _ with-other (length s.config.processes)
    where
      q : ℕ
      q = s.config.qubits

      with-other : (m : ℕ)
          → Given (MeetingTyped p ks q) (cond (eqb m n) none (meets_with n o m (offered (act_of p outcomes s m))))
      with-other m =
          let other = offered-typed p ks q _ (act_of p outcomes s m) (act-typed p k outcomes bytes s ks t m) in
          cond_both (Given (MeetingTyped p ks q)) (eqb m n) {x = none} tt (meets_with-typed p ks q n o m _ h other)

  fault-typed : (i n f : ℕ) → IsFault f → Frames p (Fits ks s.config.qubits) [] (process_at s.config n).frames
      → Typed p (applied p outcomes i s n (faults f)).config
  unfolding applied_in
  fault-typed i n f listed g = (ks, set_typed p ks s.config t n _ (listed, g))

  applied-typed : (i n : ℕ) (act : Act) → ActTyped p ks s.config.qubits (length s.config.processes) act
      → (act ≢ idle → Frames p (Fits ks s.config.qubits) [] (process_at s.config n).frames)
      → Typed p (applied p outcomes i s n act).config
  unfolding applied_in forking_in
  applied-typed i n idle h g = (ks, t)
  applied-typed i n stuck h g = absurd h
  applied-typed i n (faults f) h g = fault-typed i n f (inl h) (g (faults≢idle f))
  applied-typed i n (goes fs es u) h g = (ks, set_typed p ks s.config t n _ h)
  applied-typed i n ends h g = (ks, set_typed p ks s.config t n _ refl)
  applied-typed i n (makes u fs) h g = making-typed p ks s.config t n u fs h
  applied-typed i n (forks m args fs) h g = (ks, forking-typed p ks k s.config t n m args fs h)
  applied-typed i n (offers o) h g =
      (ks, meeting_if-typed p outcomes ks i s t (meeting_of p outcomes s n o) (meeting_of-typed n o h))

  pub effect-typed : (i n : ℕ) → Typed p (effect_of p outcomes i s n).config
  unfolding effect_in
  effect-typed i n =
      judged-keeps (λ act. Typed p (applied p outcomes i s n act).config) s n (act_of p outcomes s n)
      (applied-typed i n (act_of p outcomes s n) (act-typed p k outcomes bytes s ks t n) runs_on)
      (λ o e. fault-typed i n 33 (inr refl) (runs_on (λ w. offers≢idle o (sym e ∙ w))))
    where
      runs_on : act_of p outcomes s n ≢ idle
          → Frames p (Fits ks s.config.qubits) [] (process_at s.config n).frames
      runs_on = act-runs p k outcomes bytes s ks t n
