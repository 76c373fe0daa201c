-- One entry of the schedule: giving away, meeting, and what the named process's act does to the configuration and to
-- the trace. The rules are for any machine, that is for any type of frames with what a process would do there; the
-- machine of a program table stands at the end, and the names without `In` are its own.
use Rattle.std.specs.Prelude.{ℕ, suc, Bool, true, false, cond, ◌&&◌, ◌||◌, not, List, [], ◌∷◌, ◌++◌, map, length, eqb}
use Rattle.std.specs.Bool.{beq}
use Rattle.std.proofs.Math.Option.{Option, none, some}
use Rattle.lists.specs.Lists.{any, first_some}
use Rattle.machine.specs.Value.{Thing, qubit, channel, end, Value, empty, int, bool, ref, covers}
use Rattle.machine.specs.State.{Frame, running, finished, stopped, ProcessOf, ConfigOf, Line, StateOf, State, Event, process_at, is_over, set_process, started, push, made_qubit, made_channel, forked, gave, met, passed, finishes, stops, line_of}
use Rattle.machine.specs.Owner.{holder}
use Rattle.machine.specs.Act.{OfferOf, Offer, sends, receives, ActOf, Act, idle, stuck, faults, goes, ends, makes, forks, offers, act_of}

-- "Giving away": "Every slot and every pending value of the giver, in all frames, that holds the thing is emptied.
-- Giving an end also empties the channel, not the opposite end. Giving a channel empties channel and both ends."
unfoldable pub lost_with : Thing → Value → Bool
lost_with t empty = false
lost_with t (int z) = false
lost_with t (bool b) = false
lost_with t (ref u) = covers t u || covers u t

-- a value once all of ts are given away
unfoldable pub without : List Thing → Value → Value
without ts v = cond (any (λ t. lost_with t v) ts) empty v

unfoldable pub frame_without : List Thing → Frame → Frame
frame_without ts f = record {
  method = f.method;
  place = f.place;
  slots = map (without ts) f.slots;
  pending = map (without ts) f.pending;
}

unfoldable pub frames_without : List Thing → List Frame → List Frame
frames_without ts fs = map (frame_without ts) fs

-- the qubits, channels and ends among these values, in order, repeats included
unfoldable pub things_of : List Value → List Thing
things_of [] = []
things_of (empty ∷ vs) = things_of vs
things_of (int z ∷ vs) = things_of vs
things_of (bool b ∷ vs) = things_of vs
things_of (ref t ∷ vs) = t ∷ things_of vs

-- A machine: what 01's rules of entries leave to it.
pub record MachineOf (F : Type 0) : Type 0 where
  -- what process n would do
  pub act : StateOf F → ℕ → ActOf F
  -- the frame in which a method starts, with these arguments, first to last
  pub starts : ℕ → List Value → F
  -- a giver's frames once these things are given away
  pub loses : List Thing → List F → List F
  -- a receiver's frames once it has received this value
  pub gets : Value → List F → List F

-- A meeting: the sender's side of the channel, the value, and both processes' frames once their operands are off.
pub record MeetingOf (F : Type 0) : Type 0 where
  pub sender : ℕ
  pub receiver : ℕ
  pub channel : ℕ
  pub side : Bool
  pub value : Value
  pub sender_frames : List F
  pub receiver_frames : List F

-- "SEND waits unless another process stands at RECV with the opposite end as its operand, and RECV likewise": the
-- meeting of process n's offer with process q's
unfoldable pub joins : {F : Type 0} → ℕ → OfferOf F → ℕ → OfferOf F → Option (MeetingOf F)
joins n (sends c d v fs) q (sends c' d' w gs) = none
joins n (sends c d v fs) q (receives c' d' gs) =
    cond (eqb c c' && beq d (not d'))
    (some (record {
      sender = n;
      receiver = q;
      channel = c;
      side = d;
      value = v;
      sender_frames = fs;
      receiver_frames = gs;
    }))
    none
joins n (receives c d fs) q (sends c' d' w gs) =
    cond (eqb c c' && beq d (not d'))
    (some (record {
      sender = q;
      receiver = n;
      channel = c';
      side = d';
      value = w;
      sender_frames = gs;
      receiver_frames = fs;
    }))
    none
joins n (receives c d fs) q (receives c' d' gs) = none

unfoldable pub offered : {F : Type 0} → ActOf F → Option (OfferOf F)
offered idle = none
offered stuck = none
offered (faults f) = none
offered (goes fs es u) = none
offered ends = none
offered (makes t fs) = none
offered (forks m args fs) = none
offered (offers o) = some o

unfoldable pub meets_with : {F : Type 0} → ℕ → OfferOf F → ℕ → Option (OfferOf F) → Option (MeetingOf F)
meets_with n o q none = none
meets_with n o q (some r) = joins n o q r

-- the meeting of process n, which makes offer o, with another process, if one is ready
unfoldable pub meeting_in : {F : Type 0} → MachineOf F → StateOf F → ℕ → OfferOf F → Option (MeetingOf F)
meeting_in m s n o =
    first_some (λ q. cond (eqb q n) none (meets_with n o q (offered (m.act s q)))) (length s.config.processes)

-- the end opposite to the one that an offer is made on
abbrev pub opposite_end : {F : Type 0} → OfferOf F → Thing
opposite_end (sends c d v fs) = end c (not d)
opposite_end (receives c d fs) = end c (not d)

-- Paper 6, of process n, where h is the holder of the opposite end: "the opposite end's holder is itself, has finished
-- or has stopped"
unfoldable pub is_gone : {F : Type 0} → ConfigOf F → ℕ → Option ℕ → Bool
is_gone c n none = false
is_gone c n (some h) = eqb h n || is_over (process_at c h)

-- "The holder is read from the trace."
unfoldable pub gone : {F : Type 0} → StateOf F → ℕ → OfferOf F → Bool
gone s n o = is_gone s.config n (holder s.lines (opposite_end o))

-- What process n would do, a partner that has gone considered: "33 when a process stands at SEND or RECV with its
-- operands present and the opposite end's holder is itself, has finished or has stopped, judged after fault 20 and
-- before waiting".
unfoldable pub judged : {F : Type 0} → StateOf F → ℕ → ActOf F → ActOf F
judged s n idle = idle
judged s n stuck = stuck
judged s n (faults f) = faults f
judged s n (goes fs es u) = goes fs es u
judged s n ends = ends
judged s n (makes t fs) = makes t fs
judged s n (forks m args fs) = forks m args fs
judged s n (offers o) = cond (gone s n o) (faults 33) (offers o)

abbrev pub judged_in : {F : Type 0} → MachineOf F → StateOf F → ℕ → ActOf F
judged_in m s n = judged s n (m.act s n)

-- What an entry does: the configuration it leaves, how many outcomes it uses, and its lines.
pub record EffectOf (F : Type 0) : Type 0 where
  pub config : ConfigOf F
  pub used : ℕ
  pub lines : List Line

abbrev pub nothing : {F : Type 0} → StateOf F → EffectOf F
nothing s = record { config = s.config; used = 0; lines = [] }

-- process n in another state, with these lines
abbrev pub changes : {F : Type 0} → ℕ → StateOf F → ℕ → ProcessOf F → List Event → ℕ → EffectOf F
changes k s n pr es u = record { config = set_process s.config n pr; used = u; lines = map (line_of k n) es }

abbrev pub runs : {F : Type 0} → List F → ProcessOf F
runs fs = record { status = running; frames = fs }

-- the new thing is counted
unfoldable pub counted : {F : Type 0} → Thing → ConfigOf F → ConfigOf F
counted (qubit q) c = record { processes = c.processes; qubits = suc c.qubits; channels = c.channels }
counted (channel q) c = record { processes = c.processes; qubits = c.qubits; channels = suc c.channels }
counted (end q d) c = c

unfoldable pub making : Thing → Event
making (qubit q) = made_qubit q
making (channel q) = made_channel q
making (end q d) = made_channel q

-- one more process
unfoldable pub joined : {F : Type 0} → ConfigOf F → ProcessOf F → ConfigOf F
joined c pr = record { processes = c.processes ++ (pr ∷ []); qubits = c.qubits; channels = c.channels }

-- "FORK gives its qubit, channel and end arguments to the new process, all taken off first, so the child has every
-- one": a line of kind 5, then one of kind 6 for each thing given, in order
unfoldable pub forking_in : {F : Type 0} → MachineOf F → ℕ → StateOf F → ℕ → ℕ → List Value → List F → EffectOf F
forking_in machine k s n m args fs = record {
  config =
      joined (set_process s.config n (runs (machine.loses (things_of args) fs))) (runs (machine.starts m args ∷ []));
  used = 0;
  lines =
      map (line_of k n)
      (forked (length s.config.processes) m (length args)
      ∷ map (gave (length s.config.processes)) (things_of args));
}

-- what follows a meeting's line: a giving, or the value passed
unfoldable pub handing : ℕ → Value → List Event
handing to empty = passed empty ∷ []
handing to (int z) = passed (int z) ∷ []
handing to (bool b) = passed (bool b) ∷ []
handing to (ref t) = gave to t ∷ []

-- "When either is named, both move on together."
unfoldable pub meet_in : {F : Type 0} → MachineOf F → ℕ → StateOf F → MeetingOf F → EffectOf F
meet_in m k s e = record {
  config =
      set_process
      (set_process s.config e.sender (runs (m.loses (things_of (e.value ∷ [])) e.sender_frames)))
      e.receiver
      (runs (m.gets e.value e.receiver_frames));
  used = 0;
  lines = map (line_of k e.sender) (met e.receiver e.channel e.side ∷ handing e.receiver e.value);
}

unfoldable pub meet_if_in : {F : Type 0} → MachineOf F → ℕ → StateOf F → Option (MeetingOf F) → EffectOf F
meet_if_in m k s none = nothing s
meet_if_in m k s (some e) = meet_in m k s e

-- "Faults stop the process, which keeps all slots and pending values as they were before the entry, and use no
-- outcome"; "The root frame's RET finishes the process, which then reaches nothing."
unfoldable pub applied_in : {F : Type 0} → MachineOf F → ℕ → StateOf F → ℕ → ActOf F → EffectOf F
applied_in machine k s n idle = nothing s
applied_in machine k s n stuck = nothing s
applied_in machine k s n (faults f) =
    changes k s n (record { status = stopped f; frames = (process_at s.config n).frames }) (stops f ∷ []) 0
applied_in machine k s n (goes fs es u) = changes k s n (runs fs) es u
applied_in machine k s n ends = changes k s n (record { status = finished; frames = [] }) (finishes ∷ []) 0
applied_in machine k s n (makes t fs) = record {
  config = counted t (set_process s.config n (runs fs));
  used = 0;
  lines = line_of k n (making t) ∷ [];
}
applied_in machine k s n (forks m args fs) = forking_in machine k s n m args fs
applied_in machine k s n (offers o) = meet_if_in machine k s (meeting_in machine s n o)

-- what entry k does where the schedule's byte names process n
unfoldable pub effect_in : {F : Type 0} → MachineOf F → ℕ → StateOf F → ℕ → EffectOf F
effect_in m k s n = applied_in m k s n (judged_in m s n)

unfoldable pub faulted : {F : Type 0} → ActOf F → Option ℕ
faulted idle = none
faulted stuck = none
faulted (faults f) = some f
faulted (goes fs es u) = none
faulted ends = none
faulted (makes t fs) = none
faulted (forks m args fs) = none
faulted (offers o) = none

-- the fault by which process n would stop if it were named, none where it would not
unfoldable pub fault_in : {F : Type 0} → MachineOf F → StateOf F → ℕ → Option ℕ
fault_in m s n = faulted (judged_in m s n)

unfoldable pub is_meeting : {F : Type 0} → Option (MeetingOf F) → Bool
is_meeting none = false
is_meeting (some e) = true

-- "able to move (to step, meet or fault)"; Paper 6: "a process with this fault counts as able to move"
unfoldable pub moves_in : {F : Type 0} → MachineOf F → StateOf F → ℕ → ActOf F → Bool
moves_in machine s n idle = false
moves_in machine s n stuck = false
moves_in machine s n (faults f) = true
moves_in machine s n (goes fs es u) = true
moves_in machine s n ends = true
moves_in machine s n (makes t fs) = true
moves_in machine s n (forks m args fs) = true
moves_in machine s n (offers o) = is_meeting (meeting_in machine s n o)

unfoldable pub able_in : {F : Type 0} → MachineOf F → StateOf F → ℕ → Bool
able_in m s n = moves_in m s n (judged_in m s n)

-- The machine of a program table

-- the value on top of the top frame
unfoldable pub push_top : Value → List Frame → List Frame
push_top v [] = []
push_top v (f ∷ fs) = push v f ∷ fs

abbrev pub table_machine : List ℕ → List ℕ → MachineOf Frame
table_machine p outcomes =
    record { act = act_of p outcomes; starts = started p; loses = frames_without; gets = push_top }

abbrev pub Meeting : Type 0
Meeting = MeetingOf Frame

abbrev pub Effect : Type 0
Effect = EffectOf Frame

abbrev pub meeting_of : List ℕ → List ℕ → State → ℕ → Offer → Option Meeting
meeting_of p outcomes = meeting_in (table_machine p outcomes)

abbrev pub forking : List ℕ → List ℕ → ℕ → State → ℕ → ℕ → List Value → List Frame → Effect
forking p outcomes = forking_in (table_machine p outcomes)

abbrev pub applied : List ℕ → List ℕ → ℕ → State → ℕ → Act → Effect
applied p outcomes = applied_in (table_machine p outcomes)

abbrev pub effect_of : List ℕ → List ℕ → ℕ → State → ℕ → Effect
effect_of p outcomes = effect_in (table_machine p outcomes)

abbrev pub fault_of : List ℕ → List ℕ → State → ℕ → Option ℕ
fault_of p outcomes = fault_in (table_machine p outcomes)

abbrev pub moves : List ℕ → List ℕ → State → ℕ → Act → Bool
moves p outcomes = moves_in (table_machine p outcomes)

abbrev pub able : List ℕ → List ℕ → State → ℕ → Bool
able p outcomes = able_in (table_machine p outcomes)
