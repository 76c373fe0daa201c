-- The typing of values, frames, processes and configurations that every run of an accepted table keeps.
--
-- A channel's type says what it carries; ks lists that for the channels made, in order. A frame's pending values have
-- the types that the reading finds before its place, less the types `owed`: those that something on its way, a return
-- or a received value, will push.
use Prim.Native.Nat.{ℕ, suc, ◌+◌, ◌≤◌, ◌<◌}
use native.Mathlib.Omega.{arith}
use mathlib.Core.Path.{◌≡◌, subst}
use mathlib.Core.List.{List, [], ◌∷◌, ◌++◌}
use lib.ListN.{get_or, length, take, replicate, length-append, get_or-append}
use lib.Dec.{T}
use Rattle.lists.specs.Lists.{All}
use Rattle.lists.proofs.Any.{All-implies}
use Rattle.lists.proofs.Each.{Both, nil, both-set, both-append, both-pad, both-implies}
use Rattle.table.specs.Table.{methods, return_of, params_of, slot_types, param_types}
use Rattle.table.specs.Ops.{returned}
use Rattle.table.specs.Reading.{before}
use Rattle.table.proofs.Accepted.{Kept}
use Rattle.table.proofs.Methods.{Inside, inside-offset, slot_types-length}
use Rattle.table.proofs.Before.{before-offset}
use Rattle.machine.specs.Value.{Thing, qubit, channel, end, Value, empty, int, bool, ref, in_range}
use Rattle.machine.specs.Sound.{IsFault}
use Rattle.machine.specs.State.{Frame, Status, running, finished, stopped, Process, Config, started, with_pending, with_slot}

-- Values

-- the thing was made, and a reference to it has type t
abbrev pub ThingFits : List ℕ → ℕ → Thing → ℕ → Type 0
ThingFits ks q (qubit n) t = (t ≡ 3) × (n < q)
ThingFits ks q (channel n) t = (t ≡ 16 + get_or ks n 0) × (n < length ks) × (get_or ks n 0 ≤ 3)
ThingFits ks q (end n s) t = (t ≡ 32 + get_or ks n 0) × (n < length ks) × (get_or ks n 0 ≤ 3)

-- the value may stand where type t is expected; q qubits are made
abbrev pub Fits : List ℕ → ℕ → Value → ℕ → Type 0
Fits ks q empty t = Unit {0}
Fits ks q (int z) t = (t ≡ 1) × T (in_range z)
Fits ks q (bool b) t = t ≡ 2
Fits ks q (ref u) t = ThingFits ks q u t

thing-more-qubits : (ks : List ℕ) (q : ℕ) (u : Thing) (t : ℕ) → ThingFits ks q u t → ThingFits ks (suc q) u t
thing-more-qubits ks q (qubit n) t h = (h.0, omega arith)
thing-more-qubits ks q (channel n) t h = h
thing-more-qubits ks q (end n s) t h = h

pub fits-more-qubits : (ks : List ℕ) (q : ℕ) (v : Value) (t : ℕ) → Fits ks q v t → Fits ks (suc q) v t
fits-more-qubits ks q empty t h = tt
fits-more-qubits ks q (int z) t h = h
fits-more-qubits ks q (bool b) t h = h
fits-more-qubits ks q (ref u) t h = thing-more-qubits ks q u t h

thing-more-channels : (ks : List ℕ) (k q : ℕ) (u : Thing) (t : ℕ) → ThingFits ks q u t
    → ThingFits (ks ++ (k ∷ [])) q u t
thing-more-channels ks k q (qubit n) t h = h
thing-more-channels ks k q (channel n) t h =
    rw (get_or-append ks (k ∷ []) 0 n h.1, length-append) (h.0, omega arith, h.2)
thing-more-channels ks k q (end n s) t h =
    rw (get_or-append ks (k ∷ []) 0 n h.1, length-append) (h.0, omega arith, h.2)

pub fits-more-channels : (ks : List ℕ) (k q : ℕ) (v : Value) (t : ℕ) → Fits ks q v t → Fits (ks ++ (k ∷ [])) q v t
fits-more-channels ks k q empty t h = tt
fits-more-channels ks k q (int z) t h = h
fits-more-channels ks k q (bool b) t h = h
fits-more-channels ks k q (ref u) t h = thing-more-channels ks k q u t h

-- Frames

-- a frame that is owed these types; R says which value may stand where a type is expected
pub record FrameTyped (p : List ℕ) (R : Value → ℕ → Type 0) (owed : List ℕ) (f : Frame) : Type 0 where
  pub place : Inside p f.method f.place
  pub slots : Both R f.slots (slot_types p f.method)
  pub types : List ℕ
  pub stands : before p f.place ≡ owed ++ types
  pub pending : Both R f.pending types

-- the frames below one of method m: each is owed what the one above it returns
abbrev pub Callers : List ℕ → (Value → ℕ → Type 0) → ℕ → List Frame → Type 0
Callers p R m [] = Unit {0}
Callers p R m (f ∷ fs) = FrameTyped p R (returned (return_of p m)) f × Callers p R f.method fs

abbrev pub Stack : List ℕ → (Value → ℕ → Type 0) → List ℕ → List Frame → Type 0
Stack p R owed [] = ⊥
Stack p R owed (f ∷ fs) = FrameTyped p R owed f × Callers p R f.method fs

-- the frames of a process, the one at work owed these types
pub record Frames (p : List ℕ) (R : Value → ℕ → Type 0) (owed : List ℕ) (fs : List Frame) : Type 0 where
  pub stack : Stack p R owed fs
  pub depth : length fs ≤ 8

-- a frame gets what it is owed
frame-pay : {p : List ℕ} {R : Value → ℕ → Type 0} {owed : List ℕ} {f : Frame} {vs : List Value}
    → FrameTyped p R owed f → Both R vs owed → FrameTyped p R [] (with_pending (vs ++ f.pending) f)
frame-pay {owed} h b = record {
  place = h.place;
  slots = h.slots;
  types = owed ++ h.types;
  stands = h.stands;
  pending = both-append b h.pending;
}

pub frames-pay : {p : List ℕ} {R : Value → ℕ → Type 0} {owed : List ℕ} {f : Frame} {fs : List Frame} {vs : List Value}
    → Frames p R owed (f ∷ fs) → Both R vs owed → Frames p R [] (with_pending (vs ++ f.pending) f ∷ fs)
frames-pay h b = record { stack = (frame-pay h.stack.0 b, h.stack.1); depth = h.depth }

-- a slot of the top frame gets a value that fits
pub frames-slot :
    {p : List ℕ} {R : Value → ℕ → Type 0} {owed : List ℕ} {f : Frame} {fs : List Frame} {v : Value} (s : ℕ)
    → Frames p R owed (f ∷ fs) → R v (get_or (slot_types p f.method) s 0) → Frames p R owed (with_slot s v f ∷ fs)
frames-slot s h r =
    let top = h.stack.0 in
    record {
      stack = (
        record {
          place = top.place;
          slots = both-set s 0 top.slots r;
          types = top.types;
          stands = top.stands;
          pending = top.pending;
        },
        h.stack.1,
      );
      depth = h.depth;
    }

-- a method starts with arguments that fit and every other slot empty, which fits any type
pub started-typed : (p : List ℕ) (k : Kept p) {R : Value → ℕ → Type 0} → ((t : ℕ) → R empty t)
    → (m : ℕ) (args : List Value) → m < methods p → Both R args (param_types p m) → FrameTyped p R [] (started p m args)
unfolding started param_types
started-typed p k {R} d m args h b =
    let sixteen = slot_types-length p k m h in
    record {
      place = inside-offset p k m h;
      slots =
          subst (λ n. Both R (take n (args ++ replicate 16 empty)) (slot_types p m)) sixteen
          (both-pad empty d (params_of p m) 16 args (slot_types p m) (omega arith) b);
      types = [];
      stands = before-offset p k m h;
      pending = nil;
    }

-- what fits by R fits by S
module _ (p : List ℕ) {R S : Value → ℕ → Type 0} where
  frame-implies : ((v : Value) (t : ℕ) → R v t → S v t) → {owed : List ℕ} {f : Frame}
      → FrameTyped p R owed f → FrameTyped p S owed f
  frame-implies g h = record {
    place = h.place;
    slots = both-implies g h.slots;
    types = h.types;
    stands = h.stands;
    pending = both-implies g h.pending;
  }

  callers-implies : ((v : Value) (t : ℕ) → R v t → S v t) → (m : ℕ) (fs : List Frame) → Callers p R m fs
      → Callers p S m fs
  callers-implies g m [] h = tt
  callers-implies g m (f ∷ fs) h = (frame-implies g h.0, callers-implies g f.method fs h.1)

  pub frames-implies : ((v : Value) (t : ℕ) → R v t → S v t) → {owed : List ℕ} (fs : List Frame)
      → Frames p R owed fs → Frames p S owed fs
  frames-implies g [] h = absurd h.stack
  frames-implies g (f ∷ fs) h =
      record {
        stack = (frame-implies g h.stack.0, callers-implies g f.method fs h.stack.1);
        depth = h.depth;
      }

-- Processes

abbrev pub StatusTyped : List ℕ → (Value → ℕ → Type 0) → Status → List Frame → Type 0
StatusTyped p R running fs = Frames p R [] fs
StatusTyped p R finished fs = fs ≡ []
StatusTyped p R (stopped n) fs = IsFault n × Frames p R [] fs

abbrev pub ProcessTyped : List ℕ → (Value → ℕ → Type 0) → Process → Type 0
ProcessTyped p R pr = StatusTyped p R pr.status pr.frames

status-implies : (p : List ℕ) {R S : Value → ℕ → Type 0} → ((v : Value) (t : ℕ) → R v t → S v t)
    → (st : Status) (fs : List Frame) → StatusTyped p R st fs → StatusTyped p S st fs
status-implies p g running fs h = frames-implies p g fs h
status-implies p g finished fs h = h
status-implies p g (stopped n) fs h = (h.0, frames-implies p g fs h.1)

pub processes-imply : (p : List ℕ) {R S : Value → ℕ → Type 0} → ((v : Value) (t : ℕ) → R v t → S v t)
    → (prs : List Process) → All (ProcessTyped p R) prs → All (ProcessTyped p S) prs
processes-imply p {R} {S} g =
    All-implies (ProcessTyped p R) (ProcessTyped p S) (λ pr. status-implies p g pr.status pr.frames)

-- Configurations

pub record ConfigTyped (p ks : List ℕ) (c : Config) : Type 0 where
  pub channels : length ks ≡ c.channels
  pub channel_count : c.channels ≤ 16
  pub qubit_count : c.qubits ≤ 32
  pub process_count : length c.processes ≤ 8
  pub processes : All (ProcessTyped p (Fits ks c.qubits)) c.processes

-- typed, whatever its channels carry
abbrev pub Typed : List ℕ → Config → Type 0
Typed p c = (ks : List ℕ) × ConfigTyped p ks c
