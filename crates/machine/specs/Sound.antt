-- What soundness says of a state: no process meets a case that 01's rules leave out, and everything stays within the
-- limits. That every run of a table that passes questions 1 to 5 keeps to it is proved in proofs/Sound.antt. So a
-- fault 20 means that a value is empty, and nothing else.
use Rattle.std.specs.Prelude.{ℕ, ◌≤◌, ◌<◌, ◌≡◌, ◌≢◌, ◌⊎◌, List, [], length, T}
use Rattle.lists.specs.Lists.{All}
use Rattle.table.specs.Table.{methods, offset_of, end_of}
use Rattle.machine.specs.Value.{Thing, qubit, channel, end, Value, empty, int, bool, ref, in_range}
use Rattle.machine.specs.State.{Frame, Status, running, finished, stopped, Process, Config, State}
use Rattle.machine.specs.Act.{stuck, act_of}

-- the thing was made
abbrev pub Made : Config → Thing → Type 0
Made c (qubit n) = n < c.qubits
Made c (channel n) = n < c.channels
Made c (end n s) = n < c.channels

abbrev pub ValueSound : Config → Value → Type 0
ValueSound c empty = Unit {0}
ValueSound c (int z) = T (in_range z)
ValueSound c (bool b) = Unit {0}
ValueSound c (ref t) = Made c t

-- the frame stands at an instruction of its own method, and has 16 slots and at most 8 pending values
pub record FrameSound (p : List ℕ) (c : Config) (f : Frame) : Type 0 where
  pub method : f.method < methods p
  pub from-offset : offset_of p f.method ≤ f.place
  pub inside : f.place < end_of p f.method
  pub width : length f.slots ≡ 16
  pub height : length f.pending ≤ 8
  pub slots : All (ValueSound c) f.slots
  pub pending : All (ValueSound c) f.pending

-- the faults by which a process stops: those of document 01, and Paper 6's
abbrev pub IsFault : ℕ → Type 0
IsFault n = ((20 ≤ n) × (n ≤ 27)) ⊎ (n ≡ 33)

-- a finished process has no frames, any other has some; a process stops by a fault that the papers list
abbrev pub StatusSound : Status → List Frame → Type 0
StatusSound running fs = 0 < length fs
StatusSound finished fs = fs ≡ []
StatusSound (stopped n) fs = IsFault n × (0 < length fs)

pub record ProcessSound (p : List ℕ) (c : Config) (pr : Process) : Type 0 where
  pub status : StatusSound pr.status pr.frames
  pub depth : length pr.frames ≤ 8
  pub frames : All (FrameSound p c) pr.frames

pub record ConfigSound (p : List ℕ) (c : Config) : Type 0 where
  pub process_count : length c.processes ≤ 8
  pub qubit_count : c.qubits ≤ 32
  pub channel_count : c.channels ≤ 16
  pub processes : All (ProcessSound p c) c.processes

pub record Sound (p : List ℕ) (outcomes : List ℕ) (s : State) : Type 0 where
  pub config : ConfigSound p s.config
  -- no operand of the wrong kind, none missing, no place outside its method, no unlisted op
  pub going : (n : ℕ) → act_of p outcomes s n ≢ stuck
