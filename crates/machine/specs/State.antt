-- Frames, processes, the configuration, trace lines, and the state of a run.
use Rattle.std.specs.Prelude.{ℕ, ◌/◌, ◌%◌, Bool, true, false, List, [], ◌∷◌, ◌++◌, get_or, set, take, replicate}
use Rattle.table.specs.Table.{offset_of}
use Rattle.machine.specs.Value.{Thing, Value, empty, thing_kind, thing_no, value_word, side_no}

-- "each frame's method, place, slots and pending values". The place is the instruction that the frame stands at,
-- counted over the table. Pending values are listed from the top down.
pub record Frame : Type 0 where
  pub method : ℕ
  pub place : ℕ
  pub slots : List Value
  pub pending : List Value

-- "It is idle where that process has not started, has finished or stopped, or waits." Whether a process waits follows
-- from its place, its operands and the others, so waiting is no status of its own. A stopped process keeps its fault.
pub data Status : Type 0 where
  running : Status
  finished : Status
  stopped : ℕ → Status

-- A process's frames, the top frame first. Processes, configurations and states are for any type F of frames: 01's
-- rules of entries, meetings, faults and ends do not look into a frame. `Frame` is that of a program table.
pub record ProcessOf (F : Type 0) : Type 0 where
  pub status : Status
  pub frames : List F

-- The configuration: the processes made, and the counts of qubits and channels made. "A new process, qubit or channel
-- takes the count of those made before it as its number; no number is used again."
pub record ConfigOf (F : Type 0) : Type 0 where
  pub processes : List (ProcessOf F)
  pub qubits : ℕ
  pub channels : ℕ

-- A trace line: "Six 16-bit numbers: entry (from 0), process, kind, a, b, c; unused ones 65535."
pub record Line : Type 0 where
  pub entry : ℕ
  pub process : ℕ
  pub kind : ℕ
  pub a : ℕ
  pub b : ℕ
  pub c : ℕ

-- The state of a run: the configuration, how many outcomes are used, the lines so far.
pub record StateOf (F : Type 0) : Type 0 where
  pub config : ConfigOf F
  pub used : ℕ
  pub lines : List Line

-- those of program tables
abbrev pub Process : Type 0
Process = ProcessOf Frame

abbrev pub Config : Type 0
Config = ConfigOf Frame

abbrev pub State : Type 0
State = StateOf Frame

-- a number that no process has stands for a process that has not started
abbrev pub unmade : {F : Type 0} → ProcessOf F
unmade = record { status = finished; frames = [] }

unfoldable pub process_at : {F : Type 0} → ConfigOf F → ℕ → ProcessOf F
process_at c n = get_or c.processes n unmade

-- the process has finished or stopped
abbrev pub is_over : {F : Type 0} → ProcessOf F → Bool
is_over pr = over pr.status
  where
    over : Status → Bool
    over running = false
    over finished = true
    over (stopped f) = true

-- the configuration with process n's state changed
unfoldable pub set_process : {F : Type 0} → ConfigOf F → ℕ → ProcessOf F → ConfigOf F
set_process c n pr = record { processes = set c.processes n pr; qubits = c.qubits; channels = c.channels }

-- "CALL starts a frame with the arguments in its first slots, the others empty"; the arguments are listed first to last
unfoldable pub started : List ℕ → ℕ → List Value → Frame
started p m args =
    record { method = m; place = offset_of p m; slots = take 16 (args ++ replicate 16 empty); pending = [] }

-- "A run starts with process 0 at main's first instruction, its slots empty, nothing pending, nothing else made, no
-- line written and no outcome used": f is the frame of main
unfoldable pub start_config_with : {F : Type 0} → F → ConfigOf F
start_config_with f = record { processes = record { status = running; frames = f ∷ [] } ∷ []; qubits = 0; channels = 0 }

unfoldable pub start_with : {F : Type 0} → F → StateOf F
start_with f = record { config = start_config_with f; used = 0; lines = [] }

abbrev pub start_config : List ℕ → Config
start_config p = start_config_with (started p 0 [])

abbrev pub start : List ℕ → State
start p = start_with (started p 0 [])

-- A frame with one part changed.
abbrev pub at_place : ℕ → Frame → Frame
at_place i f = record { method = f.method; place = i; slots = f.slots; pending = f.pending }

abbrev pub with_pending : List Value → Frame → Frame
with_pending vs f = record { method = f.method; place = f.place; slots = f.slots; pending = vs }

abbrev pub with_slot : ℕ → Value → Frame → Frame
with_slot s v f = record { method = f.method; place = f.place; slots = set f.slots s v; pending = f.pending }

abbrev pub push : Value → Frame → Frame
push v f = with_pending (v ∷ f.pending) f

-- "Trace lines": what a line says after its entry and process, one definition for each kind.
pub record Event : Type 0 where
  pub kind : ℕ
  pub a : ℕ
  pub b : ℕ
  pub c : ℕ

abbrev pub unused : ℕ
unused = 65535

-- "1 qubit made a. 2 channel made a."; the ends of a channel are made with it
abbrev pub made_qubit : ℕ → Event
made_qubit n = record { kind = 1; a = n; b = unused; c = unused }

abbrev pub made_channel : ℕ → Event
made_channel n = record { kind = 2; a = n; b = unused; c = unused }

-- "3 gate a on qubit b (and c; b is the deeper and CX's control)"
abbrev pub gated_one : ℕ → ℕ → Event
gated_one g q = record { kind = 3; a = g; b = q; c = unused }

abbrev pub gated_two : ℕ → ℕ → ℕ → Event
gated_two g deeper q = record { kind = 3; a = g; b = deeper; c = q }

-- "4 qubit a measured b"
abbrev pub measured : ℕ → ℕ → Event
measured q outcome = record { kind = 4; a = q; b = outcome; c = unused }

-- "5 fork: child a, method b, P in c; then a kind 6 line for each argument given, in order"
abbrev pub forked : ℕ → ℕ → ℕ → Event
forked child m params = record { kind = 5; a = child; b = m; c = params }

-- "6 gave to process a a thing b (3 qubit, 4 channel, 5 end 0, 6 end 1) of number c"
abbrev pub gave : ℕ → Thing → Event
gave to t = record { kind = 6; a = to; b = thing_kind t; c = thing_no t }

-- "7 met, process the sender: receiver a, channel b, sender's side c; then a 6 line, or 8"
abbrev pub met : ℕ → ℕ → Bool → Event
met receiver n side = record { kind = 7; a = receiver; b = n; c = side_no side }

-- "8: the value's low and high 16 bits (two's complement; boolean 0 or 1)"
abbrev pub passed : Value → Event
passed v = record { kind = 8; a = value_word v % 65536; b = value_word v / 65536; c = unused }

-- "9 finished. 10 stopped by fault a."
abbrev pub finishes : Event
finishes = record { kind = 9; a = unused; b = unused; c = unused }

abbrev pub stops : ℕ → Event
stops fault = record { kind = 10; a = fault; b = unused; c = unused }

-- the line of an event at entry k by process n
abbrev pub line_of : ℕ → ℕ → Event → Line
line_of k n e = record { entry = k; process = n; kind = e.kind; a = e.a; b = e.b; c = e.c }
