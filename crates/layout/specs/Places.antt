-- The places of the layout that a configuration uses, as the head of Layout.antt and docs/LAYOUT.md name them. That
-- every other word of it is 0 ("unused places 0") is proved in proofs/Unused.antt.
use Rattle.std.specs.Prelude.{ℕ, ◌+◌, ◌*◌, ◌<◌, ◌≡◌, false, [], reverse, get_or, length}
use Rattle.machine.specs.Value.{Value, empty, is_empty}
use Rattle.machine.specs.State.{Frame, stopped, Process, Config, process_at}

-- of a value's two words: its tag, and its number unless it is empty
pub data InValue (v : Value) : ℕ → Type 0 where
  tag : InValue v 0
  number : is_empty v ≡ false → InValue v 1

-- of a frame's 48 words: those of its slots, and those of its pending values, the lowest first
pub data InValues (f : Frame) : ℕ → Type 0 where
  slot : (s i : ℕ) → s < length f.slots → InValue (get_or f.slots s empty) i → InValues f (2 * s + i)
  pending : (d i : ℕ) → d < length f.pending → InValue (get_or (reverse f.pending) d empty) i
      → InValues f (32 + (2 * d + i))

abbrev pub no_frame : Frame
no_frame = record { method = 0; place = 0; slots = []; pending = [] }

-- frame f of a process, counted from the root
abbrev pub frame_at : Process → ℕ → Frame
frame_at pr f = get_or (reverse pr.frames) f no_frame

-- of a process's 512 words: its status, the fault if it has stopped, its number of frames; of the head of each frame
-- method, place and number of pending values; and the frame's values
pub data InPart (pr : Process) : ℕ → Type 0 where
  status : InPart pr 0
  fault : (n : ℕ) → pr.status ≡ stopped n → InPart pr 1
  depth : InPart pr 2
  head : (f i : ℕ) → f < length pr.frames → i < 3 → InPart pr (8 + (4 * f + i))
  values : (f i : ℕ) → f < length pr.frames → InValues (frame_at pr f) i → InPart pr (64 + (48 * f + i))

-- of a configuration's 8,192 words: the three counts, and the parts of the processes made
pub data InStore (c : Config) : ℕ → Type 0 where
  counts : (i : ℕ) → i < 3 → InStore c i
  part : (n i : ℕ) → n < length c.processes → InPart (process_at c n) i → InStore c (512 + (512 * n + i))
