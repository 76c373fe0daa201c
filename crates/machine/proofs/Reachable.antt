-- What is known of a state that a run comes to, and of a process and its frames in it.
use Prim.Native.Nat.{ℕ, ◌≤◌, ◌<◌}
use mathlib.Core.Path.{◌≡◌}
use mathlib.Core.List.{List, ◌∷◌}
use lib.ListN.{length}
use Rattle.lists.specs.Lists.{All}
use Rattle.table.specs.Table.{arg_at}
use Rattle.table.proofs.Accepted.{Kept}
use Rattle.machine.specs.State.{Frame, Config, State, process_at}
use Rattle.machine.specs.Entry.{runs}
use Rattle.machine.specs.Sound.{FrameSound}
use Rattle.machine.proofs.Typing.{ConfigTyped}

-- The table was accepted, and the configuration keeps its types: arguments are 16-bit words and outcomes bytes; `kinds`
-- says what each channel carries.
pub record Reachable (p outcomes : List ℕ) (s : State) : Type 0 where
  pub kept : Kept p
  pub narrow : (i : ℕ) → arg_at p i < 65536
  pub bytes : All (λ o. o ≤ 2) outcomes
  pub kinds : List ℕ
  pub typed : ConfigTyped p kinds s.config

-- Frame f above the frames fs: all of them keep to the limits.
pub record Stack (p : List ℕ) (c : Config) (f : Frame) (fs : List Frame) : Type 0 where
  pub kept : Kept p
  pub sound : All (FrameSound p c) (f ∷ fs)
  pub deep : length fs < 8

abbrev pub stacked : {p : List ℕ} {c : Config} {f : Frame} {fs : List Frame} → Kept p → All (FrameSound p c) (f ∷ fs)
    → length fs < 8 → Stack p c f fs
stacked kept sound deep = record { kept = kept; sound = sound; deep = deep }

-- The same where f is the top frame: it stands at an instruction whose argument is a 16-bit word.
pub record AtWork (p : List ℕ) (c : Config) (f : Frame) (fs : List Frame) : Type 0 where
  pub stack : Stack p c f fs
  pub small : arg_at p f.place < 65536

abbrev pub busy-at : {p outcomes : List ℕ} {s : State} → Reachable p outcomes s → {f : Frame} {fs : List Frame}
    → All (FrameSound p s.config) (f ∷ fs)
    → length fs < 8 → AtWork p s.config f fs
busy-at r {f} sound deep = record { stack = stacked r.kept sound deep; small = r.narrow f.place }

-- Process n is made and runs, with frame f at work above fs.
pub record Running (p : List ℕ) (c : Config) (n : ℕ) (f : Frame) (fs : List Frame) : Type 0 where
  pub made : n < length c.processes
  pub busy : AtWork p c f fs
  pub stands : process_at c n ≡ runs (f ∷ fs)
