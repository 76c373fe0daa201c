-- Two machines that run alike. Their frames may be of two types: R says which frame of the one stands for which frame
-- of the other. `Simulates` is what is asked of one act of a process; that the two machines then answer every schedule
-- with the same run is proved in proofs/Simulation.antt. For Paper 1, where one machine is a program table's and the
-- other a text's.
use Rattle.std.specs.Prelude.{ℕ, ◌≡◌, Bool, List, [], ◌∷◌}
use Rattle.machine.specs.Value.{Thing, Value}
use Rattle.machine.specs.State.{ProcessOf, ConfigOf, StateOf, Event}
use Rattle.machine.specs.Act.{OfferOf, sends, receives, ActOf, idle, stuck, faults, goes, ends, makes, forks, offers}
use Rattle.machine.specs.Entry.{MachineOf}
use Rattle.machine.specs.Run.{ResultOf}

-- two lists are equally long, and R relates their elements one by one
pub data OneByOne {A B : Type 0} (R : A → B → Type 0) : List A → List B → Type 0 where
  no_more : OneByOne R [] []
  one_more : {x : A} {y : B} {xs : List A} {ys : List B} → R x y → OneByOne R xs ys → OneByOne R (x ∷ xs) (y ∷ ys)

-- the frames of a process of the one machine, and those of the other
abbrev pub FramesLike : {F G : Type 0} → (F → G → Type 0) → List F → List G → Type 0
FramesLike R = OneByOne R

-- offers on the same channel and side, with the same value
pub data OfferLike {F G : Type 0} (R : F → G → Type 0) : OfferOf F → OfferOf G → Type 0 where
  both_send : (c : ℕ) (d : Bool) (v : Value) {fs : List F} {gs : List G} → FramesLike R fs gs
      → OfferLike R (sends c d v fs) (sends c d v gs)
  both-receive : (c : ℕ) (d : Bool) {fs : List F} {gs : List G} → FramesLike R fs gs
      → OfferLike R (receives c d fs) (receives c d gs)

-- acts of one kind: the same fault, lines, number of outcomes, thing made, method and arguments, and frames that are
-- related; for a fork the frame in which the new process starts, too
pub data ActLike {F G : Type 0} (M : MachineOf F) (N : MachineOf G) (R : F → G → Type 0)
    : ActOf F → ActOf G → Type 0 where
  both-idle : ActLike M N R idle idle
  both-stuck : ActLike M N R stuck stuck
  both-fault : (f : ℕ) → ActLike M N R (faults f) (faults f)
  both_go : (es : List Event) (u : ℕ) {fs : List F} {gs : List G} → FramesLike R fs gs
      → ActLike M N R (goes fs es u) (goes gs es u)
  both_end : ActLike M N R ends ends
  both-make : (t : Thing) {fs : List F} {gs : List G} → FramesLike R fs gs → ActLike M N R (makes t fs) (makes t gs)
  both-fork : (m : ℕ) (args : List Value) {fs : List F} {gs : List G} → FramesLike R fs gs
      → R (M.starts m args) (N.starts m args)
      → ActLike M N R (forks m args fs) (forks m args gs)
  both-offer : {o : OfferOf F} {r : OfferOf G} → OfferLike R o r → ActLike M N R (offers o) (offers r)

-- Processes, configurations and states that differ in their frames alone, and these are related.
pub record ProcessLike {F G : Type 0} (R : F → G → Type 0) (p : ProcessOf F) (q : ProcessOf G) : Type 0 where
  pub status : p.status ≡ q.status
  pub frames : FramesLike R p.frames q.frames

pub record ConfigLike {F G : Type 0} (R : F → G → Type 0) (c : ConfigOf F) (c' : ConfigOf G) : Type 0 where
  pub processes : OneByOne (ProcessLike R) c.processes c'.processes
  pub qubits : c.qubits ≡ c'.qubits
  pub channels : c.channels ≡ c'.channels

pub record StateLike {F G : Type 0} (R : F → G → Type 0) (s : StateOf F) (s' : StateOf G) : Type 0 where
  pub config : ConfigLike R s.config s'.config
  pub used : s.used ≡ s'.used
  pub lines : s.lines ≡ s'.lines

-- What is asked of the two machines: in states alike every process would do alike, frames that are related stay so
-- when things are given away and when a value is received, and both runs start in frames that are related.
pub record Simulates {F G : Type 0} (M : MachineOf F) (N : MachineOf G) (R : F → G → Type 0) : Type 0 where
  pub acts : (s : StateOf F) (s' : StateOf G) (n : ℕ) → StateLike R s s' → ActLike M N R (M.act s n) (N.act s' n)
  pub loses : (ts : List Thing) {fs : List F} {gs : List G} → FramesLike R fs gs
      → FramesLike R (M.loses ts fs) (N.loses ts gs)
  pub gets : (v : Value) {fs : List F} {gs : List G} → FramesLike R fs gs
      → FramesLike R (M.gets v fs) (N.gets v gs)
  pub root : R (M.starts 0 []) (N.starts 0 [])

-- What follows for two runs from states alike: the same end, as many entries, and states alike again.
pub record ResultLike {F G : Type 0} (R : F → G → Type 0) (r : ResultOf F) (q : ResultOf G) : Type 0 where
  pub end : r.end ≡ q.end
  pub entries : r.entries ≡ q.entries
  pub state : StateLike R r.state q.state

-- What follows for two runs from their starts, without a word on frames: the answer and the lines are equal.
pub record SameRun {F G : Type 0} (r : ResultOf F) (q : ResultOf G) : Type 0 where
  pub end : r.end ≡ q.end
  pub entries : r.entries ≡ q.entries
  pub used : r.state.used ≡ q.state.used
  pub lines : r.state.lines ≡ q.state.lines
