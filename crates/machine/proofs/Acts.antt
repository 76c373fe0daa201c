-- Typed acts, and what is asked of each op: wherever an instruction stands ready by its rule of types, what it does is
-- not stuck and leaves typed frames. That every op does so is proved in Doings.antt.
use Prim.Native.Nat.{ℕ, suc, ◌+◌, ◌≤◌, ◌<◌}
use mathlib.Core.Bool.{false, ◌&&◌, not}
use mathlib.Core.Path.{◌≡◌}
use mathlib.Core.List.{List, [], ◌∷◌, ◌++◌}
use mathlib.Core.Option.{some}
use lib.ListN.{get_or, length}
use lib.Dec.{T}
use Rattle.lists.specs.Lists.{All}
use Rattle.lists.proofs.Each.{Both}
use Rattle.table.specs.Table.{methods, offset_of, length_of, param_types}
use Rattle.table.specs.Ops.{Op}
use Rattle.table.proofs.Accepted.{Kept}
use Rattle.machine.specs.Value.{Thing, qubit, channel, end, Value, is_empty}
use Rattle.machine.specs.State.{Frame, at_place}
use Rattle.machine.specs.Act.{Offer, sends, receives, Act, idle, stuck, faults, goes, ends, makes, forks, offers, At}
use Rattle.machine.proofs.Typing.{Fits, Callers, Frames}

-- Acts. ks says what the channels made carry; q qubits and n processes are made.

-- an offer on channel c sends or receives what c carries
abbrev pub OfferTyped : List ℕ → List ℕ → ℕ → Offer → Type 0
OfferTyped p ks q (sends c d v fs) = Fits ks q v (get_or ks c 0) × Frames p (Fits ks q) [] fs
OfferTyped p ks q (receives c d fs) = Frames p (Fits ks q) (get_or ks c 0 ∷ []) fs

-- the frames that go on are typed once the thing is counted
abbrev pub MakingTyped : List ℕ → List ℕ → ℕ → Thing → List Frame → Type 0
MakingTyped p ks q (qubit i) fs = (q < 32) × Frames p (Fits ks (suc q)) [] fs
MakingTyped p ks q (channel i) fs = (length ks < 16) × ((k : ℕ) × Frames p (Fits (ks ++ (k ∷ [])) q) [] fs)
MakingTyped p ks q (end i s) fs = ⊥

abbrev pub ActTyped : List ℕ → List ℕ → ℕ → ℕ → Act → Type 0
ActTyped p ks q n idle = Unit {0}
ActTyped p ks q n stuck = ⊥
ActTyped p ks q n (faults f) = (20 ≤ f) × (f ≤ 27)
ActTyped p ks q n (goes fs es u) = Frames p (Fits ks q) [] fs
ActTyped p ks q n ends = Unit {0}
ActTyped p ks q n (makes t fs) = MakingTyped p ks q t fs
ActTyped p ks q n (forks m args fs) =
    (n < 8) × (m < methods p) × Both (Fits ks q) args (param_types p m) × Frames p (Fits ks q) [] fs
ActTyped p ks q n (offers o) = OfferTyped p ks q o

-- What an op is asked

-- the value is there, and fits
abbrev pub Full : List ℕ → ℕ → Value → ℕ → Type 0
Full ks q v t = T (not (is_empty v)) × Fits ks q v t

-- An instruction of this op stands ready: its argument and its rule of types are kept, and its operands are there.
pub record Ready (op : Op) (ks : List ℕ) (a : At) : Type 0 where
  pub kept : Kept a.program
  pub outcomes : All (λ o. o ≤ 2) a.outcomes
  pub channels : length ks ≡ a.channels
  pub argument : T (op.argument a.program a.frame.method a.argument)
  -- the types of the operands, and those that the instruction gives
  pub taken : List ℕ
  pub given : List ℕ
  pub rule : op.gives a.program a.frame.method a.argument taken ≡ some given
  pub operands : Both (Full ks a.qubits) a.operands taken
  -- after the instruction the frame is owed what the instruction gives, at a jump's target nothing
  pub next : op.closes ≡ false → Frames a.program (Fits ks a.qubits) given (a.frame ∷ a.callers)
  pub target : T (op.jumps && op.bare) → a.argument < length_of a.program a.frame.method
      → Frames a.program (Fits ks a.qubits) []
      (at_place (offset_of a.program a.frame.method + a.argument) a.frame ∷ a.callers)
  pub callers : Callers a.program (Fits ks a.qubits) a.frame.method a.callers
  pub depth : length a.callers < 8

-- an act of the instruction at a is typed
abbrev pub TypedAt : List ℕ → At → Act → Type 0
TypedAt ks a = ActTyped a.program ks a.qubits a.processes

abbrev pub DoingSound : Op → (At → Act) → Type 0
DoingSound op doing = (ks : List ℕ) (a : At) → Ready op ks a → TypedAt ks a (doing a)
