-- In states alike an entry does alike: it leaves configurations alike, uses as many outcomes and writes the same lines.
use Prim.Native.Nat.{ℕ, suc, ◌+◌}
use mathlib.Core.Path.{◌≡◌, refl, ap, ap₂}
use mathlib.Core.List.{List, [], ◌∷◌, ◌++◌, map}
use mathlib.Core.Option.{Option}
use lib.ListN.{length}
use lib.Dec.{leb}
use Rattle.machine.specs.Value.{Thing, qubit, channel, end, Value}
use Rattle.machine.specs.State.{ProcessOf, ConfigOf, StateOf, set_process, line_of, forked, gave}
use Rattle.machine.specs.Act.{ActOf}
use Rattle.machine.specs.Entry.{MachineOf, MeetingOf, EffectOf, things_of, runs, counted, joined, forking_in, meet_in, meet_if_in, applied_in, effect_in}
use Rattle.machine.specs.Run.{fits, after_effect}
use Rattle.simulation.specs.Simulation.{no_more, one_more, FramesLike, ActLike, both-idle, both-stuck, both-fault, both_go, both_end, both-make, both-fork, both-offer, ProcessLike, ConfigLike, StateLike, Simulates}
use Rattle.simulation.proofs.OneByOne.{one_set, one-append, BothOrNone, neither, given}
use Rattle.simulation.proofs.Acts.{MeetingLike, both_meet, process-alike, count-alike, judged-alike, meeting-alike}

-- what two entries do, the same but for the frames
pub record EffectLike {F G : Type 0} (R : F → G → Type 0) (e : EffectOf F) (e' : EffectOf G) : Type 0 where
  pub config : ConfigLike R e.config e'.config
  pub used : e.used ≡ e'.used
  pub lines : e.lines ≡ e'.lines

module _ {F G : Type 0} {R : F → G → Type 0} where
  runs-alike : {fs : List F} {gs : List G} → FramesLike R fs gs → ProcessLike R (runs fs) (runs gs)
  runs-alike h = record { status = refl; frames = h }

  set-alike : {c : ConfigOf F} {c' : ConfigOf G} → ConfigLike R c c' → (n : ℕ) {p : ProcessOf F} {q : ProcessOf G}
      → ProcessLike R p q → ConfigLike R (set_process c n p) (set_process c' n q)
  unfolding set_process
  set-alike a n h =
      record { processes = one_set a.processes n h; qubits = a.qubits; channels = a.channels }

  joined-alike : {c : ConfigOf F} {c' : ConfigOf G} → ConfigLike R c c' → {p : ProcessOf F} {q : ProcessOf G}
      → ProcessLike R p q → ConfigLike R (joined c p) (joined c' q)
  unfolding joined
  joined-alike a h = record {
    processes = one-append a.processes (one_more h no_more);
    qubits = a.qubits;
    channels = a.channels;
  }

  counted-alike : {c : ConfigOf F} {c' : ConfigOf G} → ConfigLike R c c' → (t : Thing)
      → ConfigLike R (counted t c) (counted t c')
  unfolding counted
  counted-alike a (qubit q) =
      record { processes = a.processes; qubits = ap suc a.qubits; channels = a.channels }
  counted-alike a (channel q) =
      record { processes = a.processes; qubits = a.qubits; channels = ap suc a.channels }
  counted-alike a (end q d) = a

  -- effects alike leave states alike, and fit the trace in both or in neither
  pub after-alike : {s : StateOf F} {s' : StateOf G} {e : EffectOf F} {e' : EffectOf G} → StateLike R s s'
      → EffectLike R e e' → StateLike R (after_effect s e) (after_effect s' e')
  unfolding after_effect
  after-alike a h = record {
    config = h.config;
    used = ap₂ ◌+◌ a.used h.used;
    lines = ap₂ ◌++◌ a.lines h.lines;
  }

  pub fits-alike : (room : ℕ) {s : StateOf F} {s' : StateOf G} {e : EffectOf F} {e' : EffectOf G} → StateLike R s s'
      → EffectLike R e e' → fits room s e ≡ fits room s' e'
  unfolding fits
  fits-alike room a h = λ i. leb (length (a.lines i) + length (h.lines i)) room

module _ {F G : Type 0} {M : MachineOf F} {N : MachineOf G} {R : F → G → Type 0} (sim : Simulates M N R)
    {s : StateOf F} {s' : StateOf G} (a : StateLike R s s') (k : ℕ) where
  fork-alike : (n m : ℕ) (args : List Value) {fs : List F} {gs : List G} → FramesLike R fs gs
      → R (M.starts m args) (N.starts m args)
      → EffectLike R (forking_in M k s n m args fs) (forking_in N k s' n m args gs)
  unfolding forking_in
  fork-alike n m args h r = record {
    config =
        joined-alike (set-alike a.config n (runs-alike (sim.loses (things_of args) h)))
        (runs-alike (one_more r no_more));
    used = refl;
    lines =
        ap (λ (child : ℕ). map (line_of k n) (forked child m (length args) ∷ map (gave child) (things_of args)))
        (count-alike a.config);
  }

  meet-alike : {e : Option (MeetingOf F)} {e' : Option (MeetingOf G)} → BothOrNone (MeetingLike R) e e'
      → EffectLike R (meet_if_in M k s e) (meet_if_in N k s' e')
  unfolding meet_if_in meet_in
  meet-alike neither = record { config = a.config; used = refl; lines = refl }
  meet-alike (given (both_meet e h g)) = record {
    config =
        set-alike
        (set-alike a.config e.sender (runs-alike (sim.loses (things_of (e.value ∷ [])) h)))
        e.receiver
        (runs-alike (sim.gets e.value g));
    used = refl;
    lines = refl;
  }

  applied-alike : (n : ℕ) {x : ActOf F} {y : ActOf G} → ActLike M N R x y
      → EffectLike R (applied_in M k s n x) (applied_in N k s' n y)
  unfolding applied_in
  applied-alike n both-idle = record { config = a.config; used = refl; lines = refl }
  applied-alike n both-stuck = record { config = a.config; used = refl; lines = refl }
  applied-alike n (both-fault f) = record {
    config = set-alike a.config n (record { status = refl; frames = (process-alike a.config n).frames });
    used = refl;
    lines = refl;
  }
  applied-alike n (both_go es u h) =
      record { config = set-alike a.config n (runs-alike h); used = refl; lines = refl }
  applied-alike n both_end = record {
    config = set-alike a.config n (record { status = refl; frames = no_more });
    used = refl;
    lines = refl;
  }
  applied-alike n (both-make t h) =
      record { config = counted-alike (set-alike a.config n (runs-alike h)) t; used = refl; lines = refl }
  applied-alike n (both-fork m args h r) = fork-alike n m args h r
  applied-alike n (both-offer h) = meet-alike (meeting-alike sim a n h)

  pub effect-alike : (n : ℕ) → EffectLike R (effect_in M k s n) (effect_in N k s' n)
  unfolding effect_in
  effect-alike n = applied-alike n (judged-alike sim a n)
