-- Soundness: in every run of a table that passes questions 1 to 5, no process is ever stuck, and everything stays
-- within the limits. The typing of Typing.antt holds at the start, is kept by every entry, and implies this.
use Prim.Native.Nat.{ℕ, ◌≤◌, ◌<◌}
use native.Mathlib.Omega.{arith}
use mathlib.Core.Path.{◌≡◌, refl, ap, ◌∙◌}
use mathlib.Core.List.{List, [], ◌∷◌}
use lib.ListN.{length, take, length-append}
use Rattle.lists.specs.Lists.{All}
use Rattle.lists.proofs.Any.{All-implies}
use Rattle.lists.proofs.Each.{nil, both-length, both-all}
use Rattle.table.specs.Table.{param_types, slot_types}
use Rattle.table.specs.Questions.{Accepted}
use Rattle.table.proofs.Accepted.{Kept, kept}
use Rattle.table.proofs.Methods.{inside-bound, slot_types-length}
use Rattle.table.proofs.Before.{before-height}
use Rattle.machine.specs.Value.{Thing, qubit, channel, end, Value, empty, int, bool, ref}
use Rattle.machine.specs.State.{Frame, Status, running, finished, stopped, Config, start_config, start, start_config_with, start_with}
use Rattle.machine.specs.Run.{after_effect, run, run_in}
use Rattle.machine.specs.Sound.{Made, ValueSound, FrameSound, ProcessSound, ConfigSound, Sound}
use Rattle.machine.proofs.Invariant.{run-keeps}
use Rattle.machine.proofs.Typing.{ThingFits, Fits, FrameTyped, Callers, Frames, started-typed, StatusTyped, ProcessTyped, ConfigTyped, Typed}
use Rattle.machine.proofs.Standing.{act-typed}
use Rattle.machine.proofs.Effects.{effect-typed}

-- The run

main-takes-none : (p : List ℕ) → Kept p → param_types p 0 ≡ []
unfolding param_types
main-takes-none p k = ap (λ n. take n (slot_types p 0)) k.main-params

pub start-typed : (p : List ℕ) → Kept p → ConfigTyped p [] (start p).config
unfolding start_with start_config_with
start-typed p k =
    let main =
    started-typed p k {R = Fits [] 0} (λ t. tt) 0 [] k.sizes.methods-some (rw (main-takes-none p k) nil) in
    record {
      channels = refl;
      channel_count = omega arith;
      qubit_count = omega arith;
      process_count = omega arith;
      processes = (record { stack = (main, tt); depth = omega arith }, tt);
    }

module _ (p : List ℕ) (k : Kept p) (outcomes : List ℕ) (bytes : All (λ o. o ≤ 2) outcomes) (room : ℕ) where
  run_typed : (schedule : List ℕ) → Typed p (run p outcomes room schedule).state.config
  unfolding run_in after_effect
  run_typed schedule =
      run-keeps p outcomes room (λ i s. Typed p s.config)
      (λ i s n h. effect-typed p k outcomes bytes s h.0 h.1 i n)
      (start p) 0 schedule ([], start-typed p k)

-- From typed to sound

module _ (p : List ℕ) (k : Kept p) (ks : List ℕ) (c : Config) (t : ConfigTyped p ks c) where
  thing-made : (u : Thing) (n : ℕ) → ThingFits ks c.qubits u n → Made c u
  thing-made (qubit i) n h = h.1
  thing-made (channel i) n h = omega (arith, t.channels)
  thing-made (end i s) n h = omega (arith, t.channels)

  pub value-sound : (v : Value) (n : ℕ) → Fits ks c.qubits v n → ValueSound c v
  value-sound empty n h = tt
  value-sound (int z) n h = h.1
  value-sound (bool b) n h = tt
  value-sound (ref u) n h = thing-made u n h

  pub frame-sound : (owed : List ℕ) (f : Frame) → FrameTyped p (Fits ks c.qubits) owed f → FrameSound p c f
  frame-sound owed f h = record {
    method = h.place.method;
    from-offset = h.place.from-offset;
    inside = h.place.ahead;
    width = both-length h.slots ∙ slot_types-length p k f.method h.place.method;
    height =
        omega (
          arith,
          both-length h.pending,
          simp length-append at (ap length h.stands),
          before-height p k f.place (inside-bound p k h.place),
        );
    slots = both-all value-sound h.slots;
    pending = both-all value-sound h.pending;
  }

  pub callers-sound : (m : ℕ) (fs : List Frame) → Callers p (Fits ks c.qubits) m fs → All (FrameSound p c) fs
  callers-sound m [] h = tt
  callers-sound m (f ∷ fs) h = (frame-sound _ f h.0, callers-sound f.method fs h.1)

  frames-sound : (fs : List Frame) → Frames p (Fits ks c.qubits) [] fs → All (FrameSound p c) fs
  frames-sound [] h = absurd h.stack
  frames-sound (f ∷ fs) h = (frame-sound [] f h.stack.0, callers-sound f.method fs h.stack.1)

  frames-some : (fs : List Frame) → Frames p (Fits ks c.qubits) [] fs → 0 < length fs
  frames-some [] h = absurd h.stack
  frames-some (f ∷ fs) h = omega arith

  process-sound : (st : Status) (fs : List Frame) → StatusTyped p (Fits ks c.qubits) st fs
      → ProcessSound p c (record { status = st; frames = fs })
  process-sound running fs h = record { status = frames-some fs h; depth = h.depth; frames = frames-sound fs h }
  process-sound finished fs h = record { status = h; depth = rw h (omega arith); frames = rw h tt }
  process-sound (stopped n) fs h =
      record { status = (h.0, frames-some fs h.1); depth = h.1.depth; frames = frames-sound fs h.1 }

  pub config-sound : ConfigSound p c
  config-sound = record {
    process_count = t.process_count;
    qubit_count = t.qubit_count;
    channel_count = t.channel_count;
    processes =
        All-implies (ProcessTyped p (Fits ks c.qubits)) (ProcessSound p c)
        (λ pr. process-sound pr.status pr.frames)
        c.processes t.processes;
  }

pub sound : (p outcomes : List ℕ) (room : ℕ) (schedule : List ℕ)
    → Accepted p → All (λ o. o ≤ 2) outcomes
    → Sound p outcomes (run p outcomes room schedule).state
sound p outcomes room schedule a bytes =
    let k = kept p a in
    let s = (run p outcomes room schedule).state in
    let (ks, t) = run_typed p k outcomes bytes room schedule in
    record {
      config = config-sound p k ks s.config t;
      going = λ n e. rw e at (act-typed p k outcomes bytes s ks t n);
    }
