-- Every process of a typed configuration stands ready: the rule of types before its instruction is kept, so what it
-- would do is typed.
use Prim.Native.Nat.{ℕ, ◌+◌, ◌≤◌, ◌<◌}
use native.Mathlib.Omega.{arith}
use mathlib.Core.Logic.{◌≢◌}
use mathlib.Core.Bool.{false, ◌&&◌, not}
use mathlib.Core.Path.{◌≡◌, refl, sym, ◌∙◌}
use mathlib.Core.List.{List, [], ◌∷◌}
use lib.ListN.{length, take, drop}
use lib.Dec.{T}
use mir.Facts.{and_yes}
use borrow.Author.Tests.{le-leb}
use Rattle.lists.specs.Lists.{any, All}
use Rattle.lists.proofs.Tests.{cond-each}
use Rattle.lists.proofs.Laws.{append-nil-right}
use Rattle.lists.proofs.Any.{All-drop, All-get_d}
use Rattle.lists.proofs.Each.{Both, both-length, both-take, both-drop, both-none}
use Rattle.table.specs.Table.{offset_of, length_of, arg_at, op_at}
use Rattle.table.specs.Reading.{op_there, taken_at, before}
use Rattle.table.proofs.Accepted.{Kept, ReadAt}
use Rattle.table.proofs.Methods.{inside-bound, inside-owner}
use Rattle.table.proofs.Before.{given-operands, given-rule, given-after, inside-next, before-next, inside-target, before-target}
use Rattle.machine.specs.Value.{Value, is_empty}
use Rattle.machine.specs.State.{Frame, Status, running, finished, stopped, State, process_at, unmade, at_place}
use Rattle.machine.specs.Act.{Act, idle, passed_by, scene_of, at_frame, at_frames, by_status, act_of}
use Rattle.machine.proofs.Typing.{Fits, FrameTyped, Frames, StatusTyped, ProcessTyped, ConfigTyped}
use Rattle.machine.proofs.Acts.{ActTyped, Ready}
use Rattle.machine.proofs.Doings.{doing-sound}

-- The top frame, past its instruction

module _ (p : List ℕ) (k : Kept p) {R : Value → ℕ → Type 0} (f : Frame) (h : FrameTyped p R [] f) where
  reading : ReadAt p f.place
  reading = k.reading f.place (inside-bound p k h.place)

  pending-fits : Both R f.pending (before p f.place)
  pending-fits = rw h.stands h.pending

  operands-enough : taken_at p f.place ≤ length f.pending
  operands-enough =
      rw (both-length pending-fits)
      (given-operands p f.place (before p f.place) reading.given reading.finds)

  left-fits : Both R (drop (taken_at p f.place) f.pending) (drop (taken_at p f.place) (before p f.place))
  left-fits = both-drop (taken_at p f.place) pending-fits

  -- after the instruction the frame is owed what the instruction gives
  passed-typed : (op_there p f.place).closes ≡ false
      → FrameTyped p R reading.given (passed_by (taken_at p f.place) f)
  unfolding passed_by
  passed-typed e =
      let next = inside-next p k h.place e in
      record {
        place = next;
        slots = h.slots;
        types = drop (taken_at p f.place) (before p f.place);
        stands =
            before-next p k h.place next
            ∙ given-after p f.place (before p f.place) reading.given reading.finds;
        pending = left-fits;
      }

  -- at a jump's target it is owed nothing
  landed-typed : T ((op_there p f.place).jumps && (op_there p f.place).bare)
      → arg_at p f.place < length_of p f.method
      → FrameTyped p R [] (at_place (offset_of p f.method + arg_at p f.place) (passed_by (taken_at p f.place) f))
  unfolding passed_by
  landed-typed t l =
      let (jumps, bare) = and_yes (op_there p f.place).jumps (op_there p f.place).bare t in
      let after = given-after p f.place (before p f.place) reading.given reading.finds in
      let gone = append-nil-right reading.given _ (sym after ∙ reading.bare bare) in
      record {
        place = inside-target p k h.place l;
        slots = h.slots;
        types = [];
        stands = before-target p k h.place jumps l;
        pending = rw gone at left-fits;
      }

-- What a process would do

module _ (p : List ℕ) (k : Kept p) (outcomes : List ℕ) (bytes : All (λ o. o ≤ 2) outcomes)
    (s : State) (ks : List ℕ) (t : ConfigTyped p ks s.config) where
  abbrev Fitting : Value → ℕ → Type 0
  Fitting = Fits ks s.config.qubits

  abbrev Acting : Act → Type 0
  Acting = ActTyped p ks s.config.qubits (length s.config.processes)

  ready : (f : Frame) (fs : List Frame) → Frames p Fitting [] (f ∷ fs)
      → T (not (any is_empty (take (taken_at p f.place) f.pending)))
      → Ready (op_there p f.place) ks (scene_of p outcomes s f fs)
  unfolding scene_of passed_by
  ready f fs h n =
      let top = h.stack.0 in
      let read = reading p k f top in
      let i = f.place in
      let owner = inside-owner p k top.place in
      record {
        kept = k;
        outcomes = All-drop (λ o. o ≤ 2) s.used outcomes bytes;
        channels = t.channels;
        argument = rw owner at (k.argument i (inside-bound p k top.place));
        taken = take (taken_at p i) (before p i);
        given = read.given;
        rule = rw owner at (given-rule p i (before p i) read.given read.finds);
        operands = both-none is_empty (both-take (taken_at p i) (pending-fits p k f top)) n;
        next = λ e. record { stack = (passed-typed p k f top e, h.stack.1); depth = h.depth };
        target = λ u l. record { stack = (landed-typed p k f top u l, h.stack.1); depth = h.depth };
        callers = h.stack.1;
        depth = h.depth;
      }

  frame-act : (f : Frame) (fs : List Frame) → Frames p Fitting [] (f ∷ fs) → Acting (at_frame p outcomes s f fs)
  unfolding at_frame scene_of
  frame-act f fs h =
      let taken = taken_at p f.place in
      rw (le-leb taken (length f.pending) (operands-enough p k f h.stack.0))
      (cond-each Acting (any is_empty (take taken f.pending))
      (λ e. omega arith)
      (λ e. doing-sound (op_at p f.place) ks (scene_of p outcomes s f fs) (ready f fs h (rw e tt))))

  status-act : (st : Status) (fs : List Frame) → StatusTyped p Fitting st fs
      → Acting (by_status st (at_frames p outcomes s fs))
  unfolding by_status at_frames
  status-act running [] h = absurd h.stack
  status-act running (f ∷ fs) h = frame-act f fs h
  status-act finished fs h = tt
  status-act (stopped n) fs h = tt

  process-typed : (n : ℕ) → ProcessTyped p Fitting (process_at s.config n)
  unfolding process_at
  process-typed n = All-get_d (ProcessTyped p Fitting) s.config.processes n unmade t.processes refl

  pub act-typed : (n : ℕ) → Acting (act_of p outcomes s n)
  unfolding act_of
  act-typed n = status-act (process_at s.config n).status (process_at s.config n).frames (process-typed n)

  -- a process that does anything is running

  status-runs : (st : Status) (fs : List Frame) (act : Act) → StatusTyped p Fitting st fs → by_status st act ≢ idle
      → Frames p Fitting [] fs
  unfolding by_status
  status-runs running fs act h e = h
  status-runs finished fs act h e = absurd (e refl)
  status-runs (stopped n) fs act h e = absurd (e refl)

  pub act-runs : (n : ℕ) → act_of p outcomes s n ≢ idle → Frames p Fitting [] (process_at s.config n).frames
  unfolding act_of
  act-runs n e = status-runs (process_at s.config n).status (process_at s.config n).frames _ (process-typed n) e
