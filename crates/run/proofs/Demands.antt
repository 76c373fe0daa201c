-- The three demands, of what `run` leaves in the lent trace and the lent work store, for any program table, schedule
-- and outcome list, and whatever trace and work store held.
--
-- The contract of `run` (src/lib.rt) says that its answer is `answer_of`, the trace that it leaves `trace_left` and the
-- store that it leaves `store_left`. `lines_read` and `config_read` (specs/Answers.antt) are the lines and the
-- configuration that are read back from the two, `state_read` both with the outcomes used. In the crate machine,
-- `fault_of` (specs/Entry.antt) is the fault by which a process would stop if it were named, `StoppedBy`
-- (specs/Faults.antt) what a fault does, and `Owned` (specs/Owner.antt) what ownership says of a configuration and
-- lines. `InStore` (crate layout, specs/Places.antt) are the places of the layout that a configuration uses.
use Prim.Native.Nat.{ℕ, suc, ◌*◌, ◌≤◌, ◌<◌}
use mathlib.Core.Path.{◌≡◌, sym, subst₂}
use mathlib.Core.List.{List}
use mathlib.Core.Option.{some}
use lib.ListN.{get_or, take, drop, length}
use Rattle.table.specs.Questions.{accepted, refused, questions}
use Rattle.machine.specs.State.{State, process_at, stopped}
use Rattle.machine.specs.Entry.{fault_of}
use Rattle.machine.specs.Run.{Result, run}
use Rattle.machine.specs.Faults.{StoppedBy}
use Rattle.machine.specs.Owner.{Owned}
use Rattle.machine.specs.Answer.{refusal, ran, answer_of, lines_in}
use Rattle.layout.specs.Places.{InStore}
use Rattle.machine.proofs.Ownership.{ownership}
use Rattle.run_schedule.proofs.Accepting.{shorter-accepted}
use Rattle.run.specs.Answers.{trace_left, store_left, config_read, lines_read, state_read}
use Rattle.run.proofs.Buffers as buffers
use Rattle.run.proofs.Faults as faults

module _ (p schedule outcomes trace work : List ℕ) where
  -- what the defined run comes to
  abbrev defined : Result
  defined = run p outcomes (lines_in (length trace)) schedule

  -- what is read back after a run on the schedule's first k entries
  abbrev read : ℕ → State
  read k = state_read p (take k schedule) outcomes trace work

  -- Demand 1: refused with the number and place that the questions give, every lent buffer untouched ..
  pub demand-1-refused : (n i : ℕ) → questions p schedule outcomes (length work) ≡ refused n i
      → (answer_of p schedule outcomes (lines_in (length trace)) (length work) ≡ refusal n i)
      × (trace_left p schedule outcomes trace work ≡ trace)
      × (store_left p schedule outcomes trace work ≡ work)
  demand-1-refused n i says = (
    buffers.answer-refused p schedule outcomes trace work n i says,
    buffers.trace-refused p schedule outcomes trace work n i says,
    buffers.store-refused p schedule outcomes trace work n i says,
  )

  module _ (ok : questions p schedule outcomes (length work) ≡ accepted) where
    -- .. or run to one of four ends
    pub demand-1-ends : (answer_of p schedule outcomes (lines_in (length trace)) (length work)
        ≡ ran defined.end defined.entries (length defined.state.lines) defined.state.used)
        × (defined.end ≤ 3)
    demand-1-ends = (buffers.answer-ran p schedule outcomes trace work ok, buffers.four-ends p schedule outcomes trace)

    -- .. and in every run a fault stops its own process, by its number, and no other. Where the process that entry k
    -- names would fault, by what is read back after k entries, then what is read back after k + 1 is that process
    -- stopped (its frames kept), every other process and every count as before, one line more, and no outcome used ..
    pub demand-1-fault : (k f : ℕ) → k < defined.entries → fault_of p outcomes (read k) (get_or schedule k 0) ≡ some f
        → StoppedBy k (get_or schedule k 0) f (read k) (read (suc k))
    demand-1-fault = faults.fault-read p schedule outcomes trace work ok

    -- .. and a process is read back as stopped only where an entry before named it and it faulted there
    pub demand-1-stopped : (k n f : ℕ) → (process_at (read k).config n).status ≡ stopped f
        → (j : ℕ) × (j < k) × (j < defined.entries) × (get_or schedule j 0 ≡ n) ×
        (fault_of p outcomes (read j) n ≡ some f)
    demand-1-stopped = faults.stopped-read p schedule outcomes trace work ok

    -- Demand 2: the lines, the words beyond them, the final configuration and the words beyond it are those of the
    -- defined run; that the answer's counts are stands above
    pub demand-2-lines : lines_read p schedule outcomes trace work ≡ defined.state.lines
    demand-2-lines = buffers.lines-read p schedule outcomes trace work ok

    pub demand-2-rest : drop (6 * length defined.state.lines) (trace_left p schedule outcomes trace work)
        ≡ drop (6 * length defined.state.lines) trace
    demand-2-rest = buffers.rest-kept p schedule outcomes trace work ok

    pub demand-2-config : config_read p schedule outcomes trace work ≡ defined.state.config
    demand-2-config = buffers.config-read p schedule outcomes trace work ok

    -- every word of them at a place that the configuration does not use is 0
    pub demand-2-unused : (w : ℕ) → w < 8192 → (InStore defined.state.config w → ⊥)
        → get_or (store_left p schedule outcomes trace work) w 0 ≡ 0
    demand-2-unused = buffers.unused-read p schedule outcomes trace work ok

    pub demand-2-beyond : drop 8256 (store_left p schedule outcomes trace work) ≡ drop 8256 work
    demand-2-beyond = buffers.beyond-kept p schedule outcomes trace work ok

-- Demand 3: for every input that is not refused and every k, what the lent trace and the lent work store hold after a
-- run on the schedule's first k entries, read back, is owned: no qubit and no channel end is in reach of two processes,
-- whatever a process reaches the lines name it as holder, every gate, measurement, meeting and giving falls on what its
-- processes hold by the lines above, and every qubit, channel and process made is new by them.
pub demand-3 : (p schedule outcomes trace work : List ℕ) → questions p schedule outcomes (length work) ≡ accepted
    → (k : ℕ)
    → Owned (config_read p (take k schedule) outcomes trace work) (lines_read p (take k schedule) outcomes trace work)
demand-3 p schedule outcomes trace work ok k =
    let short : questions p (take k schedule) outcomes (length work) ≡ accepted =
    shorter-accepted p schedule outcomes (length work) k ok in
    subst₂ Owned (sym (demand-2-config p (take k schedule) outcomes trace work short))
    (sym (demand-2-lines p (take k schedule) outcomes trace work short))
    (ownership p outcomes (lines_in (length trace)) schedule k)
