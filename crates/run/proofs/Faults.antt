-- A fault's entry, and how a process came to be stopped, by what is read back after the schedule's first entries.
use Prim.Native.Nat.{ℕ, suc, ◌<◌}
use mathlib.Core.Path.{◌≡◌}
use mathlib.Core.List.{List}
use mathlib.Core.Option.{some}
use lib.ListN.{get_or, take, length}
use Rattle.table.specs.Questions.{accepted, questions}
use Rattle.machine.specs.State.{State, process_at, stopped}
use Rattle.machine.specs.Entry.{fault_of}
use Rattle.machine.specs.Run.{run}
use Rattle.machine.specs.Faults.{StoppedBy}
use Rattle.machine.specs.Answer.{lines_in}
use Rattle.machine.proofs.Faults.{fault-alone, stopped-by-fault}
use Rattle.run_schedule.proofs.Accepting.{shorter-accepted}
use Rattle.run.specs.Answers.{state_read}
use Rattle.run.proofs.Buffers.{state-read}

module _ (p schedule outcomes trace work : List ℕ) (ok : questions p schedule outcomes (length work) ≡ accepted) where
  abbrev room : ℕ
  room = lines_in (length trace)

  -- what is read back after the first k entries
  abbrev read : ℕ → State
  read k = state_read p (take k schedule) outcomes trace work

  read_is : (k : ℕ) → read k ≡ (run p outcomes room (take k schedule)).state
  read_is k =
      state-read p (take k schedule) outcomes trace work (shorter-accepted p schedule outcomes (length work) k ok)

  pub fault-read : (k f : ℕ) → k < (run p outcomes room schedule).entries
      → fault_of p outcomes (read k) (get_or schedule k 0) ≡ some f
      → StoppedBy k (get_or schedule k 0) f (read k) (read (suc k))
  fault-read k f h would =
      rw (read_is k, read_is (suc k)) (fault-alone p outcomes room schedule k f h (rw (read_is k) at would))

  pub stopped-read : (k n f : ℕ) → (process_at (read k).config n).status ≡ stopped f
      → (j : ℕ) × (j < k) × (j < (run p outcomes room schedule).entries) × (get_or schedule j 0 ≡ n)
      × (fault_of p outcomes (read j) n ≡ some f)
  stopped-read k n f e =
      let w = stopped-by-fault p outcomes room schedule k n f (rw (read_is k) at e) in
      (w.0, w.1, w.2, w.3, rw (read_is w.0) w.4)
