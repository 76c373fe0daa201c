-- What a fault does to the state of a run. That every fault of a run does this, and that nothing but a fault of its own
-- stops a process, is proved in proofs/Faults.antt.
use Rattle.std.specs.Prelude.{ℕ, ◌≡◌, ◌≢◌, [], ◌∷◌, ◌++◌, length}
use Rattle.machine.specs.State.{stopped, State, process_at}

-- "Faults stop the process, which keeps all slots and pending values as they were before the entry, and use no
-- outcome": from the state before entry k to the one after it, process n was stopped by fault f, and nothing else was
-- done.
pub record StoppedBy (k n f : ℕ) (before after : State) : Type 0 where
  pub process :
      process_at after.config n ≡ record { status = stopped f; frames = (process_at before.config n).frames }
  pub others : (m : ℕ) → m ≢ n → process_at after.config m ≡ process_at before.config m
  -- nothing is made
  pub processes : length after.config.processes ≡ length before.config.processes
  pub qubits : after.config.qubits ≡ before.config.qubits
  pub channels : after.config.channels ≡ before.config.channels
  -- "10 stopped by fault a", one line, unused columns 65535
  pub line : after.lines
      ≡ before.lines ++ (record { entry = k; process = n; kind = 10; a = f; b = 65535; c = 65535 } ∷ [])
  pub used : after.used ≡ before.used
