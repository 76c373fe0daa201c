-- What it means that a process waits. That a process which waits in a run waits for another one that runs, so that end
-- 2 says as much of every process that runs, is proved in proofs/Waiting.antt.
use Rattle.std.specs.Prelude.{ℕ, ◌≡◌, ◌≢◌}
use Rattle.machine.specs.State.{running, State, process_at}
use Rattle.machine.specs.Act.{Offer}
use Rattle.machine.specs.Entry.{opposite_end}
use Rattle.machine.specs.Owner.{Holds}

-- process n, which makes the offer o, waits for another process, which the lines name as holder of the opposite end and
-- which runs
pub record WaitsFor (s : State) (n : ℕ) (o : Offer) : Type 0 where
  pub partner : ℕ
  pub another : partner ≢ n
  pub holds : Holds s.lines partner (opposite_end o)
  pub runs : (process_at s.config partner).status ≡ running
