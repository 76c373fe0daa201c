-- The words of a process that is over are those of a stopped or of a finished process.
use Prim.Native.Nat.{ℕ}
use mathlib.Core.Path.{◌≡◌, ap}
use mathlib.Core.List.{List, [], ◌∷◌, flatten}
use lib.ListN.{set, length}
use Rattle.machine.specs.State.{Frame, Config, finished, stopped}
use Rattle.machine.specs.Entry.{runs}
use Rattle.machine.proofs.Reachable.{Stack}
use Rattle.layout.specs.Layout.{padded, status_words, process_words}
use Rattle.run_store.specs.declared.head.Head.{Head}
use Rattle.run_store.specs.StoreCode.{finished_head, stopped_head, put_status}
use Rattle.run_store.proofs.Cleared.{all-cleared}
use Rattle.run_values.proofs.Places.{head-is}
use Rattle.run_events.specs.EndsCode.{stopped_words, finished_words}

pub stopped-words : {p : List ℕ} {c : Config} {f : Frame} {fs : List Frame} → Stack p c f fs → (n : ℕ)
    → stopped_words (process_words (runs (f ∷ fs))) n ≡ process_words (record { status = stopped n; frames = f ∷ fs })
unfolding stopped_words put_status stopped_head process_words status_words padded
stopped-words {f = f} {fs = fs} stack n =
    ap (λ (h : Head). put_status (process_words (runs (f ∷ fs))) (stopped_head h n)) (head-is stack)

pub finished-words : (w : List ℕ) → length w ≡ 512
    → finished_words w ≡ process_words (record { status = finished; frames = [] })
unfolding finished_words put_status finished_head process_words status_words padded flatten
finished-words w e = ap (λ (l : List ℕ). set (set (set l 0 2) 1 0) 2 0) (all-cleared w 512 e)
