-- What every entry keeps holds after the run.
use Prim.Native.Nat.{ℕ, suc}
use mathlib.Core.List.{List, [], ◌∷◌}
use Rattle.lists.proofs.Tests.{cond_both}
use Rattle.machine.specs.State.{State}
use Rattle.machine.specs.Entry.{effect_of}
use Rattle.machine.specs.Run.{Result, all_over, none_able, fits, after_effect, run_from, run_from_in}

module _ (p outcomes : List ℕ) (room : ℕ) (P : ℕ → State → Type 0)
    (keeps : (k : ℕ) (s : State) (n : ℕ) → P k s → P (suc k) (after_effect s (effect_of p outcomes k s n))) where
  abbrev Leaves : Result → Type 0
  Leaves r = P r.entries r.state

  pub run-keeps : (s : State) (k : ℕ) (schedule : List ℕ) → P k s → Leaves (run_from p outcomes room s k schedule)
  unfolding run_from_in
  run-keeps s k [] h = cond_both Leaves (all_over s) h (cond_both Leaves (none_able p outcomes s) h h)
  run-keeps s k (n ∷ schedule) h =
      cond_both Leaves (all_over s) h
      (cond_both Leaves (none_able p outcomes s) h
      (cond_both Leaves (fits room s (effect_of p outcomes k s n))
      (run-keeps (after_effect s (effect_of p outcomes k s n)) (suc k) schedule (keeps k s n h))
      h))
