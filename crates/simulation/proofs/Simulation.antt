-- Two machines of which one simulates the other run alike, on any schedule and with any room for lines.
use Prim.Native.Nat.{ℕ, suc}
use mathlib.Core.Path.{refl}
use mathlib.Core.Bool.{cond}
use mathlib.Core.List.{List, [], ◌∷◌}
use Rattle.machine.specs.State.{StateOf, start_config_with, start_with}
use Rattle.machine.specs.Entry.{MachineOf, effect_in}
use Rattle.machine.specs.Run.{ResultOf, all_over, none_able_in, fits, after_effect, ended, run_from_in, run_in}
use Rattle.simulation.specs.Simulation.{no_more, one_more, StateLike, Simulates, ResultLike, SameRun}
use Rattle.simulation.proofs.OneByOne.{both_cond}
use Rattle.simulation.proofs.Acts.{all-over-alike, none-able-alike}
use Rattle.simulation.proofs.Effects.{effect-alike, after-alike, fits-alike}

module _ {F G : Type 0} {R : F → G → Type 0} where
  ended-alike : (e k : ℕ) {s : StateOf F} {s' : StateOf G} → StateLike R s s'
      → ResultLike R (ended e k s) (ended e k s')
  ended-alike e k a = record { end = refl; entries = refl; state = a }

  -- without a word on frames
  without-frames : {r : ResultOf F} {q : ResultOf G} → ResultLike R r q → SameRun r q
  without-frames h =
      record { end = h.end; entries = h.entries; used = h.state.used; lines = h.state.lines }

module _ {F G : Type 0} {M : MachineOf F} {N : MachineOf G} {R : F → G → Type 0} (sim : Simulates M N R)
    (room : ℕ) where
  -- the tests before an entry and after the last have the same answers
  unless-over : {s : StateOf F} {s' : StateOf G} → StateLike R s s' → (k : ℕ) {r : ResultOf F} {q : ResultOf G}
      → ResultLike R r q
      → ResultLike R (cond (all_over s) (ended 1 k s) (cond (none_able_in M s) (ended 2 k s) r))
      (cond (all_over s') (ended 1 k s') (cond (none_able_in N s') (ended 2 k s') q))
  unless-over {s} {s'} a k h =
      both_cond (ResultLike R) (all_over s) (all_over s') (all-over-alike a) (ended-alike 1 k a)
      (both_cond (ResultLike R) (none_able_in M s) (none_able_in N s') (none-able-alike sim a) (ended-alike 2 k a) h)

  -- from states alike, at any entry: the same end, as many entries, and states alike again
  pub run-from-alike : (schedule : List ℕ) (s : StateOf F) (s' : StateOf G) (k : ℕ) → StateLike R s s'
      → ResultLike R (run_from_in M room s k schedule) (run_from_in N room s' k schedule)
  unfolding run_from_in
  run-from-alike [] s s' k a = unless-over a k (ended-alike 0 k a)
  run-from-alike (n ∷ schedule) s s' k a =
      unless-over a k
      (both_cond (ResultLike R) (fits room s (effect_in M k s n)) (fits room s' (effect_in N k s' n))
      (fits-alike room a (effect-alike sim a k n))
      (run-from-alike schedule (after_effect s (effect_in M k s n)) (after_effect s' (effect_in N k s' n)) (suc k)
      (after-alike a (effect-alike sim a k n)))
      (ended-alike 3 k a))

  -- the starts differ in main's frames alone
  start-alike : StateLike R (start_with (M.starts 0 [])) (start_with (N.starts 0 []))
  unfolding start_with start_config_with
  start-alike = record {
    config = record {
      processes = one_more (record { status = refl; frames = one_more sim.root no_more }) no_more;
      qubits = refl;
      channels = refl;
    };
    used = refl;
    lines = refl;
  }

  -- the runs from their starts
  pub run-alike : (schedule : List ℕ) → ResultLike R (run_in M room schedule) (run_in N room schedule)
  unfolding run_in
  run-alike schedule =
      run-from-alike schedule (start_with (M.starts 0 [])) (start_with (N.starts 0 [])) 0 start-alike

  -- answer and lines are equal
  pub same-run : (schedule : List ℕ) → SameRun (run_in M room schedule) (run_in N room schedule)
  same-run schedule = without-frames (run-alike schedule)
