-- The run entry by entry: the run on the schedule's first k + 1 entries is the run on its first k followed by one
-- entry, or by nothing where it had ended.
use Prim.Native.Nat.{ℕ, suc, ◌<◌}
use mathlib.Core.Path.{◌≡◌, refl, ◌∙◌, ap}
use mathlib.Core.Bool.{Bool, true, false, cond}
use mathlib.Core.List.{List, [], ◌∷◌, ◌++◌}
use lib.ListN.{get_or, take, length}
use lib.Seq.{take-suc}
use Rattle.machine.specs.State.{State, start}
use Rattle.machine.specs.Entry.{effect_of}
use Rattle.machine.specs.Run.{Result, all_over, none_able, fits, after_effect, ended, run_from, run, followed, followed_in, run_from_in, run_in}

module _ (p outcomes : List ℕ) (room : ℕ) where
  -- the ends are asked in the same order, whether an entry follows or not
  last-asked : (a b : Bool) (s : State) (k n : ℕ)
      → cond a (ended 1 k s) (cond b (ended 2 k s) (followed p outcomes room (ended 0 k s) n))
      ≡ followed p outcomes room (cond a (ended 1 k s) (cond b (ended 2 k s) (ended 0 k s))) n
  unfolding followed_in
  last-asked true b s k n = refl
  last-asked false true s k n = refl
  last-asked false false s k n = refl

  asked : (a b c : Bool) (s : State) (k n : ℕ) (rest rest' : Result) → rest ≡ followed p outcomes room rest' n
      → cond a (ended 1 k s) (cond b (ended 2 k s) (cond c rest (ended 3 k s)))
      ≡ followed p outcomes room (cond a (ended 1 k s) (cond b (ended 2 k s) (cond c rest' (ended 3 k s)))) n
  unfolding followed_in
  asked true b c s k n rest rest' e = refl
  asked false true c s k n rest rest' e = refl
  asked false false true s k n rest rest' e = e
  asked false false false s k n rest rest' e = refl

  run-snoc : (s : State) (k : ℕ) (schedule : List ℕ) (n : ℕ)
      → run_from p outcomes room s k (schedule ++ (n ∷ [])) ≡ followed p outcomes room
      (run_from p outcomes room s k schedule) n
  unfolding run_from_in followed_in
  run-snoc s k [] n = last-asked (all_over s) (none_able p outcomes s) s k n
  run-snoc s k (m ∷ schedule) n =
      asked (all_over s) (none_able p outcomes s) (fits room s (effect_of p outcomes k s m)) s k n _ _
      (run-snoc (after_effect s (effect_of p outcomes k s m)) (suc k) schedule n)

  pub prefix : (schedule : List ℕ) (k : ℕ) → k < length schedule
      → run p outcomes room (take (suc k) schedule)
      ≡ followed p outcomes room (run p outcomes room (take k schedule)) (get_or schedule k 0)
  unfolding run_in
  prefix schedule k h =
      ap (run_from p outcomes room (start p) 0) (take-suc schedule k 0 h)
      ∙ run-snoc (start p) 0 (take k schedule) (get_or schedule k 0)
