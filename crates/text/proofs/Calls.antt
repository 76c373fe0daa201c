-- The rules of moves that start a method: a call and a fork.
use Prim.Native.Nat.{ℕ, suc, ◌≤◌}
use mathlib.Core.Bool.{Bool, cond}
use mathlib.Core.Path.{ap, ◌∙◌, subst}
use mathlib.Core.List.{List, [], ◌∷◌, reverse}
use lib.ListN.{length, take, drop, length-reverse}
use lib.Seq.{length-take-le}
use lib.Dec.{ltb}
use Rattle.machine.specs.Value.{Value}
use Rattle.machine.specs.State.{Frame, started}
use Rattle.machine.specs.Act.{faults, goes, doing_of, doings, do_call, do_fork, passed_by}
use Rattle.simulation.specs.Simulation.{one_more, FramesLike, both-fault, both_go, both-fork}
use Rattle.simulation.proofs.OneByOne.{one-length}
use Rattle.text.specs.Tree.{Name, Program, method_of, number_of}
use Rattle.text.specs.Meaning.{call, fork_it, Term, TextFrame, started_in, calling, forking, rule}
use Rattle.text.specs.Translation.{program_table}
use Rattle.text.proofs.Limited.{Limited}
use Rattle.text.proofs.Follows.{Callable}
use Rattle.text.proofs.Like.{Stand, table-frame, text-frame, FollowsFrom, Like, passed-with, passed-like}
use Rattle.text.proofs.Acting.{Acts, both_cond}
use Rattle.text.proofs.Scenes.{Counts, scene-at, Does}
use Rattle.text.proofs.Start.{started-like}

-- the frames in which a called method starts
called-like : (ms : Program) → Limited ms → (x : Name) (k : ℕ) (values : List Value) → Callable ms x k
    → k ≤ length values
    → Like ms (started (program_table ms) (number_of ms x) (reverse (take k values)))
    (started_in ms (number_of ms x) (reverse (take k values)))
unfolding method_of
called-like ms limited x k values callable enough =
    started-like ms limited (number_of ms x) callable.method callable.is-method (reverse (take k values))
    (length-reverse (take k values) ∙ length-take-le k values enough ∙ callable.arguments)

module _ (ms : Program) (limited : Limited ms) (outcomes : List ℕ) (w : Stand ms) (ts : List Term)
    {fs : List Frame} {gs : List TextFrame} (callers : FramesLike (Like ms) fs gs) (c : Counts)
    (follows : FollowsFrom w ts (suc w.at)) (x : Name) (k : ℕ) (callable : Callable ms x k)
    (enough : k ≤ length w.values) where
  -- the caller's frames, the instruction and the term done
  after-like : FramesLike (Like ms) (table-frame (passed-with w (drop k w.values)) ∷ fs)
      (text-frame (passed-with w (drop k w.values)) ts ∷ gs)
  after-like = passed-like w callers ts (drop k w.values) follows

  -- the arguments, the first one first
  abbrev arguments : List Value
  arguments = reverse (take k w.values)

  -- m(•, .., •)
  pub call-like : Does ms outcomes w ts callers c 12 (number_of ms x) k (call x k)
  unfolding doing_of doings do_call passed_by rule calling
  call-like =
      subst
      (λ (b : Bool). Acts ms outcomes
      (doing_of 12 (scene-at ms outcomes c (table-frame w) fs k (number_of ms x)))
      (cond b
      (goes
      (started_in ms (number_of ms x) arguments ∷ text-frame (passed-with w (drop k w.values)) ts ∷ gs) [] 0)
      (faults 25)))
      (ap (λ (i : ℕ). ltb (suc i) 8) (one-length callers))
      (both_cond ms outcomes (ltb (suc (length fs)) 8)
      (λ e. both_go [] 0 (one_more (called-like ms limited x k w.values callable enough) after-like))
      (both-fault 25))

  -- fork m(•, .., •);
  pub fork-like : Does ms outcomes w ts callers c 14 (number_of ms x) k (fork_it x k)
  unfolding doing_of doings do_fork passed_by rule forking
  fork-like =
      both_cond ms outcomes (ltb c.processes 8)
      (λ e. both-fork (number_of ms x) arguments after-like (called-like ms limited x k w.values callable enough))
      (both-fault 23)
