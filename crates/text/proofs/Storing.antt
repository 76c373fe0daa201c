-- The rules of moves that change variables: assignments, the ends of a channel with ends, declarations.
use Prim.Native.Nat.{ℕ, suc, ◌<◌}
use mathlib.Core.Bool.{Bool, true, false}
use mathlib.Core.Path.{◌≡◌, ap, subst}
use mathlib.Core.List.{List, [], ◌∷◌, map}
use lib.ListN.{get_or, take, drop}
use Rattle.machine.specs.Value.{Value, empty}
use Rattle.machine.specs.State.{Frame}
use Rattle.machine.specs.Act.{doing_of, doings, do_put, do_clear, passed_by}
use Rattle.simulation.specs.Simulation.{one_more, FramesLike, both_go}
use Rattle.text.specs.Tree.{Name, Program, Declared}
use Rattle.text.specs.Meaning.{store, assign_to, store_end, declare, Term, TextFrame, found, has_ends, end_of_found, assigned_ends, assigning, declaring, rule}
use Rattle.text.specs.Translation.{placed_slot, placed, found_in, slot_of, ends_in, hole_of}
use Rattle.text.proofs.Scopes.{Below}
use Rattle.text.proofs.Follows.{FollowEnds, Follows}
use Rattle.text.proofs.Variables.{same-found, same_ends}
use Rattle.text.proofs.Like.{Stand, table-frame, text-frame, FollowsFrom, Like, like, with-values, passed_on, stored, declared-at}
use Rattle.text.proofs.Scenes.{Counts, Does}

module _ (ms : Program) (outcomes : List ℕ) (w : Stand ms) (ts : List Term)
    {fs : List Frame} {gs : List TextFrame} (callers : FramesLike (Like ms) fs gs) (c : Counts) where
  -- the value assigned
  abbrev assigned : Value
  assigned = get_or (take 1 w.values) 0 empty

  -- the frames with the value assigned to the variable after i others, which the text's side finds after j
  abbrev after : (i j : ℕ) → i ≡ j → Stand ms
  after i j same = with-values (stored (passed_on w) i j assigned same) (assigned ∷ drop 1 w.values)

  -- they are alike
  after-like : (i j : ℕ) (same : i ≡ j) (us : List Term) → FollowsFrom w us (suc w.at)
      → FramesLike (Like ms) (table-frame (after i j same) ∷ fs) (text-frame (after i j same) us ∷ gs)
  after-like i j same us follows = one_more (like (after i j same) us follows) callers

  -- x = •
  pub store-like : (x : Name) → FollowsFrom w ts (suc w.at)
      → Does ms outcomes w ts callers c 4 (slot_of w.scope x) 1 (store x)
  unfolding doing_of doings do_put passed_by rule slot_of
  store-like x follows =
      both_go [] 0
      (after-like (found_in x w.scope) (found x w.variables) (same-found w.shown.shown x) ts follows)

  -- an end of a channel with ends
  pub store-end-like : (d : Bool) (x : Name) → FollowsFrom w ts (suc w.at)
      → Does ms outcomes w ts callers c 4
      (get_or (map placed_slot w.scope) (end_of_found d (found_in x w.scope)) 16) 1 (store_end d x)
  unfolding doing_of doings do_put passed_by rule
  store-end-like d x follows =
      both_go [] 0
      (after-like (end_of_found d (found_in x w.scope)) (end_of_found d (found x w.variables))
      (ap (end_of_found d) (same-found w.shown.shown x)) ts follows)

  -- the terms after x = •;
  ends-follow : (b : Bool) (x : Name) (j : ℕ)
      → FollowEnds ms w.method b x (Follows ms w.method ts w.scope) w.scope j
      → FollowsFrom w (assigned_ends b x ts) j
  unfolding assigned_ends
  ends-follow false x j h = h
  ends-follow true x j h = h

  -- x = •;
  pub assign-like : (x : Name)
      → FollowEnds ms w.method (ends_in w.scope x) x (Follows ms w.method ts w.scope) w.scope
      (suc w.at)
      → Does ms outcomes w ts callers c 4 (slot_of w.scope x) 1 (assign_to x)
  unfolding doing_of doings do_put passed_by rule assigning slot_of
  assign-like x h =
      both_go [] 0
      (after-like (found_in x w.scope) (found x w.variables) (same-found w.shown.shown x)
      (assigned_ends (has_ends x w.variables) x ts)
      (subst (λ (b : Bool). FollowsFrom w (assigned_ends b x ts) (suc w.at)) (same_ends w.shown.shown x)
      (ends-follow (ends_in w.scope x) x (suc w.at) h)))

  -- T x;
  pub declare-like : (d : Declared) (i : ℕ) → Below i w.scope → i < hole_of w.method
      → Follows ms w.method ts (placed d i ∷ w.scope) (suc w.at)
      → Does ms outcomes w ts callers c 6 i 0 (declare d)
  unfolding doing_of doings do_clear passed_by rule declaring
  declare-like d i below inside follows =
      both_go [] 0 (one_more (like (declared-at (passed_on w) d i below inside) ts follows) callers)
