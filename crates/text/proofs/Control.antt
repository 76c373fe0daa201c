-- The rules of control: the branches of an if, a loop, and the end of a method's body.
use Prim.Native.Nat.{ℕ, suc, ◌+◌}
use mathlib.Core.Bool.{Bool, true, false, cond}
use mathlib.Core.Path.{◌≡◌, refl, sym, subst}
use mathlib.Core.List.{List, [], ◌∷◌, ◌++◌}
use mathlib.Core.Option.{some}
use lib.ListN.{get_or, length, take, drop}
use Rattle.machine.specs.Value.{Value, empty}
use Rattle.machine.specs.State.{Frame}
use Rattle.machine.specs.Act.{Act, present, faults, goes, return_to, doing_of, doings, do_jump, do_j_false, do_get, do_ret, passed_by}
use Rattle.simulation.specs.Simulation.{one_more, FramesLike, both_go, both-fault}
use Rattle.text.specs.Tree.{Expr, Statement, loop, Method, Program}
use Rattle.text.specs.Meaning.{if_true, if_else, branch_done, while_true, body_done, method_done, Term, move, TextFrame, is_some, evaluated, performed, running_off, returning, rule}
use Rattle.text.specs.Translation.{Instruction, JUMP, JFALSE, Scope, expr_code, while_code, code, hole_of, method_code}
use Rattle.text.proofs.Elements.{nth}
use Rattle.text.proofs.Fits.{loop-body}
use Rattle.text.proofs.Follows.{CodeThen, past, FollowIf, FollowJump, FollowElse, FollowLoop, FollowTest, FollowBack, test_of, back-of, Follows}
use Rattle.text.proofs.Places.{then_append, then-past, in_parts, if-begin, else-target}
use Rattle.text.proofs.Stands.{stands}
use Rattle.text.proofs.Like.{Stand, table-frame, text-frame, FollowsFrom, Like, like, with-values, passed-with, passed-like, jumped}
use Rattle.text.proofs.Acting.{Acts, returned-like, bool-like}
use Rattle.text.proofs.Scenes.{Counts, Does}

-- What a loop's code holds: the test, the body and after it the jump back, and where it is left.
pub record LoopParts (ms : Program) (m : Method) (e : Expr) (s : Statement) (ts : List Term) (sc : Scope)
    (loops : FollowLoop ms m e s (Follows ms m ts sc) sc) : Type 0 where
  pub target : ℕ
  pub test : nth (method_code ms m) (test_of loops) ≡ some (JFALSE target)
  pub over : Follows ms m ts sc target
  pub body : Follows ms m (performed ms s (move (body_done e s) ∷ ts)) sc (suc (test_of loops))
  pub back : nth (method_code ms m) (back-of loops) ≡ some (JUMP loops.begin)
  pub again : Follows ms m (evaluated e (move (while_true e s) ∷ ts)) sc loops.begin

-- they follow from the code of the whole loop
pub loop-parts : (ms : Program) (m : Method) (e : Expr) (s : Statement) (ts : List Term) (sc : Scope)
    (loops : FollowLoop ms m e s (Follows ms m ts sc) sc) → LoopParts ms m e s ts sc loops
unfolding code while_code performed
loop-parts ms m e s ts sc loops =
    let F : ℕ → Type 0 = Follows ms m ts sc in
    let c : List Instruction = expr_code ms sc e in
    let S : List Instruction = code ms sc loops.slot (loops.begin + length c + 1) s in
    let j : ℕ = past c loops.begin in
    let there = then-past ms m c (CodeThen ms m (_ ∷ S ++ (_ ∷ [])) F) loops.begin
    (then_append ms m c (_ ∷ S ++ (_ ∷ [])) F loops.begin loops.whole) in
    let after = then-past ms m S (CodeThen ms m (_ ∷ []) F) (suc j)
    (then_append ms m S (_ ∷ []) F (suc j) there.1) in
    let body : CodeThen ms m S (FollowBack ms m e s F sc) (suc j) =
    in_parts ms m S (_ ∷ []) F (FollowBack ms m e s F sc) (suc j) (λ g. record { loops = loops; here = refl })
    there.1 in
    record {
      target = _;
      test = there.0;
      over = subst F (else-target c S loops.begin) after.1;
      body =
          stands ms m s (move (body_done e s) ∷ ts) sc loops.slot (suc j)
          (loop-body ms m e s sc loops.slot loops.fits)
          (subst (λ (b : ℕ). CodeThen ms m (code ms sc loops.slot b s) (FollowBack ms m e s F sc) (suc j))
          (if-begin c loops.begin) body);
      back = after.0;
      again = stands ms m (loop e s) ts sc loops.slot loops.begin loops.fits loops.whole;
    }

module _ (ms : Program) (outcomes : List ℕ) (w : Stand ms) (ts : List Term)
    {fs : List Frame} {gs : List TextFrame} (callers : FramesLike (Like ms) fs gs) (c : Counts) where
  -- the code follows the terms after the move
  abbrev Rest : ℕ → Type 0
  Rest = FollowsFrom w ts

  -- the value taken, and those left
  abbrev taken : Value
  taken = get_or (take 1 w.values) 0 empty

  abbrev left : List Value
  left = drop 1 w.values

  -- the frames at instruction i of their method, with these values
  abbrev jumped-with : ℕ → List Value → Stand ms
  jumped-with i vs = with-values (jumped w i) vs

  -- they are alike
  jumped-like : (i : ℕ) (us : List Term) (vs : List Value) → FollowsFrom w us i
      → FramesLike (Like ms) (table-frame (jumped-with i vs) ∷ fs) (text-frame (jumped-with i vs) us ∷ gs)
  jumped-like i us vs follows = one_more (like (jumped-with i vs) us follows) callers

  -- if (•) S
  pub if-like : (s : Statement) (h : FollowIf ms w.method s Rest w.scope w.at)
      → Does ms outcomes w ts callers c 18 h.target 1 (if_true s)
  unfolding doing_of doings do_j_false passed_by rule
  if-like s h =
      bool-like ms outcomes taken
      (elim [
        | true ↦
            both_go [] 0
            (passed-like w callers (performed ms s ts) left
            (stands ms w.method s ts w.scope h.slot (suc w.at) h.fits h.branch))
        | false ↦ both_go [] 0 (jumped-like h.target ts left h.over)
      ])

  -- if (•) S else T, and the end of its first branch
  pub else-like : (s t : Statement) (h : FollowElse ms w.method s t Rest w.scope w.at)
      → Does ms outcomes w ts callers c 18 h.target 1 (if_else s t)
  unfolding doing_of doings do_j_false passed_by rule
  else-like s t h =
      bool-like ms outcomes taken
      (elim [
        | true ↦
            both_go [] 0
            (passed-like w callers (performed ms s (move branch_done ∷ ts)) left
            (stands ms w.method s (move branch_done ∷ ts) w.scope h.slot (suc w.at) h.fits h.branch))
        | false ↦
            both_go [] 0
            (jumped-like h.target (performed ms t ts) left
            (stands ms w.method t ts w.scope h.other-slot h.target h.other_fits h.other))
      ])

  -- the jump over the second branch
  pub jump-like : (h : FollowJump ms w.method Rest w.at)
      → Does ms outcomes w ts callers c 17 h.target 0 branch_done
  unfolding doing_of doings do_jump passed_by rule
  jump-like h = both_go [] 0 (jumped-like h.target ts w.values h.there)

  -- while (•) S, and the end of its body
  pub while-like : (e : Expr) (s : Statement) (h : FollowTest ms w.method e s Rest w.scope w.at)
      → Does ms outcomes w ts callers c 18 (loop-parts ms w.method e s ts w.scope h.loops).target 1
      (while_true e s)
  unfolding doing_of doings do_j_false passed_by rule
  while-like e s h =
      let parts : LoopParts ms w.method e s ts w.scope h.loops =
      loop-parts ms w.method e s ts w.scope h.loops in
      bool-like ms outcomes taken
      (elim [
        | true ↦
            both_go [] 0
            (passed-like w callers (performed ms s (move (body_done e s) ∷ ts)) left
            (subst (λ (j : ℕ). FollowsFrom w (performed ms s (move (body_done e s) ∷ ts)) (suc j)) (sym h.here)
            parts.body))
        | false ↦ both_go [] 0 (jumped-like parts.target ts left parts.over)
      ])

  -- the jump back
  pub back-like : (e : Expr) (s : Statement) (loops : FollowLoop ms w.method e s Rest w.scope)
      → Does ms outcomes w ts callers c 17 loops.begin 0 (body_done e s)
  unfolding doing_of doings do_jump passed_by rule
  back-like e s loops =
      both_go [] 0
      (jumped-like loops.begin (evaluated e (move (while_true e s) ∷ ts)) w.values
      (loop-parts ms w.method e s ts w.scope loops).again)

  -- the end of a body: RET in a void method, and else the slot that is never filled is read
  pub void-like : is_some w.method.returns ≡ false → Does ms outcomes w ts callers c 13 0 0 method_done
  unfolding doing_of doings do_ret rule running_off
  void-like e =
      subst (λ (b : Bool). Acts ms outcomes (return_to [] fs) (cond b (faults 20) (returning [] gs))) (sym e)
      (returned-like ms outcomes [] callers)

  -- the fault of running off
  pub run-off-like : is_some w.method.returns ≡ true
      → Does ms outcomes w ts callers c 3 (hole_of w.method) 0 method_done
  unfolding doing_of doings do_get passed_by rule running_off
  run-off-like e =
      subst (λ (b : Bool). Acts ms outcomes (present hole filled) (cond b (faults 20) (returning [] gs))) (sym e)
      (subst (λ (v : Value). Acts ms outcomes (present v filled) (faults 20)) (sym w.shown.hole-empty)
      (both-fault 20))
    where
      hole : Value
      hole = get_or w.slots (hole_of w.method) empty

      filled : Value → Act
      filled v = goes (table-frame (passed-with w (v ∷ w.values)) ∷ fs) [] 0
