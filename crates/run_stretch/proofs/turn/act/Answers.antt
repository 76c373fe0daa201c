-- `act` goes by the op's number.
use Prim.Native.Nat.{ℕ}
use mathlib.Core.Path.{refl, sym, ◌∙◌, ap}
use mathlib.Core.Logic.{⊎_elim}
use Rattle.run_values.specs.ValuesCode.{after_step, int_val, push_on}
use Rattle.run_moves.specs.MovesCode.{int_op, bool_op, clear_op}
use Rattle.run_values.specs.declared.steps.StepResult.TheVariants.{WentOn}
use Rattle.run_ops.specs.OpsCode.{op_functions, act_op}
use Rattle.run_cursor.specs.CursorCode.{head_with, laid}
use Rattle.run_cursor.proofs.Shapes.{went_in, goes_in}
use Rattle.run_stretch.proofs.Runs.{by-op}
use Rattle.run_stretch.proofs.Within.{steps-inside, lands-inside, slot-of-get, slot-of-put, slot-of-clear}
use Rattle.run_stretch.proofs.turn.act.Goals as goal

pub get-requires : goal.get-requires
get-requires c = (
  c.requires.0,
  c.requires.1,
  slot-of-get
      c.requires.4 c.requires.5 c.in-3.is,
)

pub put-requires : goal.put-requires
put-requires c = (
  c.requires.0,
  c.requires.1,
  slot-of-put
      c.requires.4 c.requires.5 c.in-4.is,
)

pub store_slot-requires : goal.store_slot-requires
store_slot-requires c = (
  c.requires.0,
  c.requires.1,
  slot-of-clear c.requires.4 c.requires.5
      c.in-6.is,
)

pub returns-in-1 : goal.returns-in-1
unfolding act_op op_functions int_op
returns-in-1 c =
    let args = c.args in
    goes_in _ _ _ _ c.push.result _
    (by-op args.p.now (laid args.w.now args.h args.c) (head_with args.h args.c) args.a
    c.in-1.is
    ∙ ap (λ (x : ℕ). after_step WentOn (push_on (laid args.w.now args.h args.c) (head_with args.h args.c)
    (int_val x)))
    (sym c.extend-number.ensures))
    (steps-inside c.requires.4
    c.requires.5 1
    c.in-1.is refl)
    c.push.ensures

pub returns-in-2 : goal.returns-in-2
unfolding act_op op_functions bool_op
returns-in-2 c =
    let args = c.args in
    goes_in _ _ _ _ c.push-in-2.result _
    (by-op args.p.now (laid args.w.now args.h args.c) (head_with args.h args.c) args.a
    c.in-2.is)
    (steps-inside c.requires.4
    c.requires.5 2
    c.in-2.is refl)
    c.push-in-2.ensures

pub returns-in-3 : goal.returns-in-3
unfolding act_op op_functions
returns-in-3 c =
    let args = c.args in
    goes_in _ _ _ _ c.get.result _
    (by-op args.p.now (laid args.w.now args.h args.c) (head_with args.h args.c) args.a
    c.in-3.is)
    (steps-inside c.requires.4
    c.requires.5 3
    c.in-3.is refl)
    c.get.ensures

pub returns-in-4 : goal.returns-in-4
unfolding act_op op_functions
returns-in-4 c =
    let args = c.args in
    goes_in _ _ _ _ c.put.result _
    (by-op args.p.now (laid args.w.now args.h args.c) (head_with args.h args.c) args.a
    c.in-4.is)
    (steps-inside c.requires.4
    c.requires.5 4
    c.in-4.is refl)
    c.put.ensures

pub returns-in-5 : goal.returns-in-5
unfolding act_op op_functions
returns-in-5 c =
    let args = c.args in
    goes_in _ _ _ _ c.drop_top.result _
    (by-op args.p.now (laid args.w.now args.h args.c) (head_with args.h args.c) args.a
    c.in-5.is)
    (steps-inside c.requires.4
    c.requires.5 5
    c.in-5.is refl)
    c.drop_top.ensures

pub returns-in-6 : goal.returns-in-6
unfolding act_op op_functions clear_op
returns-in-6 c =
    let args = c.args in
    went_in
    (by-op args.p.now (laid args.w.now args.h args.c) (head_with args.h args.c) args.a
    c.in-6.is)
    (steps-inside c.requires.4
    c.requires.5 6
    c.in-6.is refl)
    (rw c.empty.ensures at c.store_slot.ensures)

pub returns-in-9 : goal.returns-in-9
unfolding act_op op_functions
returns-in-9 c =
    let args = c.args in
    goes_in _ _ _ _ c.end_of.result _
    (by-op args.p.now (laid args.w.now args.h args.c) (head_with args.h args.c) args.a
    c.in-9.is)
    (steps-inside c.requires.4
    c.requires.5 9
    c.in-9.is refl)
    c.end_of.ensures

pub returns-in-17 : goal.returns-in-17
unfolding act_op op_functions
returns-in-17 c =
    let args = c.args in
    went_in
    (by-op args.p.now (laid args.w.now args.h args.c) (head_with args.h args.c) args.a
    c.in-17.is)
    (lands-inside c.requires.4
    c.requires.5 17
    c.in-17.is tt
    c.requires.2)
    c.jump.ensures

pub returns-in-18 : goal.returns-in-18
unfolding act_op op_functions
returns-in-18 c =
    let args = c.args in
    goes_in _ _ _ _ c.jump_on_false.result _
    (by-op args.p.now (laid args.w.now args.h args.c) (head_with args.h args.c) args.a
    c.in-18.is)
    (λ x y. ⊎_elim (lands-inside c.requires.4
    c.requires.5 18
    c.in-18.is tt
    c.requires.2 x)
    (steps-inside c.requires.4
    c.requires.5 18
    c.in-18.is refl x) y)
    c.jump_on_false.ensures

pub returns-in-19 : goal.returns-in-19
unfolding act_op op_functions
returns-in-19 c =
    let args = c.args in
    goes_in _ _ _ _ c.add.result _
    (by-op args.p.now (laid args.w.now args.h args.c) (head_with args.h args.c) args.a
    c.in-19.is)
    (steps-inside c.requires.4
    c.requires.5 19
    c.in-19.is refl)
    c.add.ensures

pub returns-in-20 : goal.returns-in-20
unfolding act_op op_functions
returns-in-20 c =
    let args = c.args in
    goes_in _ _ _ _ c.sub.result _
    (by-op args.p.now (laid args.w.now args.h args.c) (head_with args.h args.c) args.a
    c.in-20.is)
    (steps-inside c.requires.4
    c.requires.5 20
    c.in-20.is refl)
    c.sub.ensures

pub returns-in-21 : goal.returns-in-21
unfolding act_op op_functions
returns-in-21 c =
    let args = c.args in
    goes_in _ _ _ _ c.eq.result _
    (by-op args.p.now (laid args.w.now args.h args.c) (head_with args.h args.c) args.a
    c.in-21.is)
    (steps-inside c.requires.4
    c.requires.5 21
    c.in-21.is refl)
    c.eq.ensures

pub returns-in-22 : goal.returns-in-22
unfolding act_op op_functions
returns-in-22 c =
    let args = c.args in
    goes_in _ _ _ _ c.less.result _
    (by-op args.p.now (laid args.w.now args.h args.c) (head_with args.h args.c) args.a
    c.in-22.is)
    (steps-inside c.requires.4
    c.requires.5 22
    c.in-22.is refl)
    c.less.ensures

pub returns-in-23 : goal.returns-in-23
unfolding act_op op_functions
returns-in-23 c =
    let args = c.args in
    goes_in _ _ _ _ c.not.result _
    (by-op args.p.now (laid args.w.now args.h args.c) (head_with args.h args.c) args.a
    c.in-23.is)
    (steps-inside c.requires.4
    c.requires.5 23
    c.in-23.is refl)
    c.not.ensures
