-- `act` is the op's own function, arm by arm.
use Rattle.run_ops.proofs.Unlisted.{unlisted}
use Rattle.run_ops.specs.OpsCode.{act_op, op_functions}
use mathlib.Core.Path.{◌∙◌, ap, sym}
use Prim.Native.Nat.{ℕ}
use Rattle.run_ops.proofs.step.act.Goals as goal

pub returns-in-1 : goal.returns-in-1
unfolding act_op op_functions
returns-in-1 c =
    let args = c.args in
    c.op_int.ensures
    ∙ ap (λ (o : ℕ). act_op args.p.now args.w.now args.h o args.a) (sym c.in-1.is)

pub returns-in-2 : goal.returns-in-2
unfolding act_op op_functions
returns-in-2 c =
    let args = c.args in
    c.op_bool.ensures
    ∙ ap (λ (o : ℕ). act_op args.p.now args.w.now args.h o args.a) (sym c.in-2.is)

pub returns-in-3 : goal.returns-in-3
unfolding act_op op_functions
returns-in-3 c =
    let args = c.args in
    c.op_get.ensures
    ∙ ap (λ (o : ℕ). act_op args.p.now args.w.now args.h o args.a) (sym c.in-3.is)

pub returns-in-4 : goal.returns-in-4
unfolding act_op op_functions
returns-in-4 c =
    let args = c.args in
    c.op_put.ensures
    ∙ ap (λ (o : ℕ). act_op args.p.now args.w.now args.h o args.a) (sym c.in-4.is)

pub returns-in-5 : goal.returns-in-5
unfolding act_op op_functions
returns-in-5 c =
    let args = c.args in
    c.op_drop.ensures
    ∙ ap (λ (o : ℕ). act_op args.p.now args.w.now args.h o args.a) (sym c.in-5.is)

pub returns-in-6 : goal.returns-in-6
unfolding act_op op_functions
returns-in-6 c =
    let args = c.args in
    c.op_clear.ensures
    ∙ ap (λ (o : ℕ). act_op args.p.now args.w.now args.h o args.a) (sym c.in-6.is)

pub returns-in-7 : goal.returns-in-7
unfolding act_op op_functions
returns-in-7 c =
    let args = c.args in
    ap (λ (o : ℕ). act_op args.p.now args.w.now args.h o args.a) (sym c.in-7.is)

pub returns-in-8 : goal.returns-in-8
unfolding act_op op_functions
returns-in-8 c =
    let args = c.args in
    ap (λ (o : ℕ). act_op args.p.now args.w.now args.h o args.a) (sym c.in-8.is)

pub returns-in-9 : goal.returns-in-9
unfolding act_op op_functions
returns-in-9 c =
    let args = c.args in
    c.op_end.ensures
    ∙ ap (λ (o : ℕ). act_op args.p.now args.w.now args.h o args.a) (sym c.in-9.is)

pub returns-in-10 : goal.returns-in-10
unfolding act_op op_functions
returns-in-10 c =
    let args = c.args in
    ap (λ (o : ℕ). act_op args.p.now args.w.now args.h o args.a) (sym c.in-10.is)

pub returns-in-11 : goal.returns-in-11
unfolding act_op op_functions
returns-in-11 c =
    let args = c.args in
    ap (λ (o : ℕ). act_op args.p.now args.w.now args.h o args.a) (sym c.in-11.is)

pub returns-in-12 : goal.returns-in-12
unfolding act_op op_functions
returns-in-12 c =
    let args = c.args in
    c.op_call.ensures
    ∙ ap (λ (o : ℕ). act_op args.p.now args.w.now args.h o args.a) (sym c.in-12.is)

pub returns-in-13 : goal.returns-in-13
unfolding act_op op_functions
returns-in-13 c =
    let args = c.args in
    c.op_ret.ensures
    ∙ ap (λ (o : ℕ). act_op args.p.now args.w.now args.h o args.a) (sym c.in-13.is)

pub returns-in-14 : goal.returns-in-14
unfolding act_op op_functions
returns-in-14 c =
    let args = c.args in
    ap (λ (o : ℕ). act_op args.p.now args.w.now args.h o args.a) (sym c.in-14.is)

pub returns-in-15 : goal.returns-in-15
unfolding act_op op_functions
returns-in-15 c =
    let args = c.args in
    ap (λ (o : ℕ). act_op args.p.now args.w.now args.h o args.a) (sym c.in-15.is)

pub returns-in-16 : goal.returns-in-16
unfolding act_op op_functions
returns-in-16 c =
    let args = c.args in
    ap (λ (o : ℕ). act_op args.p.now args.w.now args.h o args.a) (sym c.in-16.is)

pub returns-in-17 : goal.returns-in-17
unfolding act_op op_functions
returns-in-17 c =
    let args = c.args in
    c.op_jump.ensures
    ∙ ap (λ (o : ℕ). act_op args.p.now args.w.now args.h o args.a) (sym c.in-17.is)

pub returns-in-18 : goal.returns-in-18
unfolding act_op op_functions
returns-in-18 c =
    let args = c.args in
    c.op_jfalse.ensures
    ∙ ap (λ (o : ℕ). act_op args.p.now args.w.now args.h o args.a) (sym c.in-18.is)

pub returns-in-19 : goal.returns-in-19
unfolding act_op op_functions
returns-in-19 c =
    let args = c.args in
    c.op_add.ensures
    ∙ ap (λ (o : ℕ). act_op args.p.now args.w.now args.h o args.a) (sym c.in-19.is)

pub returns-in-20 : goal.returns-in-20
unfolding act_op op_functions
returns-in-20 c =
    let args = c.args in
    c.op_sub.ensures
    ∙ ap (λ (o : ℕ). act_op args.p.now args.w.now args.h o args.a) (sym c.in-20.is)

pub returns-in-21 : goal.returns-in-21
unfolding act_op op_functions
returns-in-21 c =
    let args = c.args in
    c.op_eq.ensures
    ∙ ap (λ (o : ℕ). act_op args.p.now args.w.now args.h o args.a) (sym c.in-21.is)

pub returns-in-22 : goal.returns-in-22
unfolding act_op op_functions
returns-in-22 c =
    let args = c.args in
    c.op_less.ensures
    ∙ ap (λ (o : ℕ). act_op args.p.now args.w.now args.h o args.a) (sym c.in-22.is)

pub returns-in-23 : goal.returns-in-23
unfolding act_op op_functions
returns-in-23 c =
    let args = c.args in
    c.op_not.ensures
    ∙ ap (λ (o : ℕ). act_op args.p.now args.w.now args.h o args.a) (sym c.in-23.is)

pub returns-in_default : goal.returns-in_default
returns-in_default c =
    let args = c.args in
    unlisted args.p.now args.w.now args.h args.op args.a c.in_default.in_default-own.rest
