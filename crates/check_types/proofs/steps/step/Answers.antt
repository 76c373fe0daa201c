-- `step` follows the op's rule of types, arm by arm.
use mathlib.Core.Path.{refl, ◌∙◌}
use mathlib.Core.List.{[], ◌∷◌}
use mir.Facts.{ltb_yes}
use Rattle.table.specs.Table.{is_channel, is_end, end_of_channel, carried_by}
use Rattle.check_types.specs.RulesCode.{step_of, stepped, take_offs, ended, received}
use Rattle.table.proofs.Ops.{ops-opened, none-listed}
use Rattle.check_types.proofs.Rules.{carried-small, gives-value, leaves_nothing, drops-one, top-changes, sends, gates}
use Rattle.check_types.proofs.Rules.{leaves, calls, forks, ready-slot, ready-row, ready-callee}
use Rattle.check_types.proofs.steps.step.Goals as goal

pub get-requires : goal.get-requires
unfolding ops-opened
get-requires c =
    let pre = c.requires in
    (ready-slot _ _ _ _ _ pre (rw c.in-3.is at pre.argument))

pub put-requires : goal.put-requires
unfolding ops-opened
put-requires c =
    let pre = c.requires in
    (ready-slot _ _ _ _ _ pre (rw c.in-4.is at pre.argument))

pub new_channel-requires : goal.new_channel-requires
unfolding ops-opened
new_channel-requires c =
    let pre = c.requires in
    (carried-small _ (rw c.in-8.is at pre.argument))

pub row_of-requires : goal.row_of-requires
unfolding ops-opened
row_of-requires c =
    let pre = c.requires in
    (pre.sizes, pre.methods-count, ltb_yes (rw c.in-12.is at pre.argument))

pub call-requires : goal.call-requires
unfolding ops-opened
call-requires c =
    let pre = c.requires in
    (ready-callee _ _ _ _ _ pre (rw c.in-12.is at pre.argument) c.row_of.ensures)

pub ret-requires : goal.ret-requires
ret-requires c =
    let pre = c.requires in
    (ready-row _ _ _ _ _ pre)

pub row_of-requires-in-14 : goal.row_of-requires-in-14
unfolding ops-opened
row_of-requires-in-14 c =
    let pre = c.requires in
    (pre.sizes, pre.methods-count, ltb_yes (rw c.in-14.is at pre.argument))

pub fork-requires : goal.fork-requires
unfolding ops-opened
fork-requires c =
    let pre = c.requires in
    (ready-callee _ _ _ _ _ pre (rw c.in-14.is at pre.argument) c.row_of-in-14.ensures)

pub returns-in-1 : goal.returns-in-1
unfolding stepped take_offs step_of ops-opened
returns-in-1 c =
    let args = c.args in
    let pre = c.requires in
    (rw c.in-1.is (c.on.ensures ∙ gives-value args.q [] 1))

pub returns-in-2 : goal.returns-in-2
unfolding stepped take_offs step_of ops-opened
returns-in-2 c =
    let args = c.args in
    let pre = c.requires in
    (rw c.in-2.is (c.on-in-2.ensures ∙ gives-value args.q [] 2))

pub returns-in-3 : goal.returns-in-3
unfolding stepped take_offs step_of ops-opened
returns-in-3 c =
    let args = c.args in
    let pre = c.requires in
    (rw c.in-3.is (c.get.ensures ∙ gives-value args.q [] _))

pub returns-in-4 : goal.returns-in-4
unfolding stepped take_offs ops-opened
returns-in-4 c =
    let pre = c.requires in (
    rw c.in-4.is (c.put.ensures ∙ gives-value c.args.q (_ ∷ []) _))

pub returns-in-5 : goal.returns-in-5
unfolding stepped ops-opened
returns-in-5 c =
    let args = c.args in
    let pre = c.requires in
    (rw c.in-5.is (c.dropped.ensures ∙ drops-one args.q))

pub returns-in-6 : goal.returns-in-6
unfolding stepped take_offs step_of ops-opened
returns-in-6 c =
    let args = c.args in
    let pre = c.requires in
    (rw c.in-6.is (c.bare.ensures ∙ leaves_nothing args.q []))

pub returns-in-7 : goal.returns-in-7
unfolding stepped take_offs ops-opened
returns-in-7 c =
    let args = c.args in
    let pre = c.requires in
    (rw c.in-7.is (c.on-in-7.ensures ∙ gives-value args.q [] 3))

pub returns-in-8 : goal.returns-in-8
unfolding stepped take_offs step_of ops-opened
returns-in-8 c =
    let pre = c.requires in (
    rw c.in-8.is (c.new_channel.ensures ∙ gives-value c.args.q [] _))

pub returns-in-9 : goal.returns-in-9
unfolding stepped ended ops-opened
returns-in-9 c =
    let pre = c.requires in (
    rw c.in-9.is
    (c.end.ensures ∙ top-changes c.args.q is_channel end_of_channel refl))

pub returns-in-10 : goal.returns-in-10
unfolding stepped ops-opened
returns-in-10 c =
    let args = c.args in
    let pre = c.requires in
    (rw c.in-10.is (c.gate.ensures ∙ gates args.q _))

pub returns-in-11 : goal.returns-in-11
unfolding stepped take_offs ops-opened
returns-in-11 c =
    let pre = c.requires in (
    rw c.in-11.is (c.one.ensures ∙ gives-value c.args.q (3 ∷ []) 1))

pub returns-in-12 : goal.returns-in-12
unfolding stepped ops-opened
returns-in-12 c =
    let pre = c.requires in
    let match = c.in-12 in
    let args = c.args in
    let callee = ready-callee _ _ _ _ _ pre (rw match.is at pre.argument) c.row_of.ensures in
    (rw match.is (c.call.ensures ∙ calls args.q _ _ _ callee))

pub returns-in-13 : goal.returns-in-13
unfolding stepped ops-opened
returns-in-13 c =
    let args = c.args in
    let pre = c.requires in
    (rw c.in-13.is (c.ret.ensures ∙ leaves args.q _))

pub returns-in-14 : goal.returns-in-14
unfolding stepped ops-opened
returns-in-14 c =
    let pre = c.requires in
    let match = c.in-14 in
    let args = c.args in
    let callee = ready-callee _ _ _ _ _ pre (rw match.is at pre.argument) c.row_of-in-14.ensures in
    (rw match.is (c.fork.ensures ∙ forks args.q _ _ _ callee))

pub returns-in-15 : goal.returns-in-15
unfolding stepped ops-opened
returns-in-15 c =
    let args = c.args in
    let pre = c.requires in
    (rw c.in-15.is (c.send.ensures ∙ sends args.q))

pub returns-in-16 : goal.returns-in-16
unfolding stepped received ops-opened
returns-in-16 c =
    let pre = c.requires in (
    rw c.in-16.is (c.recv.ensures ∙ top-changes c.args.q is_end carried_by
    refl))

pub returns-in-17 : goal.returns-in-17
unfolding stepped take_offs step_of ops-opened
returns-in-17 c =
    let pre = c.requires in (
    rw c.in-17.is (c.bare-in-17.ensures ∙ leaves_nothing c.args.q []))

pub returns-in-18 : goal.returns-in-18
unfolding stepped take_offs ops-opened
returns-in-18 c =
    let pre = c.requires in (
    rw c.in-18.is (c.jump_on_false.ensures ∙ leaves_nothing c.args.q
    (2 ∷ [])))

pub returns-in-19 : goal.returns-in-19
unfolding stepped take_offs ops-opened
returns-in-19 c =
    let pre = c.requires in (
    rw c.in-19.is (c.two.ensures ∙ gives-value c.args.q (1 ∷ 1 ∷ []) 1))

pub returns-in-20 : goal.returns-in-20
unfolding stepped take_offs ops-opened
returns-in-20 c =
    let pre = c.requires in (
    rw c.in-20.is (c.two-in-20.ensures ∙ gives-value c.args.q (1 ∷ 1 ∷ []) 1))

pub returns-in-21 : goal.returns-in-21
unfolding stepped take_offs ops-opened
returns-in-21 c =
    let pre = c.requires in (
    rw c.in-21.is (c.two-in-21.ensures ∙ gives-value c.args.q (1 ∷ 1 ∷ []) 2))

pub returns-in-22 : goal.returns-in-22
unfolding stepped take_offs ops-opened
returns-in-22 c =
    let pre = c.requires in (
    rw c.in-22.is (c.two-in-22.ensures ∙ gives-value c.args.q (1 ∷ 1 ∷ []) 2))

pub returns-in-23 : goal.returns-in-23
unfolding stepped take_offs ops-opened
returns-in-23 c =
    let pre = c.requires in (
    rw c.in-23.is (c.one-in-23.ensures ∙ gives-value c.args.q (2 ∷ []) 2))

pub returns-in_default : goal.returns-in_default
unfolding ops-opened
returns-in_default c =
    let pre = c.requires in
    absurd (rw (none-listed _ c.in_default.in_default-own.rest) at pre.argument)
