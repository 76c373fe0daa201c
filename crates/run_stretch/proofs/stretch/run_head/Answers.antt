-- `run_head` goes through the top frame, and then takes CALL or RET.
use mathlib.Core.Path.{◌∙◌}
use borrow.Author.Tests.{not-false}
use Rattle.run_cursor.specs.CursorCode.{head_with}
use native.Mathlib.Omega.{arith}
use Rattle.run_stretch.proofs.Within.{low-place, words-there}
use Rattle.run_stretch.proofs.Runs.{ran-top, head-there, ran-changed, ran-left}
use Rattle.run_stretch.proofs.stretch.run_head.Goals as goal

pub overflow_cast-g : goal.overflow_cast-g
overflow_cast-g c = omega (arith, low-place c.requires.6 c.run_frame-r.ensures.4)

pub overflow_mul-r : goal.overflow_mul-r
overflow_mul-r c = omega (arith, low-place c.requires.6 c.run_frame-r.ensures.4)

pub overflow_add-start : goal.overflow_add-start
overflow_add-start c = omega (arith, words-there c.requires.6 c.run_frame-r.ensures.4 c.requires.5)

pub returns-then-not-r : goal.returns-then-not-r
unfolding head_with
returns-then-not-r c =
    let ran = c.run_frame-r.result in (
      ran-top c.run_frame-r.new.w ran.cursor c.requires.1 c.run_frame-r.ensures.0 c.put_top.ensures,
      c.run_frame-r.ensures.2,
    )

pub change_frame-requires : goal.change_frame-requires
unfolding head_with
change_frame-requires c =
    let ran = c.run_frame-r.result in
    let s = c.run_frame-r.ensures.1 in (
      s.long,
      s.most,
      s.few,
      c.requires.2,
      omega (arith, c.requires.5),
      c.requires.6,
      (c.run_frame-r.ensures.3 (not-false ran.halted c.if-not-r.false)).inside,
      head-there c.args.h c.run_frame-r.new.w ran.cursor s,
    )

pub returns-then-change_frame : goal.returns-then-change_frame
unfolding head_with
returns-then-change_frame c =
    let ran = c.run_frame-r.result in
    let s = c.run_frame-r.ensures.1 in
    ran-changed c.run_frame-r.new.w ran.cursor c.requires.1 c.run_frame-r.ensures.0 s
    (c.run_frame-r.ensures.3 (not-false ran.halted c.if-not-r.false)) c.change_frame.ensures
    (c.change_frame.auto.w ∙ s.long) c.if-change_frame.true

pub returns : goal.returns
unfolding head_with
returns c = (
  ran-left c.run_frame-r.new.w c.run_frame-r.result.cursor c.requires.1 c.run_frame-r.ensures.0 c.change_frame.ensures
      c.if-change_frame.false,
  c.run_frame-r.ensures.2,
)
