-- `run_top` tests the head before it is used.
use native.Mathlib.Omega.{arith}
use lib.ListN.{get_or}
use Rattle.run_stretch.specs.StretchCode.{begins}
use Rattle.run_cursor.proofs.Laid.{steady-first}
use Rattle.run_stretch.proofs.Runs.{frames-fit, head-fits, frames-read, place-fits}
use Rattle.run_stretch.proofs.stretch.run_top.Goals as goal

pub returns-then-frames : goal.returns-then-frames
returns-then-frames c = (begins, c.requires.2)

pub head_of-h-requires : goal.head_of-h-requires
head_of-h-requires c = (c.requires.3, (frames-fit (get_or c.args.w.now 2 0) c.if-frames.false).1)

pub returns-then-h : goal.returns-then-h
returns-then-h c = (begins, c.requires.2)

pub returns-in_default : goal.returns-in_default
returns-in_default c = (begins, c.requires.2)

pub returns-then-h-s : goal.returns-then-h-s
returns-then-h-s c = (begins, c.requires.2)

pub run_head-requires : goal.run_head-requires
run_head-requires c =
    let head = c.head_of-h.result in
    let frames = frames-fit (get_or c.args.w.now 2 0) c.if-frames.false in
    let count = frames-read c.args.w.now c.head_of-h.ensures in
    let fits = head-fits head.status head.pending c.if-h.false in
    let span = c.in-Some.s in
    let within = place-fits head.place span.first span.end c.if-h-s.false in
    let inside = c.in-Some.ensures.1 head.place within.0 within.1 in (
      steady-first c.args.w.now c.head_of-h.ensures c.requires.3
          (omega (arith, count, frames.0)) (omega (arith, count, frames.1)) fits.1,
      c.head_of-h.ensures,
      fits.0,
      inside.0,
      c.in-Some.ensures.0,
      c.requires.0,
      c.requires.1,
      inside.1,
      c.requires.2,
    )
