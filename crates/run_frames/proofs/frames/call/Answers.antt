-- `call` tests what the op tests, and that the values are there.
use mathlib.Core.Path.{refl, ◌∙◌}
use native.Mathlib.Omega.{arith}
use Rattle.run_frames.proofs.Calls.{was-done, was-left, arguments-fit, left-frames, calls}
use Rattle.run_frames.proofs.frames.call.Goals as goal

pub returns-then-h-ge8 : goal.returns-then-h-ge8
returns-then-h-ge8 c = was-left refl

pub returns-then-h-n : goal.returns-then-h-n
returns-then-h-n c = was-left refl

pub lacks-requires : goal.lacks-requires
lacks-requires c =
    let fits = arguments-fit
    c.args.h.pending
    c.params_of-n.result
    c.if-h-n.false in (
      omega (
        arith,
        c.requires.0,
        c.requires.1,
        c.requires.2,
      ),
      omega
          (arith, fits.0),
    )

pub returns-then-lacks : goal.returns-then-lacks
returns-then-lacks c = was-left refl

pub move_values-requires : goal.move_values-requires
move_values-requires c =
    let fits = arguments-fit c.args.h.pending c.params_of-n.result c.if-h-n.false in (
      omega (arith, c.requires.0, c.requires.1, c.requires.2),
      omega (arith, fits.0),
      omega
          (arith, c.requires.0, fits.1, c.if-h-ge8.false),
      c.requires.0,
    )

pub put_back-requires : goal.put_back-requires
put_back-requires c = (
  c.move_values.auto.w ∙ c.requires.0,
  left-frames c.args.h
      c.params_of-n.result c.requires.1 c.less.ensures c.step.ensures,
)

pub begin-requires : goal.begin-requires
begin-requires c = (
  c.requires.3,
  c.requires.4,
  c.put_back.auto.w
      ∙ c.move_values.auto.w ∙ c.requires.0,
  omega (arith, c.if-h-ge8.false),
)

pub returns : goal.returns
returns c =
    was-done
    (calls c.args.p.now c.args.w.now c.args.h c.args.a
    c.params_of-n.ensures c.if-h-ge8.false c.lacks.ensures c.if-lacks.false
    c.move_values.ensures
    c.less.ensures
    c.step.ensures
    c.put_back.ensures c.begin.ensures)
