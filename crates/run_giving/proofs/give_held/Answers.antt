-- `give_held` goes the short way where all frames are within the part.
use mathlib.Core.Path.{refl}
use Rattle.run_giving.proofs.Laws.{qubit-given}
use Rattle.run_giving.proofs.give_held.Goals as goal

pub returns-then-frames-le8 : goal.returns-then-frames-le8
returns-then-frames-le8 c =
    qubit-given c.args.w.now c.args.v refl c.requires c.if-frames-le8.true
    c.give_qubit.ensures
