-- `run_frame` goes from step to step: those before it are plain.
use mathlib.Core.Path.{◌≡◌}
use lib.ListN.{length}
use Rattle.table.proofs.Owners.{Inside}
use Rattle.run_cursor.specs.CursorCode.{laid, HeadFits}
use Rattle.run_stretch.specs.StretchCode.{PlainSteps}
use Rattle.run_stretch.proofs.stretch.run_frame.Given as goal

abbrev pub invariant-loop-at : goal.invariant-loop-at
invariant-loop-at l = PlainSteps l.p l.schedule l.n l.from (laid l.initial.w l.h l.initial.cursor) l.at (laid l.w l.h l.cursor)
    × HeadFits l.h l.w l.cursor × (length l.w ≡ length l.initial.w)
    × Inside l.p l.h.method l.cursor.place
