-- `hash`: the bytes that are left make the rest of it.
use mathlib.Core.Path.{◌≡◌}
use Prim.Native.Nat.{◌<◌}
use lib.Seq.{slice}
use Rattle.text_open.specs.ClassCode.{hash_from}
use Rattle.text_open.proofs.class.hash.Given as goal

abbrev pub invariant-loop-i : goal.invariant-loop-i
invariant-loop-i l = (l.h < 251) × (hash_from 0 (slice l.start l.end l.text) ≡ hash_from l.h (slice l.i l.end l.text))
