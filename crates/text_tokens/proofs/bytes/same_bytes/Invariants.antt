-- `same_bytes`: the bytes from each index on are the same where the parts are.
use Prim.Native.Nat.{◌-◌}
use mathlib.Core.Path.{◌≡◌}
use lib.ListN.{length, drop}
use lib.Seq.{slice}
use Rattle.lists.specs.Lists.{same}
use Rattle.text_tokens.proofs.bytes.same_bytes.Given as goal

abbrev pub invariant-loop-k : goal.invariant-loop-k
invariant-loop-k l = (l.n ≡ length (slice l.from l.to l.a)) × ((l.n ≡ length (slice l.start l.end l.b))
    × (same (drop l.k (slice l.from l.to l.a)) (drop l.k (slice l.start l.end l.b)) ≡ same (slice l.from l.to l.a) (slice l.start l.end l.b)))

abbrev pub decreases-loop-k : goal.decreases-loop-k
decreases-loop-k l = l.n - l.k
