-- `number_of`: with the digits still to come, the number read so far says what the whole part says.
use Prim.Native.Nat.{◌-◌}
use mathlib.Core.Path.{◌≡◌}
use lib.ListN.{length, drop}
use lib.Seq.{slice}
use Rattle.text_parse.specs.Tokens.{number_from}
use Rattle.text_tokens.specs.Numbers.{capped}
use Rattle.text_tokens.proofs.number.number_of.Given as goal

abbrev pub invariant-loop-k : goal.invariant-loop-k
invariant-loop-k l = (l.n ≡ length (slice l.start l.end l.text)) × ((capped l.v ≡ l.v)
    × (capped (number_from l.v (drop l.k (slice l.start l.end l.text))) ≡ capped (number_from 0 (slice l.start l.end l.text))))

abbrev pub decreases-loop-k : goal.decreases-loop-k
decreases-loop-k l = l.n - l.k
