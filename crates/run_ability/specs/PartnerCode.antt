-- The partner of an offer, on the words of the store. These definitions follow the code; that they are document 01's
-- and Paper 6's is proved in proofs/.
use Rattle.std.specs.Prelude.{ℕ, ◌%◌, Bool, true, false, cond, ◌||◌, List, eqb, leb}
use Rattle.run_parts.specs.PartsCode.{part_of}
use Rattle.run_holders.specs.HoldersCode.{holder_in}
use Rattle.run_parts.specs.declared.readiness.Readiness.{Readiness}
use Rattle.run_parts.specs.ReadinessCode.{over_kind, end_offered, readiness_op, meets_op}

unfoldable pub opposite_of : ℕ → ℕ
opposite_of tag = cond (eqb tag 5) 1 0

-- What an offer finds: no partner that is ready, one that has gone, or one that is ready.
pub data Partner : Type 0 where
  waits : Partner
  gone : Partner
  ready : ℕ → Partner

-- the holder q of the opposite end is process n itself, or can be no process
unfoldable pub is_no_other : ℕ → ℕ → Bool
is_no_other n q = eqb q n || leb 8 q

-- the offer a of process n, where q holds the opposite end
unfoldable pub ready_op : List ℕ → List ℕ → ℕ → Readiness → ℕ → Partner
ready_op p work n a q =
    cond (is_no_other n q) gone
    (cond (over_kind (readiness_op p (part_of work q))) gone
    (cond (meets_op a (readiness_op p (part_of work q))) (ready q) waits))

-- an offer that finds this moves its process, by a meeting or by fault 33
unfoldable pub is_moving : Partner → Bool
is_moving waits = false
is_moving gone = true
is_moving (ready q) = true

unfoldable pub partner_op : List ℕ → List ℕ → List (List ℕ) → ℕ → Readiness → Partner
partner_op p work t n a = ready_op p work n a (holder_in t ((end_offered a).number % 65536) (opposite_of (end_offered a).tag))
