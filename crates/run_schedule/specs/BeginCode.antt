-- The store at the start of a run. These definitions follow the code.
use Rattle.std.specs.Prelude.{ℕ, zero, suc, ◌+◌, List, set}
use Rattle.run_store.specs.StoreCode.{cleared_from}
use Rattle.run_transfer.specs.TransferCode.{began_at}

-- the first j of the stored holders say that the thing is not made
unfoldable pub none_stored : List ℕ → ℕ → List ℕ
none_stored w zero = w
none_stored w (suc j) = set (none_stored w j) (8192 + j) 255

-- the first n words cleared, process 0 begun, and no holder stored
unfoldable pub start_store : List ℕ → List ℕ → ℕ → List ℕ
start_store p work n = none_stored (began_at p (set (cleared_from work 0 n) 0 1) 0 0) 64
