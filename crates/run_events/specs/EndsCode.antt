-- What the functions that end a process leave. These definitions follow the code; that they are document 01's is proved
-- in proofs/.
use Rattle.std.specs.Prelude.{ℕ, List}
use Rattle.run_store.specs.StoreCode.{head_of, cleared_from, finished_head, stopped_head, put_status}

unfoldable pub stopped_words : List ℕ → ℕ → List ℕ
stopped_words w n = put_status w (stopped_head (head_of w) n)

unfoldable pub finished_words : List ℕ → List ℕ
finished_words w = put_status (cleared_from w 0 512) (finished_head (head_of w))
