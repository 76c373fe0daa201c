-- What an entry reads of a process's part. These definitions follow the code.
use Rattle.std.specs.Prelude.{ℕ, Bool, List}
use Rattle.table.specs.Table.{arg_at}
use Rattle.run_store.specs.StoreCode.{head_of, top_at, empty_down}

unfoldable pub argument_in : List ℕ → List ℕ → ℕ
argument_in p w = arg_at p (head_of w).place

unfoldable pub empty_in : List ℕ → ℕ → Bool
empty_in w n = empty_down w (top_at (head_of w) 1) n
