-- The processes' parts of the work store, as lists of words. These definitions follow the code.
use Rattle.std.specs.Prelude.{ℕ, ◌+◌, ◌*◌, List, ◌++◌, take, drop}
use Rattle.run_values.specs.ValuesCode.{AfterStep, after_step}

-- where part n begins; it has 512 words. Everyone else goes by this name
abbrev pub part_at : ℕ → ℕ
part_at n = 512 + 512 * n

-- part n of the store, and the store with other words there
unfoldable pub part_of : List ℕ → ℕ → List ℕ
part_of work n = take 512 (drop (part_at n) work)

unfoldable pub with_part : List ℕ → ℕ → List ℕ → List ℕ
with_part work n ws = take (part_at n) work ++ (ws ++ drop 512 (drop (part_at n) work))

-- what was done to part n, as done to the store
unfoldable pub on_part : List ℕ → ℕ → AfterStep → AfterStep
on_part work n d = after_step d.result (with_part work n d.words)
