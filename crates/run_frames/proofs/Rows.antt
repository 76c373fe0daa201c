-- The words of a method in an accepted table.
use Prim.Native.Nat.{ℕ, ◌+◌, ◌*◌, ◌<◌}
use mathlib.Core.List.{List}
use native.Mathlib.Omega.{arith}
use lib.ListN.{length, get_or}
use Rattle.table.specs.Table.{word, methods}
use Rattle.table.proofs.Accepted.{Kept}

-- a method of the table: its two words and the first two of its row
module _ {p : List ℕ} (k : Kept p) {m : ℕ} (l : m < methods p) where
  pub pair-there : 3 + 2 * m < length p
  pair-there = omega (arith, l, k.sizes.words)

  pub row-words : 2 + 2 * get_or p 0 0 + 18 * m + 1 < length p
  unfolding methods word
  row-words = omega (arith, l, k.sizes.words)
