-- `first_pair` searches the pairs: every pair below `m` keeps its rule, and `start` is where the next one must start.
use mathlib.Core.Path.{◌≡◌}
use Rattle.lists.specs.Lists.{first_false}
use Rattle.table.specs.Questions.{start_of, pair_kept}
use Rattle.check_shape.proofs.pairs.first_pair.Given as goal

abbrev pub invariant-loop-m : goal.invariant-loop-m
invariant-loop-m l = (first_false (pair_kept l.p) l.m ≡ l.m) × (l.start ≡ start_of l.p l.m)
