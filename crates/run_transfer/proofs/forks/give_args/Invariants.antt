-- `give_args` goes through the slots: what stands in those before number j is given away.
use Rattle.run_transfer.specs.TransferCode.{args_given}
use lib.ListN.{length}
use mathlib.Core.Path.{◌≡◌}
use Rattle.run_transfer.proofs.forks.give_args.Given as goal

abbrev pub invariant-loop-j : goal.invariant-loop-j
invariant-loop-j l = (l.work ≡ args_given l.initial.work l.n.0 l.child.0 l.j) × (length l.work ≡ length l.initial.work)
