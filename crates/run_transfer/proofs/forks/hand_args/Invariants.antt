-- `hand_args` goes through the arguments: those before number j are handed over.
use Rattle.run_transfer.specs.TransferCode.{args_handed}
use lib.ListN.{length}
use mathlib.Core.Path.{◌≡◌}
use Rattle.run_transfer.proofs.forks.hand_args.Given as goal

abbrev pub invariant-loop-j : goal.invariant-loop-j
invariant-loop-j l = (l.work ≡ args_handed l.initial.work l.n.0 l.child.0 l.args l.j) × (length l.work ≡ length l.initial.work)
