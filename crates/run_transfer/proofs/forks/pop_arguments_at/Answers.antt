-- `pop_arguments_at` lends the forking process's part on.
use Rattle.run_giving.specs.GivingCode.{arguments_popped}
use Rattle.run_parts.proofs.Lifted.{lifted-words}
use mathlib.Core.List.{List}
use Prim.Native.Nat.{ℕ}
use Rattle.run_transfer.proofs.forks.pop_arguments_at.Goals as goal

pub returns : goal.returns
returns c =
    let args = c.args in
    lifted-words args.work.now args.n.0 c.part_at-from.ensures
    c.pop_arguments.new.w (λ (l : List ℕ). arguments_popped l args.args)
    c.pop_arguments.ensures
