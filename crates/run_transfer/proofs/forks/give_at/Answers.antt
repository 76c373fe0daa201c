-- `give_at` lends the giver's part on.
use Rattle.run_giving.specs.GivingCode.{given_words}
use Rattle.run_parts.proofs.Lifted.{lifted-words}
use mathlib.Core.List.{List}
use Prim.Native.Nat.{ℕ}
use Rattle.run_transfer.proofs.forks.give_at.Goals as goal

pub returns : goal.returns
returns c =
    let args = c.args in
    lifted-words args.work.now args.n.0 c.part_at-from.ensures c.give.new.w
    (λ (l : List ℕ). given_words l args.v) c.give.ensures
