-- `begin_at` lends the child's part on.
use Rattle.run_giving.specs.GivingCode.{began_words}
use Rattle.run_parts.proofs.Lifted.{lifted-words}
use mathlib.Core.List.{List}
use Prim.Native.Nat.{ℕ}
use Rattle.run_transfer.proofs.forks.begin_at.Goals as goal

pub returns : goal.returns
returns c =
    let args = c.args in
    lifted-words args.work.now args.child.0 c.part_at-from.ensures c.begin.new.w
    (λ (l : List ℕ). began_words args.p.now l args.m) c.begin.ensures
