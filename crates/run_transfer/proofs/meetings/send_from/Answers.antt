-- `send_from` lends the sender's part on.
use Rattle.run_giving.specs.GivingCode.{sent_words}
use Rattle.run_parts.proofs.Lifted.{lifted-words}
use mathlib.Core.List.{List}
use Prim.Native.Nat.{ℕ}
use Rattle.run_transfer.proofs.meetings.send_from.Goals as goal

pub returns : goal.returns
returns c =
    let args = c.args in
    lifted-words args.work.now args.n.0 c.part_at-from.ensures c.send.new.w
    (λ (l : List ℕ). sent_words l args.v) c.send.ensures
