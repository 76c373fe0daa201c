-- `hand_arg` writes one operand into one slot of the child.
use Rattle.run_transfer.specs.TransferCode.{arg_handed}
use Rattle.run_parts.proofs.Lifted.{lifted-words}
use Rattle.run_parts.specs.PartsCode.{part_of, with_part}
use Rattle.run_store.specs.declared.values.Val.{Val}
use Rattle.run_store.specs.StoreCode.{put_value}
use mathlib.Core.Path.{◌∙◌, ap}
use mathlib.Core.List.{List}
use Prim.Native.Nat.{ℕ, ◌+◌, ◌*◌}
use Rattle.run_transfer.proofs.forks.hand_arg.Goals as goal

pub returns : goal.returns
unfolding arg_handed
returns c =
    let args = c.args in
    lifted-words args.work.now args.child.0 c.part_at-from.ensures c.put_value.new.w
    (λ (l : List ℕ). put_value l (64 + 2 * args.j) c.operand_of-v.result)
    c.put_value.ensures
    ∙ ap
    (λ (v : Val). with_part args.work.now args.child.0
    (put_value (part_of args.work.now args.child.0) (64 + 2 * args.j) v)) c.operand_of-v.ensures
