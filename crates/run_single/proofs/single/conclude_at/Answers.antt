-- `conclude_at` carries the entry out in the part that it lends.
use Prim.Native.Nat.{ℕ}
use mathlib.Core.Path.{◌∙◌, ap₂}
use mathlib.Core.List.{List}
use Rattle.run_parts.specs.PartsCode.{part_of}
use Rattle.run_events.specs.ConcludeCode.{conclude_op}
use Rattle.run_single.specs.SingleCode.{in_part, concluded_at}
use Rattle.run_single.proofs.Returns.{lifted-left}
use Rattle.run_single.proofs.single.conclude_at.Goals as goal

pub returns : goal.returns
unfolding concluded_at
returns c =
    let args = c.args in
    lifted-left args.work.now args.n.0 c.part_at-from.ensures c.conclude.new.w
    (λ (l : List ℕ). conclude_op args.p.now l args.does c.get-qubits.result c.get-channels.result
    args.outcomes.now args.used) c.conclude.ensures
    ∙ ap₂
    (λ (q c : ℕ). in_part args.work.now args.n.0
    (conclude_op args.p.now (part_of args.work.now args.n.0) args.does q c args.outcomes.now
    args.used)) c.get-qubits.ensures c.get-channels.ensures
