-- `step_process` lends the process's part on.
use Rattle.run_parts.proofs.Lifted.{lifted}
use Rattle.run_ops.specs.OpsCode.{step_op}
use Rattle.run_parts.proofs.part.step_process.Goals as goal

pub returns : goal.returns
returns c =
    let args = c.args in
    lifted args.work.now args.n.0 c.part_at-from.ensures c.step.result
    c.step.new.w (step_op args.p.now) c.step.ensures
