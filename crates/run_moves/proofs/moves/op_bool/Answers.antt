-- `op_bool` pushes the argument as a boolean.
use Rattle.run_values.specs.ValuesCode.{after_step}
use Rattle.run_moves.specs.MovesCode.{bool_op}
use Rattle.run_values.specs.declared.steps.StepResult.TheVariants.{WentOn}
use mathlib.Core.Path.{ap}
use Rattle.run_moves.proofs.moves.op_bool.Goals as goal

pub returns : goal.returns
unfolding bool_op
returns c = ap (after_step WentOn) c.push.ensures
