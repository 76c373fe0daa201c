-- `wants_row` looks at the op and at the number of the method.
use Rattle.text_judge.specs.RowsCode.{op_in, arg_in}
use Rattle.text_judge.specs.JudgeCode.{wanted}
use Rattle.text_judge.proofs.marked.Marked.wants_row.Goals as goal

pub returns : goal.returns
unfolding wanted op_in arg_in
returns c = cc
