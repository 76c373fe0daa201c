-- `condition`: a bracket, an expression and a bracket.
use Rattle.text_types.proofs.Answers.{then, gone, stays}
use Rattle.text_statements.proofs.SimpleLaws.{condition-says}
use Rattle.text_statements.proofs.parts.condition.Goals as goal

pub returns-in_err-open : goal.returns-in_err-open
returns-in_err-open c =
    rw (stays c.from_residual.ensures) (condition-says c.args.text.now c.args.starts.now c.args.n c.args.from c.in_err-open.ensures gone gone)

pub returns-in_err-e : goal.returns-in_err-e
returns-in_err-e c =
    rw (stays c.from_residual-in_err-e.ensures) (condition-says c.args.text.now c.args.starts.now c.args.n c.args.from c.in_ok-open.ensures (then c.in_err-e.ensures) gone)

pub returns : goal.returns
returns c =
    condition-says c.args.text.now c.args.starts.now c.args.n c.args.from c.in_ok-open.ensures (then c.in_ok-e.ensures) (then c.expect-2.ensures)
