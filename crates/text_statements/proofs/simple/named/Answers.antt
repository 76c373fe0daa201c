-- `named`: a name, and what comes after it.
use Rattle.text_types.proofs.Answers.{then, gone, stays}
use Rattle.text_statements.proofs.SimpleLaws.{named-says}
use Rattle.text_statements.proofs.simple.named.Goals as goal

pub returns-in_err-name : goal.returns-in_err-name
returns-in_err-name c =
    rw (stays c.from_residual.ensures) (named-says c.args.text.now c.args.starts.now c.args.n c.args.from c.in_err-name.ensures gone)

pub returns : goal.returns
returns c =
    named-says c.args.text.now c.args.starts.now c.args.n c.args.from c.in_ok-name.ensures (then c.after_name.ensures)
