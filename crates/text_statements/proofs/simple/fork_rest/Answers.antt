-- `fork_rest`: a name and arguments.
use Rattle.text_types.proofs.Answers.{then, gone, stays}
use Rattle.text_statements.proofs.SimpleLaws.{fork-says}
use Rattle.text_statements.proofs.simple.fork_rest.Goals as goal

pub returns-in_err-name : goal.returns-in_err-name
returns-in_err-name c =
    rw (stays c.from_residual.ensures) (fork-says c.args.text.now c.args.starts.now c.args.n c.args.from c.in_err-name.ensures gone gone gone)

pub returns-in_err-open : goal.returns-in_err-open
returns-in_err-open c =
    rw (stays c.from_residual-in_err-open.ensures) (fork-says c.args.text.now c.args.starts.now c.args.n c.args.from c.in_ok-name.ensures (then c.in_err-open.ensures) gone gone)

pub returns-in_err-list : goal.returns-in_err-list
returns-in_err-list c =
    rw (stays c.from_residual-in_err-list.ensures) (fork-says c.args.text.now c.args.starts.now c.args.n c.args.from c.in_ok-name.ensures (then c.in_ok-open.ensures) (then c.in_err-list.ensures) gone)

pub returns : goal.returns
returns c =
    fork-says c.args.text.now c.args.starts.now c.args.n c.args.from c.in_ok-name.ensures (then c.in_ok-open.ensures) (then c.in_ok-list.ensures) (then c.expect-3.ensures)
