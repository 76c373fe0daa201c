-- `recv_rest`: an expression in brackets.
use Rattle.text_types.proofs.Answers.{then, gone, stays}
use Rattle.text_statements.proofs.SimpleLaws.{recv-says}
use Rattle.text_statements.proofs.simple.recv_rest.Goals as goal

pub returns-in_err-open : goal.returns-in_err-open
returns-in_err-open c =
    rw (stays c.from_residual.ensures) (recv-says c.args.text.now c.args.starts.now c.args.n c.args.from c.in_err-open.ensures gone gone gone)

pub returns-in_err-channel : goal.returns-in_err-channel
returns-in_err-channel c =
    rw (stays c.from_residual-in_err-channel.ensures) (recv-says c.args.text.now c.args.starts.now c.args.n c.args.from c.in_ok-open.ensures (then c.in_err-channel.ensures) gone gone)

pub returns-in_err-close : goal.returns-in_err-close
returns-in_err-close c =
    rw (stays c.from_residual-in_err-close.ensures) (recv-says c.args.text.now c.args.starts.now c.args.n c.args.from c.in_ok-open.ensures (then c.in_ok-channel.ensures) (then c.in_err-close.ensures) gone)

pub returns : goal.returns
returns c =
    recv-says c.args.text.now c.args.starts.now c.args.n c.args.from c.in_ok-open.ensures (then c.in_ok-channel.ensures) (then c.in_ok-close.ensures) (then c.expect-3.ensures)
