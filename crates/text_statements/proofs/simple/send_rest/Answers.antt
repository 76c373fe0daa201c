-- `send_rest`: two expressions in brackets.
use Rattle.text_types.proofs.Answers.{then, gone, stays}
use Rattle.text_statements.proofs.SimpleLaws.{send-says}
use Rattle.text_statements.proofs.simple.send_rest.Goals as goal

pub returns-in_err-open : goal.returns-in_err-open
returns-in_err-open c =
    rw (stays c.from_residual.ensures) (send-says c.args.text.now c.args.starts.now c.args.n c.args.from c.in_err-open.ensures gone gone gone gone gone)

pub returns-in_err-channel : goal.returns-in_err-channel
returns-in_err-channel c =
    rw (stays c.from_residual-in_err-channel.ensures) (send-says c.args.text.now c.args.starts.now c.args.n c.args.from c.in_ok-open.ensures (then c.in_err-channel.ensures) gone gone gone gone)

pub returns-in_err-comma : goal.returns-in_err-comma
returns-in_err-comma c =
    rw (stays c.from_residual-in_err-comma.ensures) (send-says c.args.text.now c.args.starts.now c.args.n c.args.from c.in_ok-open.ensures (then c.in_ok-channel.ensures) (then c.in_err-comma.ensures) gone gone gone)

pub returns-in_err-value : goal.returns-in_err-value
returns-in_err-value c =
    rw (stays c.from_residual-in_err-value.ensures) (send-says c.args.text.now c.args.starts.now c.args.n c.args.from c.in_ok-open.ensures (then c.in_ok-channel.ensures) (then c.in_ok-comma.ensures) (then c.in_err-value.ensures) gone gone)

pub returns-in_err-close : goal.returns-in_err-close
returns-in_err-close c =
    rw (stays c.from_residual-in_err-close.ensures) (send-says c.args.text.now c.args.starts.now c.args.n c.args.from c.in_ok-open.ensures (then c.in_ok-channel.ensures) (then c.in_ok-comma.ensures) (then c.in_ok-value.ensures) (then c.in_err-close.ensures) gone)

pub returns : goal.returns
returns c =
    send-says c.args.text.now c.args.starts.now c.args.n c.args.from c.in_ok-open.ensures (then c.in_ok-channel.ensures) (then c.in_ok-comma.ensures) (then c.in_ok-value.ensures) (then c.in_ok-close.ensures) (then c.expect-4.ensures)
