-- `measured_name`: five tokens, one after the other.
use Rattle.text_types.proofs.Answers.{then, gone, stays}
use Rattle.text_pass.proofs.MeasurementLaws.{measured-says}
use Rattle.text_pass.proofs.measurement.measured_name.Goals as goal

pub returns-in_err-open : goal.returns-in_err-open
returns-in_err-open c =
    rw (stays c.from_residual.ensures) (measured-says c.args.text.now _ _ c.args.from c.in_err-open.ensures gone gone gone gone)

pub returns-in_err-basis : goal.returns-in_err-basis
returns-in_err-basis c =
    rw (stays c.from_residual-in_err-basis.ensures) (measured-says c.args.text.now _ _ c.args.from c.in_ok-open.ensures (then c.in_err-basis.ensures) gone gone gone)

pub returns-in_err-comma : goal.returns-in_err-comma
returns-in_err-comma c =
    rw (stays c.from_residual-in_err-comma.ensures) (measured-says c.args.text.now _ _ c.args.from c.in_ok-open.ensures (then c.in_ok-basis.ensures) (then c.in_err-comma.ensures) gone gone)

pub returns-in_err-name : goal.returns-in_err-name
returns-in_err-name c =
    rw (stays c.from_residual-in_err-name.ensures) (measured-says c.args.text.now _ _ c.args.from c.in_ok-open.ensures (then c.in_ok-basis.ensures) (then c.in_ok-comma.ensures) (then c.in_err-name.ensures) gone)

pub returns : goal.returns
returns c =
    measured-says c.args.text.now _ _ c.args.from c.in_ok-open.ensures (then c.in_ok-basis.ensures)
    (then c.in_ok-comma.ensures) (then c.in_ok-name.ensures) (then c.expect-4.ensures)
