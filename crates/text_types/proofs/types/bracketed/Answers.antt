-- `bracketed`: a bracket, a type and a bracket.
use Rattle.text_types.proofs.Answers.{then, gone, stays, says-left}
use Rattle.text_types.proofs.TypeLaws.{bracketed-says}
use Rattle.text_types.proofs.types.bracketed.Goals as goal

pub returns-in_err-open : goal.returns-in_err-open
returns-in_err-open c =
    rw (stays c.from_residual.ensures)
    (bracketed-says c.args.text.now c.args.from {code = 0} c.in_err-open.ensures gone gone)

pub returns-in_err-inner : goal.returns-in_err-inner
returns-in_err-inner c =
    rw (stays c.from_residual-in_err-inner.ensures)
    (bracketed-says c.args.text.now c.args.from c.in_ok-open.ensures (then c.in_err-inner.ensures) gone)

pub returns-in_err-at : goal.returns-in_err-at
returns-in_err-at c =
    rw (stays c.from_residual-in_err-at.ensures)
    (says-left (bracketed-says c.args.text.now c.args.from c.in_ok-open.ensures (then c.in_ok-inner.ensures)
    (then c.in_err-at.ensures)))

pub returns : goal.returns
returns c =
    bracketed-says c.args.text.now c.args.from c.in_ok-open.ensures (then c.in_ok-inner.ensures)
    (then c.in_ok-at.ensures)
