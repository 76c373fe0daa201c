-- `end_names`: two names in brackets.
use mathlib.Core.Path.{ap, ◌∙◌}
use lib.Seq.{slice}
use Rattle.text_types.specs.Answer.{declared_number}
use Rattle.text_types.proofs.Finding.{or-number}
use Rattle.text_types.proofs.Answers.{then, gone, stays, says-left}
use Rattle.text_types.proofs.NameLaws.{ends-says}
use Rattle.text_types.proofs.names.end_names.Goals as goal

pub returns-in_err-opening : goal.returns-in_err-opening
returns-in_err-opening c =
    rw (stays c.from_residual.ensures)
    (λ t x. says-left (ends-says c.args.text.now (slice c.args.start c.args.end c.args.text.now) c.args.from {f = 0} {g = 0} c.in_err-opening.ensures gone gone gone gone gone t x))

pub returns-in_err-zero : goal.returns-in_err-zero
returns-in_err-zero c =
    rw (stays c.from_residual-in_err-zero.ensures)
    (λ t x. says-left (ends-says c.args.text.now (slice c.args.start c.args.end c.args.text.now) c.args.from {g = 0} c.in_ok-opening.ensures (then c.in_err-zero.ensures) gone gone gone gone t x))

pub returns-in_err-comma : goal.returns-in_err-comma
returns-in_err-comma c =
    rw (stays c.from_residual-in_err-comma.ensures)
    (λ t x. says-left (ends-says c.args.text.now (slice c.args.start c.args.end c.args.text.now) c.args.from {g = 0} c.in_ok-opening.ensures (then c.in_ok-zero.ensures) (then c.in_err-comma.ensures) gone gone gone t x))

pub returns-in_err-one : goal.returns-in_err-one
returns-in_err-one c =
    rw (stays c.from_residual-in_err-one.ensures)
    (λ t x. says-left (ends-says c.args.text.now (slice c.args.start c.args.end c.args.text.now) c.args.from c.in_ok-opening.ensures (then c.in_ok-zero.ensures) (then c.in_ok-comma.ensures) (then c.in_err-one.ensures) gone gone t x))

pub returns-in_err-closing : goal.returns-in_err-closing
returns-in_err-closing c =
    rw (stays c.from_residual-in_err-closing.ensures)
    (λ t x. says-left (ends-says c.args.text.now (slice c.args.start c.args.end c.args.text.now) c.args.from c.in_ok-opening.ensures (then c.in_ok-zero.ensures) (then c.in_ok-comma.ensures) (then c.in_ok-one.ensures) (then c.in_err-closing.ensures) gone t x))

pub returns-in_err-at : goal.returns-in_err-at
returns-in_err-at c =
    rw (stays c.from_residual-in_err-at.ensures)
    (λ t x. says-left (ends-says c.args.text.now (slice c.args.start c.args.end c.args.text.now) c.args.from c.in_ok-opening.ensures (then c.in_ok-zero.ensures) (then c.in_ok-comma.ensures) (then c.in_ok-one.ensures) (then c.in_ok-closing.ensures) (then c.in_err-at.ensures) t x))

pub returns : goal.returns
returns c =
    rw (ap declared_number c.or-found.ensures ∙ or-number c.in_ok-zero.zero.found c.in_ok-one.one.found)
    (ends-says c.args.text.now (slice c.args.start c.args.end c.args.text.now) c.args.from c.in_ok-opening.ensures (then c.in_ok-zero.ensures) (then c.in_ok-comma.ensures) (then c.in_ok-one.ensures) (then c.in_ok-closing.ensures) (then c.in_ok-at.ensures))
