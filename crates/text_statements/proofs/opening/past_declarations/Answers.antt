-- `past_declarations`: the declarations, whose trees are of no interest.
use mathlib.Core.List.{[]}
use Rattle.text_types.proofs.Answers.{says-also, stays}
use Rattle.text_statements.proofs.opening.past_declarations.Goals as goal

pub returns-in_err-d : goal.returns-in_err-d
returns-in_err-d c =
    rw (stays c.from_residual.ensures)
    (λ w. says-also c.args.text.now _ _ c.args.from (λ a e. tt) (c.in_err-d.ensures w []))

pub returns : goal.returns
returns c = λ w. says-also c.args.text.now _ _ c.args.from (λ a e. tt) (c.in_ok-d.ensures w [])
