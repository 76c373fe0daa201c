-- `expect`: the next token is of the kind or not.
use Rattle.text_types.proofs.Answers.{found-next, missing-next}
use Rattle.text_types.proofs.place.expect.Goals as goal

pub returns-then-t-kind : goal.returns-then-t-kind
returns-then-t-kind c =
    found-next c.args.text.now c.args.from _
    c.next_token-t.ensures c.args.kind c.if-t-kind.true

pub returns-else-t-kind : goal.returns-else-t-kind
returns-else-t-kind c =
    missing-next c.args.text.now
    c.args.from _ c.next_token-t.ensures
    c.args.kind c.if-t-kind.false
