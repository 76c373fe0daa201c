-- `is_lost` compares the numbers only where the tags meet.
use Rattle.run_store.proofs.Laws.{lost-by-number, lost-by-tag}
use Rattle.run_store.proofs.giving.is_lost.Goals as goal

pub returns-then-tags_meet : goal.returns-then-tags_meet
returns-then-tags_meet c =
    let args = c.args in
    lost-by-number args.t args.v c.tags_meet.ensures c.if-tags_meet.true

pub returns : goal.returns
returns c = lost-by-tag c.args.t c.args.v c.tags_meet.ensures c.if-tags_meet.false
