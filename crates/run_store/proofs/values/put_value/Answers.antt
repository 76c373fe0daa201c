-- `put_value` writes two words.
use Rattle.run_store.proofs.Laws.{put-beyond}
use Rattle.run_store.specs.StoreCode.{put_value}
use Rattle.run_store.proofs.values.put_value.Goals as goal

pub returns-then-at-w : goal.returns-then-at-w
unfolding put_value
returns-then-at-w c = cc

pub returns-else-at-w : goal.returns-else-at-w
returns-else-at-w c =
    put-beyond c.args.w.now c.args.at c.args.v
    c.if-at-w.false
