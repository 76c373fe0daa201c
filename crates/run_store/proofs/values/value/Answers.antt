-- `value` reads two words.
use Rattle.run_store.proofs.Laws.{value-beyond}
use mathlib.Core.Path.{◌∙◌}
use Rattle.run_store.specs.StoreCode.{value_at}
use Rattle.run_store.proofs.values.value.Goals as goal

pub returns-then-at-w : goal.returns-then-at-w
unfolding value_at
returns-then-at-w c = cc

pub returns : goal.returns
returns c =
    let args = c.args in
    c.empty.ensures ∙ value-beyond args.w.now args.at c.if-at-w.false
