-- `clear` stops where w ends: the words beyond are not there.
use Prim.Native.Nat.{◌-◌}
use mathlib.Core.Path.{◌∙◌}
use native.Mathlib.Omega.{arith}
use lib.ListN.{length}
use Rattle.run_store.specs.StoreCode.{cleared_from}
use Rattle.run_store.proofs.Laws.{cleared-beyond}
use Rattle.run_store.proofs.blocks.clear.Goals as goal

pub returns-then-from-w : goal.returns-then-from-w
returns-then-from-w c =
    let args = c.args in
    c.clear_within-then-from-w.ensures
    ∙ cleared-beyond args.w.now args.from (length args.w.now - args.from) args.n (omega arith)
    (omega arith)

pub returns-else-from-w : goal.returns-else-from-w
unfolding cleared_from
returns-else-from-w c =
    let args = c.args in
    cleared-beyond args.w.now args.from 0 args.n (omega arith) (omega arith)
