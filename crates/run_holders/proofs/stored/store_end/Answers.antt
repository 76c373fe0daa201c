-- `store_end` stores an end of a channel below 16.
use mathlib.Core.Path.{refl}
use borrow.Author.Tests.{lt-ltb, le-ltb}
use Rattle.run_holders.specs.StoredCode.{end_stored}
use Rattle.lists.proofs.Tests.{took, passed-by}
use Rattle.run_holders.proofs.stored.store_end.Goals as goal

pub returns-then-e-lt16 : goal.returns-then-e-lt16
unfolding end_stored
returns-then-e-lt16 c =
    took _ _ _ refl (lt-ltb
    c.args.e.0 16
    c.if-e-lt16.true) c.put.ensures

pub returns-else-e-lt16 : goal.returns-else-e-lt16
unfolding end_stored
returns-else-e-lt16 c = passed-by _ _ _ refl (le-ltb c.args.e.0 16 c.if-e-lt16.false) refl
