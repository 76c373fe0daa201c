-- `store_qubit` stores a number below 32.
use mathlib.Core.Path.{refl}
use borrow.Author.Tests.{lt-ltb, le-ltb}
use Rattle.run_holders.specs.StoredCode.{qubit_stored}
use Rattle.lists.proofs.Tests.{took, passed-by}
use Rattle.run_holders.proofs.stored.store_qubit.Goals as goal

pub returns-then-n-lt32 : goal.returns-then-n-lt32
unfolding qubit_stored
returns-then-n-lt32 c =
    took _ _ _ refl (lt-ltb c.args.n.0 32
    c.if-n-lt32.true) c.put.ensures

pub returns-else-n-lt32 : goal.returns-else-n-lt32
unfolding qubit_stored
returns-else-n-lt32 c = passed-by _ _ _ refl (le-ltb c.args.n.0 32 c.if-n-lt32.false) refl
