-- `no_holders` is written out.
use mathlib.Core.Path.{refl}
use Rattle.run_holders.specs.HoldersCode.{nobody}
use Rattle.run_holders.proofs.ends.no_holders.Goals as goal

pub returns : goal.returns
unfolding nobody
returns c = refl
