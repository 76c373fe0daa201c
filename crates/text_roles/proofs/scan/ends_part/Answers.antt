-- `ends_part` by its tests.
use mathlib.Core.Path.{refl}
use Rattle.text_scan.specs.ScanCode.{ends_part}
use Rattle.text_roles.proofs.scan.ends_part.Goals as goal

pub returns : goal.returns
unfolding ends_part
returns c = refl
