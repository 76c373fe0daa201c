-- `is_known` by the entries, or by the level that is found.
use mathlib.Core.Path.{ap, ◌∙◌}
use lib.Dec.{ltb}
use Rattle.text_names.specs.FaultCode.{is_known_at}
use Rattle.text_names.proofs.fault.is_known.Goals as goal

pub returns-then-n-gt1024 : goal.returns-then-n-gt1024
unfolding is_known_at
returns-then-n-gt1024 c = λ h. ap (ltb 0) c.found_level.ensures

pub returns : goal.returns
returns c = λ h. c.is_open.ensures ∙ h c.args.least c.if-n-gt1024.false
