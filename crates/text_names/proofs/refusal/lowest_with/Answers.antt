-- `lowest_with`: one pass, or where it could not keep the names one for each class.
use mathlib.Core.Path.{◌∙◌}
use Rattle.text_names.proofs.Passes.{all-in-one}
use Rattle.text_names.proofs.refusal.lowest_with.Goals as goal

pub returns-in-Ok : goal.returns-in-Ok
returns-in-Ok c = c.in-Ok.ensures.0 ∙ all-in-one c.args.methods.now.text.now 0
