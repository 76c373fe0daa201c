-- `keeps` is the definition.
use mathlib.Core.Path.{refl}
use Rattle.text_open.specs.ClassCode.{fits_in}
use Rattle.text_open.proofs.class.keeps.Goals as goal

pub returns : goal.returns
unfolding fits_in
returns c = refl
