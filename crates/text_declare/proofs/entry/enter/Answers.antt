-- `enter`: four words of an entry and one of the row, where there is room.
use native.Mathlib.Omega.{arith}
use mathlib.Core.Path.{refl}
use Rattle.text_declare.specs.Entered.{all-entered, too_many}
use Rattle.text_declare.proofs.EnteredLaws.{entered-one}
use Rattle.text_declare.proofs.entry.enter.Goals as goal

pub returns-then-n-gt15 : goal.returns-then-n-gt15
returns-then-n-gt15 c = (refl, (λ text d spelt ends type fits. let le = fits.slots in too_many refl (omega arith)))

pub returns-then-used-gt15 : goal.returns-then-used-gt15
returns-then-used-gt15 c = (refl, (λ text d spelt ends type fits. too_many refl (omega arith)))

pub returns : goal.returns
returns c =
    let g = c.args in (
      refl,
      (λ text d spelt ends type fits. all-entered refl
          (entered-one text g.scope.now g.row.now g.n g.used g.name.start g.name.at g.flag
          g.code d (omega arith) (omega arith) spelt ends type fits)),
    )
