-- `declared_if` by its test.
use mathlib.Core.Path.{refl}
use Rattle.text_open.proofs.class.declared_if.Goals as goal

pub returns-then-r-mine : goal.returns-then-r-mine
returns-then-r-mine c = rw c.if-r-mine.true refl

pub returns : goal.returns
returns c = rw c.if-r-mine.false refl
