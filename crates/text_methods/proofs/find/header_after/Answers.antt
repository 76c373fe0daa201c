-- `header_after` by its test.
use mathlib.Core.Path.{refl}
use Rattle.text_methods.proofs.find.header_after.Goals as goal

pub returns-then-braces-kind : goal.returns-then-braces-kind
returns-then-braces-kind c = rw c.if-braces-kind.true refl

pub returns : goal.returns
returns c = rw c.if-braces-kind.false refl
