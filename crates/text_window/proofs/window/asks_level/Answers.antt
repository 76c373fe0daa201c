-- `asks_level`, phase by phase.
use mathlib.Core.Path.{refl}
use Rattle.std.proofs.Common.{rules}
use Rattle.text_window.specs.WindowCode.{asks_level}
use Rattle.text_window.proofs.window.asks_level.Goals as goal

pub returns-in-Whole : goal.returns-in-Whole
unfolding asks_level
returns-in-Whole c = rw c.in-Whole.is refl

pub returns-in-Bare : goal.returns-in-Bare
unfolding asks_level
returns-in-Bare c = rw (c.in-Bare.is, c.is_operator.ensures) refl

pub returns-in-Named : goal.returns-in-Named
unfolding asks_level
returns-in-Named c = rw c.in-Named.is refl

pub returns-in_default : goal.returns-in_default
unfolding asks_level
returns-in_default c = search rules
