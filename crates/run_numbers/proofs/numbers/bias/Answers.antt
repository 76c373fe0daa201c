-- `bias` moves a word up by 2^31, modulo 2^32.
use Rattle.run_numbers.specs.NumbersCode.{biased}
use native.Mathlib.Omega.{arith}
use mathlib.Core.Path.{refl}
use Rattle.run_numbers.proofs.numbers.bias.Goals as goal

pub returns : goal.returns
unfolding biased
returns c = (refl, omega arith)
