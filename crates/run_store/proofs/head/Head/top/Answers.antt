-- `top` is the layout's place of a pending value, or 0 below the first.
use native.Mathlib.Omega.{arith}
use Rattle.run_store.specs.StoreCode.{top_at}
use mathlib.Core.Path.{refl}
use Rattle.run_store.proofs.head.Head.top.Goals as goal

pub returns-then-down-free : goal.returns-then-down-free
unfolding top_at
returns-then-down-free c = refl

pub returns : goal.returns
unfolding top_at
returns c = omega arith
