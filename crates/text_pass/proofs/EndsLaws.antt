-- The places of a name in a phase.
use Prim.Native.Nat.{ℕ}
use mathlib.Core.Path.{◌≡◌}
use Rattle.text_effect.specs.declared.phase.Phase.TheVariants.{Named}

pub named_start : {a b c d : ℕ} → Named a b ≡ Named c d → a ≡ c
named_start e = cc

pub named_end : {a b c d : ℕ} → Named a b ≡ Named c d → b ≡ d
named_end e = cc
