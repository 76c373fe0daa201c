-- `short_kept` has room for 128 instructions.
use lib.ListN.{get_or-replicate}
use native.Mathlib.Omega.{arith}
use Rattle.text_judged.proofs.method.short_kept.Goals as goal

pub kept_with-requires : goal.kept_with-requires
kept_with-requires c =
    let pre = c.requires in (
      pre.0,
      pre.1,
      omega (arith, pre.2),
      record { enough = omega (arith, pre.2); zeros = λ i l. get_or-replicate 128 i 0 0 (omega (arith, pre.2)) },
    )
