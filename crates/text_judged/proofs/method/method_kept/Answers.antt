-- `method_kept` has room for the longest method, and less for a short one.
use lib.ListN.{get_or-replicate}
use native.Mathlib.Omega.{arith}
use Rattle.text_judged.proofs.method.method_kept.Goals as goal

pub kept_with-requires : goal.kept_with-requires
kept_with-requires c =
    let pre = c.requires in
    let short = pre.0.short in (
      pre.0,
      pre.1,
      omega arith,
      record { enough = omega arith; zeros = λ i l. get_or-replicate 4096 i 0 0 (omega (arith, short)) },
    )
