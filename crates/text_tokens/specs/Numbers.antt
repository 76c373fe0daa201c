-- Numbers above 32767 are not kept apart.
use Rattle.std.specs.Prelude.{ℕ, cond, ltb}

unfoldable pub capped : ℕ → ℕ
capped n = cond (ltb n 32768) n 32768
