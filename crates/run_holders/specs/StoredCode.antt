-- The holders stored in the work store. These definitions follow the code; that the words say what the lines say is
-- proved in proofs/StoredWords.antt. `base` is where the 64 words begin: 8,192 in the store, 0 where they stand alone.
use Rattle.std.specs.Prelude.{ℕ, zero, suc, ◌+◌, ◌*◌, cond, List, set, eqb, ltb}
use Rattle.machine.specs.State.{Line}
use Rattle.trace.specs.ReadCode.{line_from}

unfoldable pub qubit_stored : ℕ → List ℕ → ℕ → ℕ → List ℕ
qubit_stored base w n q = cond (ltb n 32) (set w (base + n) q) w

unfoldable pub end_stored : ℕ → List ℕ → ℕ → ℕ → ℕ → List ℕ
end_stored base w c d q = cond (ltb c 16) (set w (base + (32 + 2 * c + d)) q) w

unfoldable pub channel_stored : ℕ → List ℕ → ℕ → ℕ → List ℕ
channel_stored base w c q = end_stored base (end_stored base w c 0 q) c 1 q

-- a line of kind 6
unfoldable pub gift_stored : ℕ → List ℕ → Line → List ℕ
gift_stored base w l =
    cond (eqb l.b 3) (qubit_stored base w l.c l.a)
    (cond (eqb l.b 4) (channel_stored base w l.c l.a)
    (cond (eqb l.b 5) (end_stored base w l.c 0 l.a)
    (cond (eqb l.b 6) (end_stored base w l.c 1 l.a) w)))

-- the words after one more line
unfoldable pub stored_after : ℕ → List ℕ → Line → List ℕ
stored_after base w l =
    cond (eqb l.kind 6) (gift_stored base w l)
    (cond (eqb l.kind 2) (channel_stored base w l.a l.process)
    (cond (eqb l.kind 1) (qubit_stored base w l.a l.process) w))

-- after j more lines of a trace, from line number `from` on
unfoldable pub stored_after_lines : List ℕ → List ℕ → ℕ → ℕ → List ℕ
stored_after_lines w trace from zero = w
stored_after_lines w trace from (suc j) =
    stored_after 8192 (stored_after_lines w trace from j) (line_from trace (6 * (from + j)))
