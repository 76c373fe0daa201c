-- The holders of the channel ends as a table. These definitions follow the code; that the table says what the lines
-- say is proved in proofs/.
use Rattle.std.specs.Prelude.{ℕ, zero, suc, ◌+◌, ◌*◌, Bool, false, cond, ◌||◌, List, [], ◌∷◌, get_or, set, replicate, eqb, leb, ltb}
use Rattle.machine.specs.State.{Line}
use Rattle.trace.specs.ReadCode.{line_from}

unfoldable pub nobody : List (List ℕ)
nobody = replicate 16 (65535 ∷ 65535 ∷ [])

unfoldable pub holder_in : List (List ℕ) → ℕ → ℕ → ℕ
holder_in t c d = cond (ltb c 16) (cond (ltb d 2) (get_or (get_or t c []) d 0) 65535) 65535

unfoldable pub end_given : List (List ℕ) → ℕ → ℕ → ℕ → List (List ℕ)
end_given t c d q = set t c (set (get_or t c []) d q)

unfoldable pub channel_given : List (List ℕ) → ℕ → ℕ → List (List ℕ)
channel_given t c q = end_given (end_given t c 0 q) c 1 q

-- the table after one more line
unfoldable pub holders_after : List (List ℕ) → Line → List (List ℕ)
holders_after t l =
    cond (eqb l.kind 2) (channel_given t l.a l.process)
    (cond (eqb l.kind 6)
    (cond (eqb l.b 4) (channel_given t l.c l.a)
    (cond (eqb l.b 5) (end_given t l.c 0 l.a)
    (cond (eqb l.b 6) (end_given t l.c 1 l.a) t)))
    t)

-- the table after j more lines of a trace, from line number `from` on
unfoldable pub holders_after_lines : List (List ℕ) → List ℕ → ℕ → ℕ → List (List ℕ)
holders_after_lines t trace from zero = t
holders_after_lines t trace from (suc j) =
    holders_after (holders_after_lines t trace from j) (line_from trace (6 * (from + j)))

-- a line that changes the table: a channel made, or a channel or an end given
unfoldable pub changes_holder : Line → Bool
changes_holder l = cond (eqb l.kind 6) (leb 4 l.b) (eqb l.kind 2)

-- one of these lines does

unfoldable pub changed_from : List ℕ → ℕ → ℕ → Bool
changed_from trace from zero = false
changed_from trace from (suc j) = changed_from trace from j || changes_holder (line_from trace (6 * (from + j)))
