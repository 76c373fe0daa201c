-- That the parts of Paper 12's condition are needed: for each op that is left out, for an entry that is not taken and
-- for one that does not move, two neighbouring entries that keep every other part of the condition and may not change
-- places. Before them, a pair that may. The cases are proved together in proofs/Needed.antt. That neither process stops
-- or finishes is not needed (Harmless.antt).
use Rattle.std.specs.Prelude.{ℕ, suc, ◌≡◌, ◌≢◌, Bool, ◌&&◌, ◌||◌, not, List, [], ◌∷◌, ◌++◌, length, drop, replicate, T, eqb}
use Rattle.table.specs.Questions.{Accepted}
use Rattle.machine.specs.State.{State, Config, process_at, is_over}
use Rattle.machine.specs.Entry.{able, effect_of}
use Rattle.machine.specs.Run.{run, after_effect}
use Rattle.machine.specs.Answer.{trace_words}
use Rattle.machine.specs.Cases.{table_of}
use Rattle.exchange.specs.Exchange.{left_out, stands_at, both_move_on, two_taken, may_exchange}

-- the condition with one op not left out

unfoldable pub moves_but_at : ℕ → List ℕ → List ℕ → ℕ → State → ℕ → Bool
moves_but_at op p outcomes k s n =
    able p outcomes s n
    && (not (left_out (stands_at p s n)) || eqb (stands_at p s n) op)
    && not (is_over (process_at (effect_of p outcomes k s n).config n))

unfoldable pub may_exchange_but : ℕ → List ℕ → List ℕ → ℕ → List ℕ → ℕ → ℕ → Bool
may_exchange_but op p outcomes room xs m n =
    let k = length xs in
    let s = (run p outcomes room xs).state in
    two_taken p outcomes room xs m n
    && moves_but_at op p outcomes k s m
    && moves_but_at op p outcomes (suc k) (after_effect s (effect_of p outcomes k s m)) n

-- the configuration that the run leaves on these entries, in a trace of so many lines
abbrev pub left : List ℕ → List ℕ → ℕ → List ℕ → Config
left p outcomes room xs = (run p outcomes room xs).state.config

-- The table is accepted. With this op allowed, m and n after xs would change places, and the configuration is another
-- one then.
pub record NeededAt (op : ℕ) (p outcomes xs : List ℕ) (m n : ℕ) : Type 0 where
  pub accepted : Accepted p
  pub kept : T (may_exchange_but op p outcomes 4096 xs m n)
  pub differs : left p outcomes 4096 (xs ++ m ∷ n ∷ []) ≢ left p outcomes 4096 (xs ++ n ∷ m ∷ [])

-- main forks method 1; then each of the two has this code
unfoldable pub twice : List ℕ → List ℕ
twice code =
    table_of
    (record { returns = 0; params = 0; slots = []; code = 14 ∷ 1 ∷ code }
    ∷ record { returns = 0; params = 0; slots = []; code = code }
    ∷ [])

-- NEWQ, DROP, RET; NEWC int, DROP, RET; NEWQ, MEAS, DROP, RET
unfoldable pub making_qubit : List ℕ
making_qubit = twice (7 ∷ 0 ∷ 5 ∷ 0 ∷ 13 ∷ 0 ∷ [])

unfoldable pub making_channel : List ℕ
making_channel = twice (8 ∷ 1 ∷ 5 ∷ 0 ∷ 13 ∷ 0 ∷ [])

unfoldable pub both_measuring : List ℕ
both_measuring = twice (7 ∷ 0 ∷ 11 ∷ 0 ∷ 5 ∷ 0 ∷ 13 ∷ 0 ∷ [])

-- main forks method 1 and then method 2, method 1 forks method 3
unfoldable pub both_forking : List ℕ
both_forking =
    table_of
    (record { returns = 0; params = 0; slots = []; code = 14 ∷ 1 ∷ 14 ∷ 2 ∷ 13 ∷ 0 ∷ [] }
    ∷ record { returns = 0; params = 0; slots = []; code = 14 ∷ 3 ∷ 13 ∷ 0 ∷ [] }
    ∷ record { returns = 0; params = 0; slots = []; code = 13 ∷ 0 ∷ [] }
    ∷ record { returns = 0; params = 0; slots = []; code = 13 ∷ 0 ∷ [] }
    ∷ [])

-- main makes a channel of ints, keeps end 0 and forks method 1 with end 1 (8 entries); then each has its code
unfoldable pub over_channel : List ℕ → List ℕ → List ℕ
over_channel code code' =
    table_of
    (record {
      returns = 0;
      params = 0;
      slots = 17 ∷ 33 ∷ [];
      code = 8 ∷ 1 ∷ 4 ∷ 0 ∷ 9 ∷ 0 ∷ 4 ∷ 1 ∷ 5 ∷ 0 ∷ 3 ∷ 0 ∷ 9 ∷ 1 ∷ 14 ∷ 1 ∷ code;
    }
    ∷ record { returns = 0; params = 1; slots = 33 ∷ []; code = code' }
    ∷ [])

-- main: GET mine, INT 5, SEND, RET; the other: GET mine, RECV, DROP, RET
unfoldable pub main_sending : List ℕ
main_sending = over_channel (3 ∷ 1 ∷ 1 ∷ 5 ∷ 15 ∷ 0 ∷ 13 ∷ 0 ∷ []) (3 ∷ 0 ∷ 16 ∷ 0 ∷ 5 ∷ 0 ∷ 13 ∷ 0 ∷ [])

-- main: GET mine, RECV, DROP, RET; the other: GET mine, INT 5, SEND, RET
unfoldable pub main_receiving : List ℕ
main_receiving = over_channel (3 ∷ 1 ∷ 16 ∷ 0 ∷ 5 ∷ 0 ∷ 13 ∷ 0 ∷ []) (3 ∷ 0 ∷ 1 ∷ 5 ∷ 15 ∷ 0 ∷ 13 ∷ 0 ∷ [])

-- both: GET mine, RECV, DROP, RET
unfoldable pub both_receiving : List ℕ
both_receiving = over_channel (3 ∷ 1 ∷ 16 ∷ 0 ∷ 5 ∷ 0 ∷ 13 ∷ 0 ∷ []) (3 ∷ 0 ∷ 16 ∷ 0 ∷ 5 ∷ 0 ∷ 13 ∷ 0 ∷ [])

-- both: NEWQ, GATE H, RET
unfoldable pub both_gating : List ℕ
both_gating = twice (7 ∷ 0 ∷ 10 ∷ 4 ∷ 13 ∷ 0 ∷ [])

pub record Needed : Type 0 where
  -- two gates may change places: then their lines do, each with the number of its entry
  pub gates : T (may_exchange both_gating [] 4096 (0 ∷ 0 ∷ 1 ∷ []) 0 1)
  pub gates-given : drop 18 (trace_words (run both_gating [] 4096 (0 ∷ 0 ∷ 1 ∷ 0 ∷ 1 ∷ [])).state.lines)
      ≡ 3 ∷ 0 ∷ 3 ∷ 4 ∷ 0 ∷ 65535
      ∷ 4 ∷ 1 ∷ 3 ∷ 4 ∷ 1 ∷ 65535
      ∷ []
  pub gates-exchanged : drop 18 (trace_words (run both_gating [] 4096 (0 ∷ 0 ∷ 1 ∷ 1 ∷ 0 ∷ [])).state.lines)
      ≡ 3 ∷ 1 ∷ 3 ∷ 4 ∷ 1 ∷ 65535
      ∷ 4 ∷ 0 ∷ 3 ∷ 4 ∷ 0 ∷ 65535
      ∷ []
  -- both at NEWQ, NEWC: the numbers go the other way round; both at MEAS: the outcomes
  pub newq : NeededAt 7 making_qubit [] (0 ∷ []) 0 1
  pub newc : NeededAt 8 making_channel [] (0 ∷ []) 0 1
  pub meas : NeededAt 11 both_measuring (0 ∷ 1 ∷ []) (0 ∷ 0 ∷ 1 ∷ []) 0 1
  -- both at FORK: the processes made
  pub fork : NeededAt 14 both_forking [] (0 ∷ []) 0 1
  -- one comes to RECV, and the other at SEND meets it, or the other way round; with places changed, the other waits
  pub send : NeededAt 15 main_sending [] (replicate 10 0) 1 0
  pub recv : NeededAt 16 main_receiving [] (replicate 9 0 ++ (1 ∷ [])) 1 0
  -- both are at GATE, and the trace has room for one line more: the entry of process 1, the second, is not taken. With
  -- places changed, it is the one of process 0.
  pub taken-accepted : Accepted both_gating
  pub taken : T (both_move_on both_gating [] 3 (run both_gating [] 4 (0 ∷ 0 ∷ 1 ∷ [])).state 0 1)
  pub taken-differs : left both_gating [] 4 (0 ∷ 0 ∷ 1 ∷ 0 ∷ 1 ∷ []) ≢ left both_gating [] 4 (0 ∷ 0 ∷ 1 ∷ 1 ∷ 0 ∷ [])
  -- The entry of a process that is not made does not move. The next brings process 1 to RECV, where both wait: end 2.
  -- With places changed, the run ends one entry earlier, so that the entries used differ.
  pub moves-accepted : Accepted both_receiving
  pub moves : (run both_receiving [] 4096 (replicate 9 0 ++ (7 ∷ 1 ∷ []))).entries ≡ 11
  pub moves-differs : (run both_receiving [] 4096 (replicate 9 0 ++ (1 ∷ 7 ∷ []))).entries ≡ 10
