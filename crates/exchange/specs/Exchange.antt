-- Paper 12: "Show that two neighbouring entries of different processes may change places with an equal final
-- configuration, provided that both move in the order given, neither is at NEWQ, NEWC, MEAS, a set measurement, FORK,
-- SEND or RECV, and neither stops or finishes its process. Show it then for any number of such exchanges."
--
-- The condition is a test of the program, the outcomes, the room of the trace, the entries before the two, and the two:
-- it is said of the state that stands before them. That nothing but the order of lines depends on such exchanges is
-- proved in proofs/Exchange.antt. Needed.antt has pairs that may not change places, one for each part of the condition
-- that is needed, and Harmless.antt the parts that are not.
use Rattle.std.specs.Prelude.{ℕ, suc, ◌+◌, ◌≡◌, ◌⊎◌, Bool, false, cond, ◌&&◌, ◌||◌, not, List, [], ◌∷◌, ◌++◌, map, length, T, eqb}
use Rattle.lists.specs.Lists.{any, All}
use Rattle.table.specs.Table.{op_at}
use Rattle.table.specs.Ops.{one_qubit}
use Rattle.machine.specs.Value.{Thing}
use Rattle.machine.specs.State.{Frame, State, Line, Event, process_at, is_over, line_of}
use Rattle.machine.specs.Owner.{holder}
use Rattle.machine.specs.Entry.{able, effect_of}
use Rattle.machine.specs.Run.{Result, run, after_effect}

-- "neither is at NEWQ, NEWC, MEAS, a set measurement, FORK, SEND or RECV"; a set measurement is an op from Paper 2 on
unfoldable pub left_out : ℕ → Bool
left_out op = any (eqb op) (7 ∷ 8 ∷ 11 ∷ 14 ∷ 15 ∷ 16 ∷ [])

-- the op that the top frame stands at; without a frame 0, which is no op
unfoldable pub top_op : List ℕ → List Frame → ℕ
top_op p [] = 0
top_op p (f ∷ fs) = op_at p f.place

unfoldable pub stands_at : List ℕ → State → ℕ → ℕ
stands_at p s n = top_op p (process_at s.config n).frames

-- What is asked of one of the two entries, which names process n, in the state s before it. "both move .., neither is
-- at ..":
unfoldable pub moves_alone : List ℕ → List ℕ → State → ℕ → Bool
moves_alone p outcomes s n = able p outcomes s n && not (left_out (stands_at p s n))

-- .. "and neither stops or finishes its process", at entry k
unfoldable pub moves_on : List ℕ → List ℕ → ℕ → State → ℕ → Bool
moves_on p outcomes k s n = moves_alone p outcomes s n && not (is_over (process_at (effect_of p outcomes k s n).config n))

-- of both, in the order given: m's entry is k, and n's is the next, in the state that m's leaves
unfoldable pub both_move_on : List ℕ → List ℕ → ℕ → State → ℕ → ℕ → Bool
both_move_on p outcomes k s m n =
    moves_on p outcomes k s m && moves_on p outcomes (suc k) (after_effect s (effect_of p outcomes k s m)) n

-- "two neighbouring entries of different processes": after the entries xs, an entry of m and then one of n, both of
-- them taken
unfoldable pub two_taken : List ℕ → List ℕ → ℕ → List ℕ → ℕ → ℕ → Bool
two_taken p outcomes room xs m n = not (eqb m n) && eqb (run p outcomes room (xs ++ m ∷ n ∷ [])).entries (length xs + 2)

-- the two may change places; the state before them is the one that the run on xs leaves
unfoldable pub may_exchange : List ℕ → List ℕ → ℕ → List ℕ → ℕ → ℕ → Bool
may_exchange p outcomes room xs m n =
    two_taken p outcomes room xs m n && both_move_on p outcomes (length xs) (run p outcomes room xs).state m n

-- "two neighbouring entries of different processes may change places": one exchange leads from a schedule to another
pub data Exchange (p outcomes : List ℕ) (room : ℕ) : List ℕ → List ℕ → Type 0 where
  exchange : (xs : List ℕ) (m n : ℕ) (ys : List ℕ) → T (may_exchange p outcomes room xs m n)
      → Exchange p outcomes room (xs ++ m ∷ n ∷ ys) (xs ++ n ∷ m ∷ ys)

-- "any number of such exchanges": a chain of schedules, each got from the one before by one exchange
pub data Exchanges (p outcomes : List ℕ) (room : ℕ) : List ℕ → List ℕ → Type 0 where
  done : (xs : List ℕ) → Exchanges p outcomes room xs xs
  more : {xs ys zs : List ℕ} → Exchange p outcomes room xs ys → Exchanges p outcomes room ys zs
      → Exchanges p outcomes room xs zs

-- "with an equal final configuration"; the end and the counts are equal, too, and each thing has the same holder by the
-- lines
pub record SameAnswer (r r' : Result) : Type 0 where
  pub config : r.state.config ≡ r'.state.config
  pub end : r.end ≡ r'.end
  pub entries : r.entries ≡ r'.entries
  pub lines : length r.state.lines ≡ length r'.state.lines
  pub used : r.state.used ≡ r'.state.used
  pub holders : (t : Thing) → holder r.state.lines t ≡ holder r'.state.lines t

-- the line is of a gate on qubit q: "3 gate a on qubit b (and c ..)"
abbrev pub gate_on : ℕ → Line → Bool
gate_on q l = eqb l.kind 3 && (eqb l.b q || (not (one_qubit l.a) && eqb l.c q))

-- The lines after one exchange: those of the two entries, k and k + 1, change places, each with the number of the entry
-- that it is written at now; all others stay. The kinds of those that change places have the property P, and no qubit
-- has a gate of both.
pub record LinesExchanged (P : ℕ → Type 0) (k m n : ℕ) (ls ls' : List Line) : Type 0 where
  pub above : List Line
  pub first : List Event
  pub second : List Event
  pub below : List Line
  pub given : ls ≡ above ++ (map (line_of k m) first ++ (map (line_of (suc k) n) second ++ below))
  pub exchanged : ls' ≡ above ++ (map (line_of k n) second ++ (map (line_of (suc k) m) first ++ below))
  pub kinds : All (λ e. P e.kind) first × All (λ e. P e.kind) second
  pub qubits : (q : ℕ)
      → All (λ e. gate_on q (line_of k m e) ≡ false) first ⊎ All (λ e. gate_on q (line_of k n e) ≡ false) second

-- "3 gate a on qubit b"
abbrev pub OfGate : ℕ → Type 0
OfGate kind = kind ≡ 3

-- The lines after any number of exchanges.

-- columns 1 to 5 of a line
abbrev pub without_entry : Line → Line
without_entry l = record { entry = 0; process = l.process; kind = l.kind; a = l.a; b = l.b; c = l.c }

-- the lines that pass the test, in their order, without their entries
unfoldable pub lines_where : (Line → Bool) → List Line → List Line
lines_where test [] = []
lines_where test (l ∷ ls) = cond (test l) (without_entry l ∷ lines_where test ls) (lines_where test ls)

-- those of process q
abbrev pub lines_by : ℕ → List Line → List Line
lines_by q = lines_where (λ l. eqb l.process q)

-- those of process q and, of the other processes, those that are not of a gate
abbrev pub lines_around : ℕ → List Line → List Line
lines_around q = lines_where (λ l. eqb l.process q || not (eqb l.kind 3))

-- those of gates on qubit q, and those that are not of a gate
abbrev pub lines_on : ℕ → List Line → List Line
lines_on q = lines_where (λ l. gate_on q l || not (eqb l.kind 3))

-- a line of a gate keeps nothing but its place here, any other line all
abbrev pub gate_blank : Line → Line
gate_blank l = cond (eqb l.kind 3) (record { entry = 0; process = 0; kind = 3; a = 0; b = 0; c = 0 }) l

pub record LinesKept (ls ls' : List Line) : Type 0 where
  -- each process has the same lines in the same order, columns 1 to 5
  pub processes : (q : ℕ) → lines_by q ls ≡ lines_by q ls'
  -- no line of a gate has passed one that is not of a gate, whoever's
  pub around : (q : ℕ) → lines_around q ls ≡ lines_around q ls'
  -- the gates on each qubit are in the same order
  pub qubits : (q : ℕ) → lines_on q ls ≡ lines_on q ls'
  -- every line that is not of a gate is the same in all columns, its entry among them, and stands at the same place
  pub others : map gate_blank ls ≡ map gate_blank ls'
