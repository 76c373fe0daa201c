-- The run: the four ends, and the entries of a schedule one after the other. As in Entry.antt, the rules are for any
-- machine; the run of a program table stands at the end.
use Rattle.std.specs.Prelude.{ℕ, suc, ◌+◌, Bool, cond, not, List, [], ◌∷◌, ◌++◌, length, eqb, leb}
use Rattle.lists.specs.Lists.{any, every, below}
use Rattle.machine.specs.Value.{Value}
use Rattle.machine.specs.State.{Frame, StateOf, State, is_over, start_with}
use Rattle.machine.specs.Entry.{MachineOf, EffectOf, effect_in, able_in, table_machine}

-- What a run leaves: "A run answers end, entries used (idle ones too), lines written, outcomes used." The lines and
-- the final configuration are in the state.
pub record ResultOf (F : Type 0) : Type 0 where
  pub end : ℕ
  pub entries : ℕ
  pub state : StateOf F

-- "every process made has finished or stopped, end 1"
unfoldable pub all_over : {F : Type 0} → StateOf F → Bool
all_over s = every is_over s.config.processes

-- "none able to move (to step, meet or fault), end 2"
unfoldable pub none_able_in : {F : Type 0} → MachineOf F → StateOf F → Bool
none_able_in m s = not (any (able_in m s) (below (length s.config.processes)))

-- "the lines of this entry exceed what the trace still holds"
unfoldable pub fits : {F : Type 0} → ℕ → StateOf F → EffectOf F → Bool
fits room s e = leb (length s.lines + length e.lines) room

-- the state that a taken entry leaves
unfoldable pub after_effect : {F : Type 0} → StateOf F → EffectOf F → StateOf F
after_effect s e = record { config = e.config; used = s.used + e.used; lines = s.lines ++ e.lines }

abbrev pub ended : {F : Type 0} → ℕ → ℕ → StateOf F → ResultOf F
ended e k s = record { end = e; entries = k; state = s }

-- "Before each entry, and after the last: every process made has finished or stopped, end 1; none able to move (to
-- step, meet or fault), end 2; schedule used up, end 0; the lines of this entry exceed what the trace still holds,
-- end 3, entry not taken."
-- The run goes on from state s at entry k. Its fixed parts are the machine, and how many lines the trace holds.
unfoldable pub run_from_in : {F : Type 0} → MachineOf F → ℕ → StateOf F → ℕ → List ℕ → ResultOf F
run_from_in m room s k [] =
    cond (all_over s) (ended 1 k s) (cond (none_able_in m s) (ended 2 k s) (ended 0 k s))
run_from_in m room s k (n ∷ schedule) =
    let e = effect_in m k s n in
    let rest = run_from_in m room (after_effect s e) (suc k) schedule in
    cond (all_over s) (ended 1 k s)
    (cond (none_able_in m s) (ended 2 k s)
    (cond (fits room s e) rest (ended 3 k s)))

-- a run starts in method 0, main, which has no parameters
unfoldable pub run_in : {F : Type 0} → MachineOf F → ℕ → List ℕ → ResultOf F
run_in m room schedule = run_from_in m room (start_with (m.starts 0 [])) 0 schedule

-- What stands after one more entry: the run goes on where it stopped for want of entries, and else stays as it ended.
-- That a run on k + 1 entries is the run on k followed by the next is proved in proofs/Prefix.antt.
unfoldable pub followed_in : {F : Type 0} → MachineOf F → ℕ → ResultOf F → ℕ → ResultOf F
followed_in m room r n =
    let e = effect_in m r.entries r.state n in
    cond (eqb r.end 0)
    (cond (fits room r.state e)
    (run_from_in m room (after_effect r.state e) (suc r.entries) [])
    (ended 3 r.entries r.state))
    r

-- The run of a program table: its fixed parts are the table, the outcome list, and how many lines the trace holds.
abbrev pub Result : Type 0
Result = ResultOf Frame

abbrev pub none_able : List ℕ → List ℕ → State → Bool
none_able p outcomes = none_able_in (table_machine p outcomes)

abbrev pub run_from : List ℕ → List ℕ → ℕ → State → ℕ → List ℕ → Result
run_from p outcomes = run_from_in (table_machine p outcomes)

abbrev pub run : List ℕ → List ℕ → ℕ → List ℕ → Result
run p outcomes = run_in (table_machine p outcomes)

abbrev pub followed : List ℕ → List ℕ → ℕ → Result → ℕ → Result
followed p outcomes = followed_in (table_machine p outcomes)
