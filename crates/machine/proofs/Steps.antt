-- The state before each entry, and how the run goes on or ends there. What a loop over the schedule needs to know.
use Prim.Native.Nat.{ℕ, zero, suc, ◌+◌, ◌≤◌, ◌<◌}
use mathlib.Core.Path.{◌≡◌, refl, ◌∙◌, ap, ap₂, subst}
use mathlib.Core.Bool.{Bool, true, false, cond, not, ◌&&◌, true≢false}
use mathlib.Core.List.{List, [], ◌∷◌, append-nil}
use mathlib.Core.Option.{Option, none, some}
use native.Mathlib.Nat.{le_of_suc-le-suc, not-suc-le-zero}
use native.Mathlib.Omega.{arith}
use lib.ListN.{get_or, drop, length}
use lib.Seq.{drop-cons}
use lib.Dec.{T}
use Rattle.lists.specs.Lists.{any, every, All, below}
use Rattle.lists.proofs.Tests.{passed, passes}
use Rattle.lists.proofs.First.{any_below}
use Rattle.table.proofs.Accepted.{Kept}
use Rattle.machine.specs.State.{Status, running, finished, stopped, Process, State, is_over, process_at, start, unmade, start_with}
use Rattle.machine.specs.Act.{Act, idle, stuck, faults, goes, ends, makes, forks, offers, by_status, act_of}
use Rattle.machine.specs.Entry.{Meeting, nothing, meeting_of, meet_if_in, is_meeting, judged, applied, effect_of, moves, able, able_in, applied_in, effect_in, moves_in, table_machine}
use Rattle.machine.specs.Run.{Result, all_over, none_able, fits, after_effect, ended, run_from, run, none_able_in, run_from_in, run_in}
use Rattle.machine.proofs.Typing.{Typed}
use Rattle.machine.proofs.Effects.{effect-typed}
use Rattle.machine.proofs.Sound.{start-typed}
use Rattle.machine.proofs.Lines.{Dated, dated-next, effect-of}
use Rattle.machine.proofs.Ownership as own

-- an entry of a process that cannot move does nothing
pub unable-nothing : (p outcomes : List ℕ) (k : ℕ) (s : State) (n : ℕ) → able p outcomes s n ≡ false
    → effect_of p outcomes k s n ≡ nothing s
unfolding able_in effect_in meet_if_in is_meeting applied_in moves_in
unable-nothing p outcomes k s n e = go (judged s n (act_of p outcomes s n)) e
  where
    unmet : (m : Option Meeting) → is_meeting m ≡ false → meet_if_in (table_machine p outcomes) k s m ≡ nothing s
    unmet none e = refl
    unmet (some m) e = absurd (true≢false e)

    go : (a : Act) → moves p outcomes s n a ≡ false → applied p outcomes k s n a ≡ nothing s
    go idle e = refl
    go stuck e = refl
    go (faults m) e = absurd (true≢false e)
    go (goes fs es u) e = absurd (true≢false e)
    go ends e = absurd (true≢false e)
    go (makes t fs) e = absurd (true≢false e)
    go (forks m args fs) e = absurd (true≢false e)
    go (offers o) e = unmet (meeting_of p outcomes s n o) e

pub after_nothing : (s : State) → after_effect s (nothing s) ≡ s
unfolding after_effect
after_nothing s = λ i. record { config = s.config; used = added i; lines = append-nil s.lines i }
  where
    added : s.used + 0 ≡ s.used
    added = omega arith

-- the state before entry k, whether the run comes to it or not
unfoldable pub state_at : List ℕ → List ℕ → List ℕ → ℕ → State
state_at p outcomes schedule zero = start p
state_at p outcomes schedule (suc k) =
    after_effect (state_at p outcomes schedule k)
    (effect_of p outcomes k (state_at p outcomes schedule k) (get_or schedule k 0))

-- the number of the end that the processes give by themselves, 0 where the run can go on
unfoldable pub ending : List ℕ → List ℕ → State → ℕ
ending p outcomes s = cond (all_over s) 1 (cond (none_able p outcomes s) 2 0)

module _ (p outcomes schedule : List ℕ) where
  pub at_typed : (k : Kept p) → All (λ o. o ≤ 2) outcomes → (i : ℕ) → Typed p (state_at p outcomes schedule i).config
  unfolding state_at start_with after_effect
  at_typed k bytes zero = ([], start-typed p k)
  at_typed k bytes (suc i) =
      effect-typed p k outcomes bytes (state_at p outcomes schedule i) (at_typed k bytes i).0 (at_typed k bytes i).1 i
      (get_or schedule i 0)

  at-dated : (i : ℕ) → Dated i (state_at p outcomes schedule i).lines
  unfolding state_at start_with after_effect
  at-dated zero = tt
  at-dated (suc i) =
      dated-next i (state_at p outcomes schedule i).lines _ (at-dated i)
      (effect-of p outcomes i (state_at p outcomes schedule i) (get_or schedule i 0))

  pub at-kept : (i : ℕ) → own.Kept (state_at p outcomes schedule i).config (state_at p outcomes schedule i).lines
  unfolding state_at start_with after_effect
  at-kept zero = own.start-kept p
  at-kept (suc i) =
      own.entry_kept p outcomes i (state_at p outcomes schedule i) (get_or schedule i 0) (at-dated i) (at-kept i)

-- how the run goes on

module _ (p outcomes : List ℕ) (room : ℕ) where
  -- an end of the processes comes before everything else
  pub ends-here : (s : State) (k e : ℕ) (rest : List ℕ) → ending p outcomes s ≡ suc e
      → run_from p outcomes room s k rest ≡ ended (suc e) k s
  unfolding ending run_from_in
  ends-here s k e [] h = first (all_over s) (none_able p outcomes s) h
    where
      first : (a b : Bool) → cond a 1 (cond b 2 0) ≡ suc e
          → cond a (ended 1 k s) (cond b (ended 2 k s) (ended 0 k s)) ≡ ended (suc e) k s
      first true b h = ap (λ (n : ℕ). ended n k s) h
      first false true h = ap (λ (n : ℕ). ended n k s) h
      first false false h = absurd (omega (arith, h))
  ends-here s k e (n ∷ rest) h =
      first (all_over s) (none_able p outcomes s) h
      (cond (fits room s (effect_of p outcomes k s n))
      (run_from p outcomes room (after_effect s (effect_of p outcomes k s n)) (suc k) rest) (ended 3 k s))
    where
      first : (a b : Bool) → cond a 1 (cond b 2 0) ≡ suc e → (r : Result)
          → cond a (ended 1 k s) (cond b (ended 2 k s) r) ≡ ended (suc e) k s
      first true b h r = ap (λ (n : ℕ). ended n k s) h
      first false true h r = ap (λ (n : ℕ). ended n k s) h
      first false false h r = absurd (omega (arith, h))

  -- the schedule is used up
  pub ends_last : (s : State) (k : ℕ) → run_from p outcomes room s k [] ≡ ended (ending p outcomes s) k s
  unfolding ending run_from_in
  ends_last s k = last (all_over s) (none_able p outcomes s)
    where
      last : (a b : Bool)
          → cond a (ended 1 k s) (cond b (ended 2 k s) (ended 0 k s)) ≡ ended (cond a 1 (cond b 2 0)) k s
      last true b = refl
      last false true = refl
      last false false = refl

  -- otherwise the entry is taken or does not fit
  pub goes_on : (s : State) (k n : ℕ) (rest : List ℕ) → ending p outcomes s ≡ 0
      → run_from p outcomes room s k (n ∷ rest)
      ≡ cond (fits room s (effect_of p outcomes k s n))
      (run_from p outcomes room (after_effect s (effect_of p outcomes k s n)) (suc k) rest) (ended 3 k s)
  unfolding ending run_from_in
  goes_on s k n rest h =
      on (all_over s) (none_able p outcomes s) h
      (cond (fits room s (effect_of p outcomes k s n))
      (run_from p outcomes room (after_effect s (effect_of p outcomes k s n)) (suc k) rest) (ended 3 k s))
    where
      on : (a b : Bool) → ◌≡◌ {A = ℕ} (cond a 1 (cond b 2 0)) 0 → (r : Result)
          → cond a (ended 1 k s) (cond b (ended 2 k s) r) ≡ r
      on true b h r = absurd (omega (arith, h))
      on false true h r = absurd (omega (arith, h))
      on false false h r = refl

  -- the same along the states before the entries
  module _ (schedule : List ℕ) where
    pub at-start :
        run p outcomes room schedule ≡ run_from p outcomes room (state_at p outcomes schedule 0) 0 (drop 0 schedule)
    unfolding run_in state_at
    at-start = refl

    pub at_next : (k : ℕ) → k < length schedule → ending p outcomes (state_at p outcomes schedule k) ≡ 0
        → fits room (state_at p outcomes schedule k)
        (effect_of p outcomes k (state_at p outcomes schedule k) (get_or schedule k 0)) ≡ true
        → run_from p outcomes room (state_at p outcomes schedule k) k (drop k schedule)
        ≡ run_from p outcomes room (state_at p outcomes schedule (suc k)) (suc k) (drop (suc k) schedule)
    unfolding state_at
    at_next k l e f =
        ap (run_from p outcomes room (state_at p outcomes schedule k) k) (drop-cons schedule k 0 l)
        ∙ goes_on (state_at p outcomes schedule k) k (get_or schedule k 0) (drop (suc k) schedule) e
        ∙ ap (λ (b : Bool). cond b
        (run_from p outcomes room
        (after_effect (state_at p outcomes schedule k)
        (effect_of p outcomes k (state_at p outcomes schedule k) (get_or schedule k 0))) (suc k) (drop (suc k) schedule))
        (ended 3 k (state_at p outcomes schedule k))) f

    pub at-full : (k : ℕ) → k < length schedule → ending p outcomes (state_at p outcomes schedule k) ≡ 0
        → fits room (state_at p outcomes schedule k)
        (effect_of p outcomes k (state_at p outcomes schedule k) (get_or schedule k 0)) ≡ false
        → run_from p outcomes room (state_at p outcomes schedule k) k (drop k schedule) ≡ ended 3 k
        (state_at p outcomes schedule k)
    at-full k l e f =
        ap (run_from p outcomes room (state_at p outcomes schedule k) k) (drop-cons schedule k 0 l)
        ∙ goes_on (state_at p outcomes schedule k) k (get_or schedule k 0) (drop (suc k) schedule) e
        ∙ ap (λ (b : Bool). cond b
        (run_from p outcomes room
        (after_effect (state_at p outcomes schedule k)
        (effect_of p outcomes k (state_at p outcomes schedule k) (get_or schedule k 0))) (suc k) (drop (suc k) schedule))
        (ended 3 k (state_at p outcomes schedule k))) f

    pub at_last : (k : ℕ) → length schedule ≤ k
        → run_from p outcomes room (state_at p outcomes schedule k) k (drop k schedule)
        ≡ ended (ending p outcomes (state_at p outcomes schedule k)) k (state_at p outcomes schedule k)
    at_last k l =
        ap (run_from p outcomes room (state_at p outcomes schedule k) k) (none_left schedule k l)
        ∙ ends_last (state_at p outcomes schedule k) k
      where
        none_left : (xs : List ℕ) (j : ℕ) → length xs ≤ j → drop j xs ≡ []
        none_left [] zero h = refl
        none_left [] (suc j) h = refl
        none_left (x ∷ xs) zero h = absurd (not-suc-le-zero h)
        none_left (x ∷ xs) (suc j) h = none_left xs j (le_of_suc-le-suc h)

-- a process that is able to move is made and not over, so the run has not ended

status-moves : (p outcomes : List ℕ) (s : State) (n : ℕ) (st : Status) (act : Act)
    → T (moves p outcomes s n (judged s n (by_status st act)))
    → st ≡ running
unfolding by_status moves_in judged
status-moves p outcomes s n running act t = refl
status-moves p outcomes s n finished act t = absurd t
status-moves p outcomes s n (stopped f) act t = absurd t

some-running : (prs : List Process) (n : ℕ) → (get_or prs n unmade).status ≡ running → every is_over prs ≡ false
some-running [] n e = absurd (none e)
  where
    none : finished ≡ running → ⊥
    none e = subst Ended e tt
      where
        Ended : Status → Type 0
        Ended running = ⊥
        Ended finished = Unit {0}
        Ended (stopped f) = Unit {0}
some-running (pr ∷ prs) zero e =
    ap (λ (st : Status). is_over (record { status = st; frames = pr.frames }) && every is_over prs) e
some-running (pr ∷ prs) (suc n) e = ap (λ (b : Bool). is_over pr && b) (some-running prs n e) ∙ and-false (is_over pr)
  where
    and-false : (b : Bool) → (b && false) ≡ false
    and-false true = refl
    and-false false = refl

pub able-made : (p outcomes : List ℕ) (s : State) (n : ℕ) → able p outcomes s n ≡ true
    → n < length s.config.processes
unfolding able_in act_of process_at
able-made p outcomes s n e = go s.config.processes n (status-moves p outcomes s n _ _ (passes e))
  where
    go : (prs : List Process) (n : ℕ) → (get_or prs n unmade).status ≡ running → n < length prs
    go [] n e = absurd (subst Ended e tt)
      where
        Ended : Status → Type 0
        Ended running = ⊥
        Ended finished = Unit {0}
        Ended (stopped f) = Unit {0}
    go (pr ∷ prs) zero e = omega arith
    go (pr ∷ prs) (suc n) e = omega (arith, go prs n e)

pub able-goes : (p outcomes : List ℕ) (s : State) (n : ℕ) → able p outcomes s n ≡ true → ending p outcomes s ≡ 0
unfolding ending all_over none_able_in able_in act_of process_at
able-goes p outcomes s n e =
    ap₂ (λ (a b : Bool). cond {A = ℕ} a 1 (cond (not b) 2 0))
    {u = any (able p outcomes s) (below (length s.config.processes))} {v = true}
    (some-running s.config.processes n (status-moves p outcomes s n _ _ (passes e)))
    (passed _ (any_below (able p outcomes s) (length s.config.processes) n (able-made p outcomes s n e) (passes e)))
