-- A fault stops the process that its entry names and does nothing else; and whatever process is stopped, an entry that
-- named it faulted.
use Prim.Native.Nat.{ℕ, zero, suc, ◌+◌, ◌≤◌, ◌<◌}
use mathlib.Core.Path.{◌≡◌, refl, sym, ◌∙◌, ap, subst}
use mathlib.Core.Logic.{◌≢◌, ◌⊎◌, inl, inr, ⊎_elim}
use mathlib.Core.Bool.{Bool, true, false}
use mathlib.Core.List.{List, [], ◌∷◌}
use mathlib.Core.Option.{Option, none, some, some-injective, none-ne-some}
use native.Mathlib.Omega.{arith}
use lib.ListN.{get_or, take, length}
use lib.Dec.{eqb, ltb}
use borrow.Author.Tests.{eqb-true, eqb-false, ltb-true, ltb-false}
use Rattle.lists.proofs.Tests.{decide}
use Rattle.machine.specs.Value.{Thing, qubit, channel, end}
use Rattle.machine.specs.State.{running, finished, stopped, Process, Config, State, process_at, set_process, start_config, start, stops, start_config_with, start_with}
use Rattle.machine.specs.Act.{Act, idle, stuck, faults, goes, ends, makes, forks, offers, act_of}
use Rattle.machine.specs.Entry.{Meeting, changes, runs, counted, joined, forking, meeting_of, judged, applied, effect_of, faulted, fault_of, moves, able, able_in, applied_in, effect_in, fault_in, forking_in, meet_if_in, meet_in, moves_in, table_machine}
use Rattle.machine.specs.Run.{Result, all_over, none_able, fits, after_effect, run_from, run, run_from_in, run_in}
use Rattle.machine.specs.Faults.{StoppedBy}
use Rattle.machine.proofs.Giving.{process-same, process-other, process-beyond, count_set, joined-old, joined-new, joined-last}
use Rattle.machine.proofs.Steps.{able-made, ends_last}

-- a fault's entry

fault-act : (act : Act) (f : ℕ) → faulted act ≡ some f → act ≡ faults f
unfolding faulted
fault-act idle f e = absurd (none-ne-some f e)
fault-act stuck f e = absurd (none-ne-some f e)
fault-act (faults g) f e = ap faults (some-injective g f e)
fault-act (goes fs es u) f e = absurd (none-ne-some f e)
fault-act ends f e = absurd (none-ne-some f e)
fault-act (makes t fs) f e = absurd (none-ne-some f e)
fault-act (forks m args fs) f e = absurd (none-ne-some f e)
fault-act (offers o) f e = absurd (none-ne-some f e)

module _ (p outcomes : List ℕ) (s : State) (n f : ℕ) (would : fault_of p outcomes s n ≡ some f) where
  abbrev halted : Process
  halted = record { status = stopped f; frames = (process_at s.config n).frames }

  fault-effect : (k : ℕ) → effect_of p outcomes k s n ≡ changes k s n halted (stops f ∷ []) 0
  unfolding fault_in effect_in applied_in
  fault-effect k = ap (applied p outcomes k s n) (fault-act (judged s n (act_of p outcomes s n)) f would)

  fault-made : n < length s.config.processes
  unfolding fault_in able_in moves_in
  fault-made =
      able-made p outcomes s n (ap (moves p outcomes s n) (fault-act (judged s n (act_of p outcomes s n)) f would))

  pub fault-stops : (k : ℕ) → StoppedBy k n f s (after_effect s (effect_of p outcomes k s n))
  unfolding after_effect set_process
  fault-stops k = rw (fault-effect k) (record {
    process = process-same s.config n halted fault-made;
    others = λ m ne. process-other s.config n m halted ne;
    processes = count_set s.config n halted;
    qubits = refl;
    channels = refl;
    line = refl;
    used = omega arith;
  })

-- who is stopped after an entry, was before it, or faulted in it

-- process n is stopped by f
abbrev IsStopped : Config → ℕ → ℕ → Type 0
IsStopped c n f = (process_at c n).status ≡ stopped f

runs-not : (f : ℕ) → running ≡ stopped f → ⊥
runs-not f e = let z : ◌≡◌ {A = ℕ} 0 1 = cc in omega arith

ended-not : (f : ℕ) → finished ≡ stopped f → ⊥
ended-not f e = let z : ◌≡◌ {A = ℕ} 0 1 = cc in omega arith

made-if : (c : Config) (n f : ℕ) → IsStopped c n f → n < length c.processes
made-if c n f e =
    ⊎_elim (ltb-true n (length c.processes)) (λ l. absurd (beyond (ltb-false n (length c.processes) l)))
    (decide (ltb n (length c.processes)))
  where
    beyond : length c.processes ≤ n → ⊥
    beyond l = ended-not f (sym (ap (λ (pr : Process). pr.status) (process-beyond c n l)) ∙ e)

set-stopped : (c : Config) (m n : ℕ) (pr : Process) (f : ℕ) → IsStopped (set_process c m pr) n f
    → IsStopped c n f ⊎ ((m ≡ n) × (pr.status ≡ stopped f))
set-stopped c m n pr f e =
    ⊎_elim (λ i. inr (same (eqb-true n m i))) (λ i. inl (other (eqb-false n m i))) (decide (eqb n m))
  where
    other : n ≢ m → IsStopped c n f
    other ne = sym (ap (λ (q : Process). q.status) (process-other c m n pr ne)) ∙ e

    made : n < length c.processes
    made = subst (λ (l : ℕ). n < l) (count_set c m pr) (made-if (set_process c m pr) n f e)

    same : n ≡ m → (m ≡ n) × (pr.status ≡ stopped f)
    same i = (
      sym i,
      sym (ap (λ (q : Process). q.status) (process-same c m pr (subst (λ (j : ℕ). j < length c.processes) i made)))
          ∙ subst (λ (j : ℕ). IsStopped (set_process c m pr) j f) i e,
    )

-- a process set running, or finished, is not stopped
set-going : (c : Config) (m n : ℕ) (pr : Process) (f : ℕ) → (pr.status ≡ stopped f → ⊥)
    → IsStopped (set_process c m pr) n f → IsStopped c n f
set-going c m n pr f going e = ⊎_elim (λ i. i) (λ i. absurd (going i.1)) (set-stopped c m n pr f e)

joined-stopped : (c : Config) (pr : Process) (n f : ℕ) → (pr.status ≡ stopped f → ⊥) → IsStopped (joined c pr) n f
    → IsStopped c n f
joined-stopped c pr n f going e =
    ⊎_elim (λ l. old (ltb-true n (length c.processes) l)) (λ l. absurd (new (ltb-false n (length c.processes) l)))
    (decide (ltb n (length c.processes)))
  where
    old : n < length c.processes → IsStopped c n f
    old l = sym (ap (λ (q : Process). q.status) (joined-old c pr n l)) ∙ e

    new : length c.processes ≤ n → ⊥
    new l =
        going
        (sym (ap (λ (q : Process). q.status) (joined-new c pr))
        ∙ subst (λ (j : ℕ). IsStopped (joined c pr) j f) (joined-last c pr n (made-if (joined c pr) n f e) l) e)

counted-stopped : (t : Thing) (c : Config) (n f : ℕ) → IsStopped (counted t c) n f → IsStopped c n f
unfolding counted process_at
counted-stopped (qubit i) c n f e = e
counted-stopped (channel i) c n f e = e
counted-stopped (end i d) c n f e = e

met-stopped : (p outcomes : List ℕ) (k : ℕ) (s : State) (o : Option Meeting) (n f : ℕ)
    → IsStopped (meet_if_in (table_machine p outcomes) k s o).config n f → IsStopped s.config n f
unfolding meet_if_in meet_in
met-stopped p outcomes k s none n f e = e
met-stopped p outcomes k s (some w) n f e =
    set-going s.config w.sender n _ f (runs-not f) (set-going _ w.receiver n _ f (runs-not f) e)

-- whoever is stopped after an entry was stopped before it, or is the process named, which faulted
entry-stopped : (p outcomes : List ℕ) (k : ℕ) (s : State) (m n f : ℕ)
    → IsStopped (effect_of p outcomes k s m).config n f
    → IsStopped s.config n f ⊎ ((m ≡ n) × (fault_of p outcomes s n ≡ some f))
unfolding effect_in applied_in forking_in fault_in faulted
entry-stopped p outcomes k s m n f e = go (judged s m (act_of p outcomes s m)) refl e
  where
    go : (a : Act) → judged s m (act_of p outcomes s m) ≡ a → IsStopped (applied p outcomes k s m a).config n f
        → IsStopped s.config n f ⊎ ((m ≡ n) × (faulted (judged s n (act_of p outcomes s n)) ≡ some f))
    go idle i h = inl h
    go stuck i h = inl h
    go (faults g) i h =
        ⊎_elim inl (λ w. inr (w.0, rw (← w.0, i) (cc w.1)))
        (set-stopped s.config m n (record { status = stopped g; frames = (process_at s.config m).frames }) f h)
    go (goes fs es u) i h = inl (set-going s.config m n (runs fs) f (runs-not f) h)
    go ends i h = inl (set-going s.config m n (record { status = finished; frames = [] }) f (ended-not f) h)
    go (makes t fs) i h = inl (set-going s.config m n (runs fs) f (runs-not f) (counted-stopped t _ n f h))
    go (forks c args fs) i h = inl (set-going s.config m n _ f (runs-not f) (joined-stopped _ _ n f (runs-not f) h))
    go (offers o) i h = inl (met-stopped p outcomes k s (meeting_of p outcomes s m o) n f h)

-- along the run

module _ (p outcomes : List ℕ) (room : ℕ) where
  abbrev from : State → ℕ → List ℕ → Result
  from s i schedule = run_from p outcomes room s i schedule

  -- the state after entry i, where it names process n
  abbrev next : State → ℕ → ℕ → State
  next s i n = after_effect s (effect_of p outcomes i s n)

  -- before entry i, which names process n, the run ends, or it takes the entry, whatever entries follow
  abbrev Ends : State → ℕ → ℕ → Type 0
  Ends s i n = (rest : List ℕ) → ((from s i (n ∷ rest)).state ≡ s) × ((from s i (n ∷ rest)).entries ≡ i)

  abbrev Takes : State → ℕ → ℕ → Type 0
  Takes s i n = (rest : List ℕ) → from s i (n ∷ rest) ≡ from (next s i n) (suc i) rest

  ends-or-takes : (s : State) (i n : ℕ) → Ends s i n ⊎ Takes s i n
  unfolding run_from_in
  ends-or-takes s i n = go (all_over s) (none_able p outcomes s) (fits room s (effect_of p outcomes i s n)) refl refl refl
    where
      go : (a b c : Bool) → all_over s ≡ a → none_able p outcomes s ≡ b → fits room s (effect_of p outcomes i s n) ≡ c
          → Ends s i n ⊎ Takes s i n
      go true b c x y z = inl (λ rest. rw x (refl, refl))
      go false true c x y z = inl (λ rest. rw (x, y) (refl, refl))
      go false false true x y z = inr (λ rest. rw (x, y, z))
      go false false false x y z = inl (λ rest. rw (x, y, z) (refl, refl))

  stays : (s : State) (i : ℕ) → (from s i []).state ≡ s
  stays s i = ap (λ (r : Result). r.state) (ends_last p outcomes room s i)

  entries_from : (s : State) (i : ℕ) (schedule : List ℕ) → i ≤ (from s i schedule).entries
  entries_from s i [] = rw (ends_last p outcomes room s i) (omega arith)
  entries_from s i (n ∷ schedule) =
      ⊎_elim (λ e. omega (arith, (e schedule).1))
      (λ t. rw (t schedule) (omega (arith, entries_from (next s i n) (suc i) schedule)))
      (ends-or-takes s i n)

  -- an entry below the number of entries used is taken, and what stands after it is its effect on what stood before it
  taken : (s : State) (i n : ℕ) (rest : List ℕ) → i < (from s i (n ∷ rest)).entries → Takes s i n
  taken s i n rest h = ⊎_elim (λ e. absurd (omega (arith, (e rest).1))) (λ t. t) (ends-or-takes s i n)

  taken-from : (schedule : List ℕ) (s : State) (i k j : ℕ) → j ≡ i + k → j < (from s i schedule).entries
      → (from s i (take (suc k) schedule)).state ≡ next (from s i (take k schedule)).state j (get_or schedule k 0)
  taken-from [] s i k j e h = absurd (omega (arith, ap (λ (r : Result). r.entries) (ends_last p outcomes room s i)))
  taken-from (n ∷ schedule) s i zero j e h =
      ap (λ (r : Result). r.state) (taken s i n schedule (omega arith) [])
      ∙ stays (next s i n) (suc i)
      ∙ ap (λ (x : State). next x i n) (sym (stays s i))
      ∙ ap (λ (m : ℕ). next (from s i []).state m n) (omega (arith, e))
  taken-from (n ∷ schedule) s i (suc k) j e h =
      let t = taken s i n schedule (omega (arith, e)) in
      ap (λ (r : Result). r.state) (t (take (suc k) schedule))
      ∙ taken-from schedule (next s i n) (suc i) k j (omega (arith, e))
      (subst (λ (r : Result). j < r.entries) (t schedule) h)
      ∙ ap (λ (r : Result). next r.state j (get_or schedule k 0)) (sym (t (take k schedule)))

  -- whoever is stopped was stopped at the start, or is named by an entry before, which the run takes and at which it
  -- faults
  abbrev FaultedBefore : List ℕ → State → ℕ → ℕ → ℕ → ℕ → Type 0
  FaultedBefore schedule s i k n f =
      (j : ℕ) × (j < k) × (i + j < (from s i schedule).entries) × (get_or schedule j 0 ≡ n)
      × (fault_of p outcomes (from s i (take j schedule)).state n ≡ some f)

  module _ (m : ℕ) (schedule : List ℕ) (s : State) (i k n f : ℕ) (t : Takes s i m) where
    at_once : IsStopped (next s i m).config n f
        → IsStopped s.config n f ⊎ FaultedBefore (m ∷ schedule) s i (suc k) n f
    unfolding after_effect
    at_once e =
        ⊎_elim inl
        (λ w. inr (
          0,
          omega arith,
          subst (λ (r : Result). i + 0 < r.entries) (sym (t schedule))
              (omega (arith, entries_from (next s i m) (suc i) schedule)),
          w.0,
          subst (λ (x : State). fault_of p outcomes x n ≡ some f) (sym (stays s i)) w.1,
        ))
        (entry-stopped p outcomes i s m n f e)

    later : FaultedBefore schedule (next s i m) (suc i) k n f → FaultedBefore (m ∷ schedule) s i (suc k) n f
    later w = (
      suc w.0,
      omega (arith, w.1),
      subst (λ (r : Result). i + suc w.0 < r.entries) (sym (t schedule)) (omega (arith, w.2)),
      w.3,
      subst (λ (r : Result). fault_of p outcomes r.state n ≡ some f) (sym (t (take w.0 schedule))) w.4,
    )

  stopped-from : (schedule : List ℕ) (s : State) (i k n f : ℕ)
      → IsStopped (from s i (take k schedule)).state.config n f
      → IsStopped s.config n f ⊎ FaultedBefore schedule s i k n f
  stopped-from [] s i zero n f e = inl (subst (λ (x : State). IsStopped x.config n f) (stays s i) e)
  stopped-from [] s i (suc k) n f e = inl (subst (λ (x : State). IsStopped x.config n f) (stays s i) e)
  stopped-from (m ∷ schedule) s i zero n f e = inl (subst (λ (x : State). IsStopped x.config n f) (stays s i) e)
  stopped-from (m ∷ schedule) s i (suc k) n f e =
      ⊎_elim (λ h. inl (subst (λ (x : State). IsStopped x.config n f) (h (take k schedule)).0 e))
      (λ t.
      ⊎_elim (at_once m schedule s i k n f t) (λ w. inr (later m schedule s i k n f t w))
      (stopped-from schedule (next s i m) (suc i) k n f
      (subst (λ (r : Result). IsStopped r.state.config n f) (t (take k schedule)) e)))
      (ends-or-takes s i m)

  -- the two claims, of the run from its start

  -- what stands after the schedule's first k entries
  abbrev after : List ℕ → ℕ → State
  after schedule k = (run p outcomes room (take k schedule)).state

  pub fault-alone : (schedule : List ℕ) (k f : ℕ) → k < (run p outcomes room schedule).entries
      → fault_of p outcomes (after schedule k) (get_or schedule k 0) ≡ some f
      → StoppedBy k (get_or schedule k 0) f (after schedule k) (after schedule (suc k))
  unfolding run_in
  fault-alone schedule k f h would =
      rw (taken-from schedule (start p) 0 k k (omega arith) h)
      (fault-stops p outcomes (after schedule k) (get_or schedule k 0) f would k)

  start-going : (n f : ℕ) → IsStopped (start p).config n f → ⊥
  unfolding start_with start_config_with process_at
  start-going zero f e = runs-not f e
  start-going (suc n) f e = ended-not f e

  pub stopped-by-fault : (schedule : List ℕ) (k n f : ℕ) → (process_at (after schedule k).config n).status ≡ stopped f
      → (j : ℕ) × (j < k) × (j < (run p outcomes room schedule).entries) × (get_or schedule j 0 ≡ n)
      × (fault_of p outcomes (after schedule j) n ≡ some f)
  unfolding run_in
  stopped-by-fault schedule k n f e =
      ⊎_elim (λ h. absurd (start-going n f h)) (λ w. (w.0, w.1, omega (arith, w.2), w.3, w.4))
      (stopped-from schedule (start p) 0 k n f e)
