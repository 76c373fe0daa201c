-- A process that waits waits for another one that runs and that the lines name as holder of the opposite end; so at end
-- 2 every process that runs does.
use Prim.Native.Nat.{ℕ, suc, ◌≤◌, ◌<◌}
use mathlib.Core.Path.{◌≡◌, refl, sym, ◌∙◌, ap, subst}
use mathlib.Core.Logic.{◌≢◌, ⊎_elim}
use mathlib.Core.Bool.{Bool, true, false, cond, not, ◌||◌, true≢false}
use mathlib.Core.List.{List, [], ◌∷◌}
use mathlib.Core.Option.{Option, some}
use native.Mathlib.Omega.{arith}
use lib.ListN.{take, length}
use lib.Dec.{eqb, ltb}
use borrow.Author.Tests.{eqb-false, ltb-true, ltb-false}
use Rattle.lists.specs.Lists.{any, All, below}
use Rattle.lists.proofs.Tests.{decide, passed, passes}
use Rattle.lists.proofs.First.{any_below}
use Rattle.table.specs.Questions.{Accepted}
use Rattle.machine.specs.Value.{Thing, end}
use Rattle.machine.specs.State.{Status, running, finished, stopped, Process, Config, Line, State, is_over, process_at, start}
use Rattle.machine.specs.Act.{Offer, sends, receives, Act, idle, stuck, faults, goes, ends, makes, forks, offers, by_status, at_frames, act_of}
use Rattle.machine.specs.Entry.{opposite_end, is_gone, gone, judged, effect_of, moves, able, able_in, moves_in}
use Rattle.machine.specs.Run.{Result, all_over, none_able, none_able_in, fits, after_effect, run, ended, run_from, run_from_in, run_in}
use Rattle.machine.specs.Owner.{holder, Holds, reaches, values_of}
use Rattle.machine.specs.Sound.{Made}
use Rattle.machine.specs.Waiting.{WaitsFor}
use Rattle.machine.proofs.Within.{OfferWithin, ActWithin, act-within}
use Rattle.machine.proofs.Busy.{Busy, frames-busy}
use Rattle.machine.proofs.Giving.{process-beyond}
use Rattle.machine.proofs.Ownership.{Kept, run-kept}
use Rattle.machine.proofs.Sound.{sound}

-- who holds the opposite end, where the partner has not gone

status-running : (pr : Process) → is_over pr ≡ false → pr.status ≡ running
status-running pr e = go pr.status refl
  where
    go : (st : Status) → pr.status ≡ st → st ≡ running
    go running i = refl
    go finished i =
        absurd (true≢false (sym (ap (λ (x : Status). is_over (record { status = x; frames = pr.frames })) i) ∙ e))
    go (stopped f) i =
        absurd (true≢false (sym (ap (λ (x : Status). is_over (record { status = x; frames = pr.frames })) i) ∙ e))

or-false-left : (a b : Bool) → (a || b) ≡ false → a ≡ false
or-false-left true b e = e
or-false-left false b e = refl

or-false-right : (a b : Bool) → (a || b) ≡ false → b ≡ false
or-false-right true b e = absurd (true≢false e)
or-false-right false b e = e

not-gone : (s : State) (n : ℕ) (o : Offer) (q : ℕ) → Holds s.lines q (opposite_end o) → gone s n o ≡ false
    → WaitsFor s n o
unfolding gone is_gone
not-gone s n o q h g =
    let e : (eqb q n || is_over (process_at s.config q)) ≡ false = sym (ap (is_gone s.config n) h) ∙ g in
    record {
      partner = q;
      another = eqb-false q n (or-false-left (eqb q n) (is_over (process_at s.config q)) e);
      holds = h;
      runs = status-running (process_at s.config q) (or-false-right (eqb q n) (is_over (process_at s.config q)) e);
    }

-- an offer that does not move is not of a partner that has gone
waits-not-gone : (p outcomes : List ℕ) (s : State) (n : ℕ) (o : Offer) → act_of p outcomes s n ≡ offers o
    → able p outcomes s n ≡ false
    → gone s n o ≡ false
unfolding able_in moves_in judged
waits-not-gone p outcomes s n o a e =
    ⊎_elim
    (λ t. absurd
    (true≢false
    (sym
    (ap (λ (x : Act). moves p outcomes s n (judged s n x)) a
    ∙ ap (λ (b : Bool). moves p outcomes s n (cond b (faults 33) (offers o))) t)
    ∙ e)))
    (λ f. f)
    (decide (gone s n o))

-- the end opposite to one in reach was made
opposite-made : (c : Config) (n : ℕ) (ls : List Line) (o : Offer) → Kept c ls
    → OfferWithin (values_of (process_at c n).frames) o → Made c (opposite_end o)
unfolding reaches
opposite-made c n ls (sends i d v fs) h w = h.made (end i d) n w.0
opposite-made c n ls (receives i d fs) h w = h.made (end i d) n w.0

module _ (p outcomes : List ℕ) (s : State) (h : Kept s.config s.lines) where
  pub waits-for : (n : ℕ) (o : Offer) → act_of p outcomes s n ≡ offers o → able p outcomes s n ≡ false → WaitsFor s n o
  waits-for n o a e =
      let within =
      subst (ActWithin (values_of (process_at s.config n).frames) s.config.qubits s.config.channels) a
      (act-within p outcomes s n) in
      let (q, held) = h.held (opposite_end o) (opposite-made s.config n s.lines o h within) in
      not-gone s n o q held (waits-not-gone p outcomes s n o a e)

running-made : (c : Config) (n : ℕ) → (process_at c n).status ≡ running → n < length c.processes
running-made c n e =
    ⊎_elim (ltb-true n (length c.processes))
    (λ l. absurd
    (finished≢running
    (sym (ap (λ (pr : Process). pr.status) (process-beyond c n (ltb-false n (length c.processes) l))) ∙ e)))
    (decide (ltb n (length c.processes)))
  where
    finished≢running : finished ≡ running → ⊥
    finished≢running i = let z : ◌≡◌ {A = ℕ} 0 1 = cc in omega arith

-- a process that runs is not idle by its instruction
pub running-busy : (p outcomes : List ℕ) (s : State) (n : ℕ) → (process_at s.config n).status ≡ running
    → Busy (act_of p outcomes s n)
unfolding act_of by_status
running-busy p outcomes s n e =
    subst (λ (st : Status). Busy (by_status st (at_frames p outcomes s (process_at s.config n).frames))) (sym e)
    (frames-busy p outcomes s (process_at s.config n).frames)

-- the two claims, of the run

module _ (p outcomes : List ℕ) (room : ℕ) (schedule : List ℕ) where
  -- what stands after the schedule's first k entries
  abbrev after : ℕ → State
  after k = (run p outcomes room (take k schedule)).state

  pub waiting : (k n : ℕ) (o : Offer) → act_of p outcomes (after k) n ≡ offers o → able p outcomes (after k) n ≡ false
      → WaitsFor (after k) n o
  waiting k n o a e = waits-for p outcomes (after k) (run-kept p outcomes room (take k schedule)) n o a e

  -- the run ends by end 2 where nobody is able to move
  stuck-from : (s : State) (i : ℕ) (rest : List ℕ) → (run_from p outcomes room s i rest).end ≡ 2
      → none_able p outcomes (run_from p outcomes room s i rest).state ≡ true
  unfolding run_from_in
  stuck-from s i [] e = go (all_over s) (none_able p outcomes s) refl e
    where
      go : (a b : Bool) → none_able p outcomes s ≡ b → (cond a (ended 1 i s) (cond b (ended 2 i s) (ended 0 i s))).end ≡ 2
          → none_able p outcomes (cond a (ended 1 i s) (cond b (ended 2 i s) (ended 0 i s))).state ≡ true
      go true b x e = absurd (omega (arith, e))
      go false true x e = x
      go false false x e = absurd (omega (arith, e))
  stuck-from s i (n ∷ rest) e =
      go (all_over s) (none_able p outcomes s) (fits room s (effect_of p outcomes i s n)) refl
      (stuck-from (after_effect s (effect_of p outcomes i s n)) (suc i) rest) e
    where
      later : Result
      later = run_from p outcomes room (after_effect s (effect_of p outcomes i s n)) (suc i) rest

      go : (a b c : Bool) → none_able p outcomes s ≡ b → (later.end ≡ 2 → none_able p outcomes later.state ≡ true)
          → (cond a (ended 1 i s) (cond b (ended 2 i s) (cond c later (ended 3 i s)))).end ≡ 2
          → none_able p outcomes (cond a (ended 1 i s) (cond b (ended 2 i s) (cond c later (ended 3 i s)))).state ≡ true
      go true b c x h e = absurd (omega (arith, e))
      go false true c x h e = x
      go false false true x h e = h e
      go false false false x h e = absurd (omega (arith, e))

  abbrev last : State
  last = (run p outcomes room schedule).state

  none-able : (run p outcomes room schedule).end ≡ 2 → (n : ℕ) → n < length last.config.processes
      → able p outcomes last n ≡ false
  unfolding run_in none_able_in
  none-able e n l =
      ⊎_elim
      (λ t. absurd (true≢false (sym (stuck-from (start p) 0 schedule e)
      ∙ ap not {x = any (able p outcomes last) (below (length last.config.processes))}
      (passed _ (any_below (able p outcomes last) (length last.config.processes) n l (passes t))))))
      (λ f. f)
      (decide (able p outcomes last n))

  -- at end 2 every process that runs waits for another that runs
  pub all-wait : Accepted p → All (λ o. o ≤ 2) outcomes → (run p outcomes room schedule).end ≡ 2 → (n : ℕ)
      → (process_at last.config n).status ≡ running
      → (o : Offer) × (act_of p outcomes last n ≡ offers o) × WaitsFor last n o
  unfolding able_in moves_in judged
  all-wait accepted bytes e n r = go (act_of p outcomes last n) refl
    where
      unable : able p outcomes last n ≡ false
      unable = none-able e n (running-made last.config n r)

      moved : (act : Act) → act_of p outcomes last n ≡ act → moves p outcomes last n (judged last n act) ≡ false
      moved act i = sym (ap (λ (x : Act). moves p outcomes last n (judged last n x)) i) ∙ unable

      go : (act : Act) → act_of p outcomes last n ≡ act
          → (o : Offer) × (act_of p outcomes last n ≡ offers o) × WaitsFor last n o
      go idle i = absurd (subst Busy i (running-busy p outcomes last n r))
      go stuck i = absurd ((sound p outcomes room schedule accepted bytes).going n i)
      go (faults f) i = absurd (true≢false (moved (faults f) i))
      go (goes fs es u) i = absurd (true≢false (moved (goes fs es u) i))
      go ends i = absurd (true≢false (moved ends i))
      go (makes t fs) i = absurd (true≢false (moved (makes t fs) i))
      go (forks m args fs) i = absurd (true≢false (moved (forks m args fs) i))
      go (offers o) i = (o, i, waits-for p outcomes last (run-kept p outcomes room schedule) n o i unable)
