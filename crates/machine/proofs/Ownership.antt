-- Demand 3 over the whole schedule. The invariant: whatever a process reaches, the lines so far name it as holder, and
-- it was made; every line is lawful by the lines above it; and numbers are given out in order (Numbers.antt). One lemma
-- carries reach and holders over any entry: whatever the entry did, some things went to one process by its lines, and
-- beyond them nobody reaches more than before.
use Prim.Native.Nat.{ℕ, zero, suc, ◌≤◌, ◌<◌}
use mathlib.Core.Path.{◌≡◌, refl, sym, ◌∙◌, ap, subst}
use mathlib.Core.Logic.{◌≢◌, ◌⊎◌, inl, inr, ⊎_elim}
use mathlib.Core.Bool.{Bool, true, false, cond, not, ◌&&◌, ◌||◌, beq}
use mathlib.Core.List.{List, [], ◌∷◌, ◌++◌, map, foldl}
use mathlib.Core.Option.{Option, none, some, some-injective, none-ne-some}
use native.Mathlib.Nat.{le_step, le_refl, lt_irrefl}
use native.Mathlib.Omega.{arith}
use lib.ListN.{take, length}
use lib.Dec.{T, eqb, ltb, eqb→eq}
use borrow.Author.Tests.{eqb-false, ltb-true, ltb-false}
use Rattle.lists.specs.Lists.{any, All}
use Rattle.lists.proofs.Tests.{decide, passes, or_cases, or_left, and_left, and_right}
use Rattle.lists.proofs.Any.{any-elim, first_some-found}
use Rattle.machine.specs.Value.{Thing, qubit, channel, end, Value, ref, covers}
use Rattle.machine.specs.State.{Frame, finished, stopped, Process, Config, Line, State, Event, process_at, set_process, started, start_config, start, line_of, gave, forked, met, finishes, stops, start_config_with, start_with}
use Rattle.machine.specs.Act.{Offer, sends, receives, Act, idle, stuck, faults, goes, ends, makes, forks, offers, act_of}
use Rattle.machine.specs.Entry.{Effect, Meeting, joins, offered, meets_with, meeting_of, meet_if_in, meet_in, runs, counted, making, joined, forking, frames_without, things_of, push_top, handing, judged, applied, effect_of, table_machine, applied_in, effect_in, forking_in, meeting_in}
use Rattle.machine.specs.Run.{after_effect, run, run_in}
use Rattle.machine.specs.Owner.{names, values_of, reaches, holder, holder_after, Holds, LineHeld, LineNew, MeetingHeld, Owned}
use Rattle.machine.specs.Sound.{Made}
use Rattle.machine.proofs.Things.{beq-eq}
use Rattle.machine.proofs.Within.{InReach, Within, FramesWithin, Quiet, Next, OfferWithin, ActWithin, frames-own, frame-started, act-within, judged-within}
use Rattle.machine.proofs.Invariant.{run-keeps}
use Rattle.machine.proofs.Numbers.{Numbered, entry-numbered, start-numbered}
use Rattle.machine.proofs.Lines.{each_append, each_at, Dated, dated-next, effect-of}
use Rattle.machine.proofs.Holder.{covered, LinesHeld, holder-append, holder-kept, holder-making, holder-quiet, holder-given, holder-handing, line-free, lines-quiet, Givable, givable-first, lines-given, lines-handing}
use Rattle.machine.proofs.Unmade.{unmade-idle}
use Rattle.machine.proofs.Giving.{count-joined, frames-reach, things-within, giver-left, child-reach, receiver-reach, others_keep, reach-made, reach-set, reach-joined, count_set}

-- The invariant of a configuration and the lines so far.
pub record Kept (c : Config) (ls : List Line) : Type 0 where
  pub named : (x : Thing) (n : ℕ) → T (reaches (process_at c n) x) → Holds ls n x
  pub made : (x : Thing) (n : ℕ) → T (reaches (process_at c n) x) → Made c x
  -- whatever was made has a holder, and whatever has one was made, and its holder too
  pub held : (x : Thing) → Made c x → (q : ℕ) × Holds ls q x
  pub holding : (x : Thing) (q : ℕ) → Holds ls q x → Made c x × (q < length c.processes)
  pub lawful : LinesHeld [] ls

-- What an entry does to ownership: the things ts go to process q by its lines. Beyond what they cover, a process
-- reaches only what it reached, and of that nothing that they cover unless it is q.
record Transfer (c c' : Config) (ls new : List Line) (q : ℕ) (ts : List Thing) : Type 0 where
  reach : (m : ℕ) (x : Thing) → T (reaches (process_at c' m) x)
      → ((m ≡ q) × T (covered ts x)) ⊎ (T (reaches (process_at c m) x) × ((m ≡ q) ⊎ (T (covered ts x) → ⊥)))
  still : (x : Thing) → Made c x → Made c' x
  fresh : (x : Thing) → T (covered ts x) → Made c' x
  only : (x : Thing) → Made c' x → Made c x ⊎ T (covered ts x)
  grown : length c.processes ≤ length c'.processes
  taker : (x : Thing) → T (covered ts x) → q < length c'.processes
  holders : (x : Thing) → holder (ls ++ new) x ≡ cond (covered ts x) (some q) (holder ls x)
  lines : LinesHeld ls new

choice-same : (b : Bool) (h : Option ℕ) (q : ℕ) → h ≡ some q → cond b (some q) h ≡ some q
choice-same true h q e = refl
choice-same false h q e = e

choice-true : (b : Bool) (h g : Option ℕ) → T b → cond b g h ≡ g
choice-true true h g t = refl
choice-true false h g t = absurd t

choice-false : (b : Bool) (h g : Option ℕ) → (T b → ⊥) → cond b g h ≡ h
choice-false true h g f = absurd (f tt)
choice-false false h g f = refl

choice-some : (b : Bool) (h : Option ℕ) (q : ℕ) → ((r : ℕ) × (h ≡ some r)) ⊎ T b
    → (r : ℕ) × (cond b (some q) h ≡ some r)
choice-some true h q w = (q, refl)
choice-some false h q (inl w) = w
choice-some false h q (inr t) = absurd t

-- any entry keeps the invariant
transfer-keeps : (c c' : Config) (ls new : List Line) (q : ℕ) (ts : List Thing) → Transfer c c' ls new q ts → Kept c ls
    → Kept c' (ls ++ new)
transfer-keeps c c' ls new q ts v h = record {
  named = λ x n r. v.holders x ∙ ⊎_elim (given x n) (stayed x n) (v.reach n x r);
  made = λ x n r. ⊎_elim (λ g. v.fresh x g.1) (λ o. v.still x (h.made x n o.0)) (v.reach n x r);
  held = λ x m.
      let w = choice-some (covered ts x) (holder ls x) q (⊎_elim (λ o. inl (h.held x o)) (λ t. inr t) (v.only x m)) in
      (w.0, v.holders x ∙ w.1);
  holding = λ x n r. holds x n (covered ts x) refl (sym (v.holders x) ∙ r);
  lawful = each_append LineHeld [] ls new h.lawful v.lines;
}
  where
    holds : (x : Thing) (n : ℕ) (b : Bool) → covered ts x ≡ b → cond b (some q) (holder ls x) ≡ some n
        → Made c' x × (n < length c'.processes)
    holds x n true i r = (
      v.fresh x (passes i),
      subst (λ (m : ℕ). m < length c'.processes) (some-injective q n r)
          (v.taker x (passes i)),
    )
    holds x n false i r = let w = h.holding x n r in (v.still x w.0, omega (arith, w.1, v.grown))

    given : (x : Thing) (n : ℕ) → (n ≡ q) × T (covered ts x) → cond (covered ts x) (some q) (holder ls x) ≡ some n
    given x n g = choice-true (covered ts x) (holder ls x) (some q) g.1 ∙ ap {B = Option ℕ} some (sym g.0)

    stayed : (x : Thing) (n : ℕ) → T (reaches (process_at c n) x) × ((n ≡ q) ⊎ (T (covered ts x) → ⊥))
        → cond (covered ts x) (some q) (holder ls x) ≡ some n
    stayed x n o =
        ⊎_elim
        (λ e. choice-same (covered ts x) (holder ls x) q (h.named x n o.0 ∙ ap {B = Option ℕ} some e)
        ∙ ap {B = Option ℕ} some (sym e))
        (λ f. choice-false (covered ts x) (holder ls x) (some q) f ∙ h.named x n o.0)
        o.1

-- entries that give nothing: idle, waiting, and every step within one process

still-set : (c : Config) (n : ℕ) (pr : Process) (x : Thing) → Made c x → Made (set_process c n pr) x
unfolding set_process
still-set c n pr (qubit k) h = h
still-set c n pr (channel k) h = h
still-set c n pr (end k s) h = h

only_set : (c : Config) (n : ℕ) (pr : Process) (x : Thing) → Made (set_process c n pr) x → Made c x
unfolding set_process
only_set c n pr (qubit k) h = h
only_set c n pr (channel k) h = h
only_set c n pr (end k s) h = h

only-joined : (c : Config) (pr : Process) (x : Thing) → Made (joined c pr) x → Made c x
unfolding joined
only-joined c pr (qubit k) h = h
only-joined c pr (channel k) h = h
only-joined c pr (end k s) h = h

still-joined : (c : Config) (pr : Process) (x : Thing) → Made c x → Made (joined c pr) x
unfolding joined
still-joined c pr (qubit k) h = h
still-joined c pr (channel k) h = h
still-joined c pr (end k s) h = h

transfer-nothing : (c : Config) (ls : List Line) → Transfer c c ls [] 0 []
transfer-nothing c ls = record {
  reach = λ m x r. inr (r, inr (λ b. b));
  still = λ x h. h;
  fresh = λ x b. absurd b;
  only = λ x h. inl h;
  grown = omega arith;
  taker = λ x b. absurd b;
  holders = λ x. holder-append ls [] x;
  lines = tt;
}

module _ (c : Config) (ls : List Line) (h : Kept c ls) (k n : ℕ) where
  -- the values of process n
  abbrev own : List Value
  own = values_of (process_at c n).frames

  moved-within : (pr : Process) (es : List Event) → FramesWithin own pr.frames → All (Quiet own) es
      → Transfer c (set_process c n pr) ls (map (line_of k n) es) n []
  unfolding reaches
  moved-within pr es w q = record {
    reach = λ m x r.
        inr (
          ⊎_elim
              (λ g. subst (λ (i : ℕ). T (reaches (process_at c i) x)) (sym g.0)
              (frames-reach own pr.frames w x g.1))
              (λ g. g.1)
              (reach-set c n pr m x r),
          inr (λ b. b),
        );
    still = still-set c n pr;
    fresh = λ x b. absurd b;
    only = λ x m. inl (only_set c n pr x m);
    grown = omega (arith, count_set c n pr);
    taker = λ x b. absurd b;
    holders = λ x. holder-append ls (map (line_of k n) es) x ∙ holder-quiet own x k n es (holder ls x) q;
    lines = lines-quiet own ls k n es (λ x r. h.named x n r) q;
  }

  -- making a qubit or a channel

  -- the next thing to be made covers nothing that was made
  next-apart : (t x : Thing) → Next c.qubits c.channels t → Made c x → T (covers t x) → ⊥
  unfolding covers
  next-apart (qubit a) (qubit b) e m r = lt_irrefl b (subst (λ (i : ℕ). b < i) (sym (sym (eqb→eq a b r) ∙ e)) m)
  next-apart (qubit a) (channel b) e m r = r
  next-apart (qubit a) (end b s) e m r = r
  next-apart (channel a) (qubit b) e m r = r
  next-apart (channel a) (channel b) e m r = lt_irrefl b (subst (λ (i : ℕ). b < i) (sym (sym (eqb→eq a b r) ∙ e)) m)
  next-apart (channel a) (end b s) e m r = lt_irrefl b (subst (λ (i : ℕ). b < i) (sym (sym (eqb→eq a b r) ∙ e)) m)
  next-apart (end a t) x e m r = e

  next-no-end : (t : Thing) → Next c.qubits c.channels t → (i : ℕ) (s : Bool) → t ≢ end i s
  next-no-end t e i s q = subst (Next c.qubits c.channels) q e

  -- counting it makes it and whatever it covers, and keeps what was made
  counted-still : (t : Thing) (pr : Process) (x : Thing) → Made c x → Made (counted t (set_process c n pr)) x
  unfolding counted set_process
  counted-still (qubit a) pr (qubit b) m = le_step m
  counted-still (qubit a) pr (channel b) m = m
  counted-still (qubit a) pr (end b s) m = m
  counted-still (channel a) pr (qubit b) m = m
  counted-still (channel a) pr (channel b) m = le_step m
  counted-still (channel a) pr (end b s) m = le_step m
  counted-still (end a t) pr (qubit b) m = m
  counted-still (end a t) pr (channel b) m = m
  counted-still (end a t) pr (end b s) m = m

  counted-fresh : (t : Thing) (pr : Process) (x : Thing) → Next c.qubits c.channels t → T (covers t x)
      → Made (counted t (set_process c n pr)) x
  unfolding counted set_process covers
  counted-fresh (qubit a) pr (qubit b) e r = subst (λ (i : ℕ). b < suc i) (sym (eqb→eq a b r) ∙ e) (le_refl (suc b))
  counted-fresh (qubit a) pr (channel b) e r = absurd r
  counted-fresh (qubit a) pr (end b s) e r = absurd r
  counted-fresh (channel a) pr (qubit b) e r = absurd r
  counted-fresh (channel a) pr (channel b) e r = subst (λ (i : ℕ). b < suc i) (sym (eqb→eq a b r) ∙ e) (le_refl (suc b))
  counted-fresh (channel a) pr (end b s) e r = subst (λ (i : ℕ). b < suc i) (sym (eqb→eq a b r) ∙ e) (le_refl (suc b))
  counted-fresh (end a t) pr x e r = absurd e

  -- a number below the next count is below the count, or is the count
  below_next : (a b q : ℕ) → a ≡ q → b < suc q → (b < q) ⊎ T (eqb a b)
  below_next a b q e m =
      ⊎_elim (λ i. inr (passes i)) (λ i. inl (omega (arith, e, m, eqb-false a b i))) (decide (eqb a b))

  counted-new : (t : Thing) (pr : Process) (x : Thing) → Next c.qubits c.channels t
      → Made (counted t (set_process c n pr)) x → Made c x ⊎ T (covers t x)
  unfolding counted set_process covers
  counted-new (qubit a) pr (qubit b) e m = below_next a b c.qubits e m
  counted-new (qubit a) pr (channel b) e m = inl m
  counted-new (qubit a) pr (end b s) e m = inl m
  counted-new (channel a) pr (qubit b) e m = inl m
  counted-new (channel a) pr (channel b) e m = below_next a b c.channels e m
  counted-new (channel a) pr (end b s) e m = below_next a b c.channels e m
  counted-new (end a t) pr x e m = absurd e

  count-counted : (t : Thing) (c' : Config) → length (counted t c').processes ≡ length c'.processes
  unfolding counted
  count-counted (qubit a) c' = refl
  count-counted (channel a) c' = refl
  count-counted (end a s) c' = refl

  counted-process : (t : Thing) (c' : Config) (m : ℕ) → process_at (counted t c') m ≡ process_at c' m
  unfolding counted process_at
  counted-process (qubit a) c' m = refl
  counted-process (channel a) c' m = refl
  counted-process (end a s) c' m = refl

  one-covered : (t x : Thing) → T (covered (t ∷ []) x) → T (covers t x)
  one-covered t x r = ⊎_elim (λ u. u) (λ u. absurd u) (or_cases (covers t x) false r)

  or-false : (b : Bool) → b ≡ (b || false)
  or-false true = refl
  or-false false = refl

  line-making : (t : Thing) → LineHeld ls (line_of k n (making t))
  unfolding making
  line-making (qubit a) =
      line-free ls (line_of k n (making (qubit a))) (omega arith) (omega arith) (omega arith) (omega arith)
  line-making (channel a) =
      line-free ls (line_of k n (making (channel a))) (omega arith) (omega arith) (omega arith) (omega arith)
  line-making (end a s) =
      line-free ls (line_of k n (making (end a s))) (omega arith) (omega arith) (omega arith) (omega arith)

  moved-making : n < length c.processes → (t : Thing) (fs : List Frame) → Next c.qubits c.channels t
      → FramesWithin (ref t ∷ own) fs
      → Transfer c (counted t (set_process c n (runs fs))) ls (line_of k n (making t) ∷ []) n (t ∷ [])
  unfolding reaches names
  moved-making made t fs e w = record {
    reach = λ m x r.
        ⊎_elim
        (λ g.
        ⊎_elim (λ u. inl (g.0, or_left (covers t x) false u))
        (λ u. inr (subst (λ (i : ℕ). T (reaches (process_at c i) x)) (sym g.0) u, inl g.0))
        (or_cases (covers t x) (any (names x) own) (frames-reach (ref t ∷ own) fs w x g.1)))
        (λ g. inr (g.1, inr (λ b. next-apart t x e (h.made x m g.1) (one-covered t x b))))
        (reach-set c n (runs fs) m x
        (subst (λ (pr : Process). T (reaches pr x)) (counted-process t (set_process c n (runs fs)) m) r));
    still = counted-still t (runs fs);
    fresh = λ x b. counted-fresh t (runs fs) x e (one-covered t x b);
    only = λ x m. ⊎_elim inl (λ u. inr (or_left (covers t x) false u)) (counted-new t (runs fs) x e m);
    grown = omega (arith, count-counted t (set_process c n (runs fs)), count_set c n (runs fs));
    taker = λ x b. omega (arith, made, count-counted t (set_process c n (runs fs)), count_set c n (runs fs));
    holders = λ x.
        holder-append ls (line_of k n (making t) ∷ []) x
        ∙ holder-making x (holder ls x) k n t (next-no-end t e)
        ∙ ap (λ (b : Bool). cond b (some n) (holder ls x)) (or-false (covers t x));
    lines = (line-making t, tt);
  }

  -- giving: what the giver keeps is not covered, and what others reach is not either

  -- process m of the configuration in which process n has given ts away and kept fs, m not being the new holder
  reach-giver : (ts : List Thing) (fs : List Frame) → All (λ t. Within own (ref t)) ts → FramesWithin own fs
      → (m : ℕ) (x : Thing) → T (reaches (process_at (set_process c n (runs (frames_without ts fs))) m) x)
      → T (reaches (process_at c m) x) × (T (covered ts x) → ⊥)
  unfolding reaches
  reach-giver ts fs ht hf m x r =
      ⊎_elim
      (λ g.
      let l = giver-left own ts fs hf x g.1 in
      (subst (λ (i : ℕ). T (reaches (process_at c i) x)) (sym g.0) l.0, l.1))
      (λ g. (g.1, others_keep c ls h.named n m ts ht g.0 x g.1))
      (reach-set c n (runs (frames_without ts fs)) m x r)

  -- what is given was held by the giver, and was made
  given-held : (ts : List Thing) → All (λ t. Within own (ref t)) ts → (x : Thing) → T (covered ts x)
      → T (reaches (process_at c n) x)
  unfolding names reaches
  given-held ts ht x b =
      any-elim (λ t. covers t x) (λ t. Within own (ref t)) (T (reaches (process_at c n) x)) (λ t w u. w x u) ts ht b

  given_made : (ts : List Thing) → All (λ t. Within own (ref t)) ts → (x : Thing) → T (covered ts x) → Made c x
  given_made ts ht x b = h.made x n (given-held ts ht x b)

  -- after the first line of the entry, which moves no holder, process n may give to another whatever is covered
  givable : Dated k ls → (q : ℕ) (ts : List Thing) → (n < length c.processes → n ≢ q)
      → All (λ t. Within own (ref t)) ts
      → (e : Event) → e.kind ≢ 1 → e.kind ≢ 2 → e.kind ≢ 6 → (x : Thing) → T (covered ts x)
      → Givable (ls ++ (line_of k n e ∷ [])) k n q x
  givable dated q ts two ht e i j l x b =
      let r = given-held ts ht x b in
      givable-first ls k n q (line_of k n e) x dated refl i j l (two (reach-made c n x r)) (h.named x n r)

  moved-forking : Dated k ls → (p : List ℕ) (m : ℕ) (args : List Value) (fs : List Frame) (params : ℕ)
      → All (Within own) args → FramesWithin own fs
      → Transfer c (joined (set_process c n (runs (frames_without (things_of args) fs))) (runs (started p m args ∷ []))) ls
      (map (line_of k n) (forked (length c.processes) m params ∷ map (gave (length c.processes)) (things_of args)))
      (length c.processes)
      (things_of args)
  unfolding reaches
  moved-forking dated p m args fs params ha hf = record {
    reach = λ i x r.
        ⊎_elim
        (λ g. inl (g.0 ∙ count_set c n (runs (frames_without ts fs)), child-reach p m args x g.1))
        (λ g. let l = reach-giver ts fs (things-within own args ha) hf i x g in inr (l.0, inr l.1))
        (reach-joined (set_process c n (runs (frames_without ts fs))) (runs (started p m args ∷ [])) i x r);
    still = still;
    fresh = λ x b. still x (given_made ts (things-within own args ha) x b);
    only = λ x made.
        inl
        (only_set c n (runs (frames_without ts fs)) x
        (only-joined (set_process c n (runs (frames_without ts fs))) (runs (started p m args ∷ [])) x made));
    grown = omega (arith, one_more);
    taker = λ x b. omega (arith, one_more);
    holders = λ x.
        holder-append ls (map (line_of k n) (forked child m params ∷ map (gave child) ts)) x
        ∙ ap (λ (g : Option ℕ). foldl (holder_after x) g (map (line_of k n) (map (gave child) ts)))
        (holder-kept x (holder ls x) (line_of k n (forked child m params)) (omega arith) (omega arith) (omega arith))
        ∙ holder-given x k n child ts (holder ls x);
    lines = (
      line-free ls (line_of k n (forked child m params)) (omega arith) (omega arith) (omega arith) (omega arith),
      lines-given (ls ++ (line_of k n (forked child m params) ∷ [])) k n child ts
          (givable dated child ts (λ l e. lt_irrefl n (subst (λ (i : ℕ). n < i) (sym e) l)) (things-within own args ha)
          (forked child m params) (omega arith) (omega arith) (omega arith)),
    );
  }
    where
      ts : List Thing
      ts = things_of args

      child : ℕ
      child = length c.processes

      one_more : length (joined (set_process c n (runs (frames_without ts fs))) (runs (started p m args ∷ []))).processes
          ≡ suc (length c.processes)
      one_more =
          count-joined (set_process c n (runs (frames_without ts fs))) (runs (started p m args ∷ []))
          ∙ ap suc (count_set c n (runs (frames_without ts fs)))

      still : (x : Thing) → Made c x
          → Made (joined (set_process c n (runs (frames_without ts fs))) (runs (started p m args ∷ []))) x
      still x e =
          still-joined (set_process c n (runs (frames_without ts fs))) (runs (started p m args ∷ [])) x
          (still-set c n (runs (frames_without ts fs)) x e)

  -- a meeting, process n being the sender

  line-met : (q ch : ℕ) (d : Bool) → n ≢ q → Holds ls n (end ch d) → Holds ls q (end ch (not d))
      → LineHeld ls (line_of k n (met q ch d))
  line-met q ch d ne hs hr = record {
    gate = λ e. absurd (omega arith);
    measurement = λ e. absurd (omega arith);
    meeting = λ e. held d hs hr;
    giving = λ e. absurd (omega arith);
  }
    where
      held : (d : Bool) → Holds ls n (end ch d) → Holds ls q (end ch (not d)) → MeetingHeld ls (line_of k n (met q ch d))
      held true hs hr = record { two = ne; sender = hs; receiver = hr }
      held false hs hr = record { two = ne; sender = hs; receiver = hr }

  moved-meeting : Dated k ls → (q ch : ℕ) (d : Bool) (v : Value) (fs gs : List Frame) → n ≢ q
      → OfferWithin own (sends ch d v fs) → OfferWithin (values_of (process_at c q).frames) (receives ch (not d) gs)
      → Transfer c (set_process (set_process c n (runs (frames_without (things_of (v ∷ [])) fs))) q (runs (push_top v gs)))
      ls
      (map (line_of k n) (met q ch d ∷ handing q v))
      q
      (things_of (v ∷ []))
  unfolding reaches
  moved-meeting dated q ch d v fs gs ne hs hr = record {
    reach = λ m x r.
        ⊎_elim
        (λ g.
        ⊎_elim (λ u. inl (g.0, u))
        (λ u. inr (subst (λ (i : ℕ). T (reaches (process_at c i) x)) (sym g.0) u, inl g.0))
        (receiver-reach (values_of (process_at c q).frames) v gs hr.1 x g.1))
        (λ g. let l = reach-giver ts fs (things-within own (v ∷ []) (hs.1, tt)) hs.2 m x g.1 in inr
        (l.0, inr l.1))
        (reach-set c₁ q (runs (push_top v gs)) m x r);
    still = still;
    fresh = λ x b. still x (given_made ts (things-within own (v ∷ []) (hs.1, tt)) x b);
    only = λ x m. inl (only_set c n (runs (frames_without ts fs)) x (only_set c₁ q (runs (push_top v gs)) x m));
    grown = omega (arith, same-many);
    taker = λ x b. omega (arith, same-many, reach-made c q (end ch (not d)) hr.0);
    holders = λ x.
        holder-append ls (map (line_of k n) (met q ch d ∷ handing q v)) x
        ∙ ap (λ (g : Option ℕ). foldl (holder_after x) g (map (line_of k n) (handing q v)))
        (holder-kept x (holder ls x) (line_of k n (met q ch d)) (omega arith) (omega arith) (omega arith))
        ∙ holder-handing x k n q v (holder ls x);
    lines = (
      line-met q ch d ne (h.named (end ch d) n hs.0) (h.named (end ch (not d)) q hr.0),
      lines-handing (ls ++ (line_of k n (met q ch d) ∷ [])) k n q v
          (givable dated q ts (λ l. ne) (things-within own (v ∷ []) (hs.1, tt)) (met q ch d) (omega arith)
          (omega arith) (omega arith)),
    );
  }
    where
      ts : List Thing
      ts = things_of (v ∷ [])

      c₁ : Config
      c₁ = set_process c n (runs (frames_without ts fs))

      same-many : length (set_process c₁ q (runs (push_top v gs))).processes ≡ length c.processes
      same-many = count_set c₁ q (runs (push_top v gs)) ∙ count_set c n (runs (frames_without ts fs))

      still : (x : Thing) → Made c x → Made (set_process c₁ q (runs (push_top v gs))) x
      still x e = still-set c₁ q (runs (push_top v gs)) x (still-set c n (runs (frames_without ts fs)) x e)

-- a meeting joins two offers, made by two processes on the two ends of one channel

record Joined (c : Config) (e : Meeting) : Type 0 where
  two : e.sender ≢ e.receiver
  sending :
      OfferWithin (values_of (process_at c e.sender).frames)
      (sends e.channel e.side e.value e.sender_frames)
  receiving :
      OfferWithin (values_of (process_at c e.receiver).frames)
      (receives e.channel (not e.side) e.receiver_frames)

pub cond-some : (b : Bool) (x e : Meeting) → cond b (some x) none ≡ some e → T b × (x ≡ e)
cond-some true x e h = (tt, some-injective x e h)
cond-some false x e h = absurd (none-ne-some e h)

-- the opposite side of an end that was tested to be the opposite one
pub opposite : (c c' : ℕ) (d d' : Bool) → T (eqb c c' && beq d (not d')) → end c (not d) ≡ end c' d'
opposite c c' d d' t =
    ap (λ (i : ℕ). end i (not d)) (eqb→eq c c' (and_left (eqb c c') (beq d (not d')) t))
    ∙ ap (λ (b : Bool). end c' b) (other-side d d' (and_right (eqb c c') (beq d (not d')) t))
  where
    other-side : (d d' : Bool) → T (beq d (not d')) → not d ≡ d'
    other-side true true t = absurd t
    other-side true false t = refl
    other-side false true t = refl
    other-side false false t = absurd t

joins-within : (c : Config) (n q : ℕ) (o r : Offer) (e : Meeting) → n ≢ q
    → OfferWithin (values_of (process_at c n).frames) o
    → OfferWithin (values_of (process_at c q).frames) r → joins n o q r ≡ some e → Joined c e
unfolding joins
joins-within c n q (sends a d v fs) (sends a' d' w gs) e ne ho hr h = absurd (none-ne-some e h)
joins-within c n q (sends a d v fs) (receives a' d' gs) e ne ho hr h =
    let f = cond-some (eqb a a' && beq d (not d')) _ e h in
    subst (Joined c) f.1
    (record {
      two = ne;
      sending = ho;
      receiving = (subst (InReach (values_of (process_at c q).frames)) (sym (opposite a a' d d' f.0)) hr.0, hr.1);
    })
joins-within c n q (receives a d fs) (sends a' d' w gs) e ne ho hr h =
    let f = cond-some (eqb a a' && beq d (not d')) _ e h in
    subst (Joined c) f.1
    (record {
      two = λ i. ne (sym i);
      sending = hr;
      receiving = (subst (InReach (values_of (process_at c n).frames)) (facing f.0) ho.0, ho.1);
    })
  where
    facing : T (eqb a a' && beq d (not d')) → end a d ≡ end a' (not d')
    facing t =
        ap (λ (i : ℕ). end i d) (eqb→eq a a' (and_left (eqb a a') (beq d (not d')) t))
        ∙ ap (λ (b : Bool). end a' b) (beq-eq d (not d') (and_right (eqb a a') (beq d (not d')) t))
joins-within c n q (receives a d fs) (receives a' d' gs) e ne ho hr h = absurd (none-ne-some e h)

-- the partner's act is an offer
pub meets-offer : (n q : ℕ) (o : Offer) (act : Act) (e : Meeting) → meets_with n o q (offered act) ≡ some e
    → (r : Offer) × (act ≡ offers r) × (joins n o q r ≡ some e)
unfolding meets_with offered
meets-offer n q o idle e h = absurd (none-ne-some e h)
meets-offer n q o stuck e h = absurd (none-ne-some e h)
meets-offer n q o (faults f) e h = absurd (none-ne-some e h)
meets-offer n q o (goes fs es u) e h = absurd (none-ne-some e h)
meets-offer n q o ends e h = absurd (none-ne-some e h)
meets-offer n q o (makes t fs) e h = absurd (none-ne-some e h)
meets-offer n q o (forks m args fs) e h = absurd (none-ne-some e h)
meets-offer n q o (offers r) e h = (r, refl, h)

meeting-joined : (p outcomes : List ℕ) (s : State) (n : ℕ) (o : Offer) (e : Meeting)
    → OfferWithin (values_of (process_at s.config n).frames) o → meeting_of p outcomes s n o ≡ some e
    → Joined s.config e
unfolding meeting_in
meeting-joined p outcomes s n o e ho h = found (first_some-found _ (length s.config.processes) e h)
  where
    partner : (q : ℕ) → q ≢ n → meets_with n o q (offered (act_of p outcomes s q)) ≡ some e → Joined s.config e
    partner q ne m =
        let w = meets-offer n q o (act_of p outcomes s q) e m in
        joins-within s.config n q o w.0 e (λ i. ne (sym i)) ho
        (subst (ActWithin (values_of (process_at s.config q).frames) s.config.qubits s.config.channels) w.1
        (act-within p outcomes s q))
        w.2

    tested : (q : ℕ) (b : Bool) → eqb q n ≡ b → cond b none (meets_with n o q (offered (act_of p outcomes s q))) ≡ some e
        → Joined s.config e
    tested q true i m = absurd (none-ne-some e m)
    tested q false i m = partner q (eqb-false q n i) m

    found :
        (q : ℕ) × (q < length s.config.processes) ×
        (cond (eqb q n) none (meets_with n o q (offered (act_of p outcomes s q))) ≡ some e) → Joined s.config e
    found w = tested w.0 (eqb w.0 n) refl w.2

-- every entry

-- some things moved to some process
abbrev SomeTransfer : State → Effect → Type 0
SomeTransfer s e = (q : ℕ) × (ts : List Thing) × Transfer s.config e.config s.lines e.lines q ts

quiet-stops : (ys : List Value) (f : ℕ) → Quiet ys (stops f)
quiet-stops ys f = record {
  not_made = (omega arith, omega arith);
  not_given = omega arith;
  not_met = omega arith;
  not_forked = omega arith;
  gate = λ e. absurd (omega arith);
  measurement = λ e. absurd (omega arith);
}

quiet-finishes : (ys : List Value) → Quiet ys finishes
quiet-finishes ys = record {
  not_made = (omega arith, omega arith);
  not_given = omega arith;
  not_met = omega arith;
  not_forked = omega arith;
  gate = λ e. absurd (omega arith);
  measurement = λ e. absurd (omega arith);
}

moved-met : (p outcomes : List ℕ) (k : ℕ) (s : State) (o : Option Meeting) → Dated k s.lines
    → Kept s.config s.lines
    → ((e : Meeting) → o ≡ some e → Joined s.config e) → SomeTransfer s (meet_if_in (table_machine p outcomes) k s o)
unfolding meet_if_in meet_in
moved-met p outcomes k s none dated h j = (0, [], transfer-nothing s.config s.lines)
moved-met p outcomes k s (some e) dated h j =
    let w = j e refl in (
      e.receiver,
      things_of (e.value ∷ []),
      moved-meeting s.config s.lines h k e.sender dated e.receiver e.channel e.side e.value
          e.sender_frames e.receiver_frames
          w.two w.sending w.receiving,
    )

makes≢idle : (t : Thing) (fs : List Frame) → ◌≢◌ {A = Act} (makes t fs) idle
makes≢idle t fs e = let z : ◌≡◌ {A = ℕ} 0 1 = cc in omega arith

applied-moved : (p outcomes : List ℕ) (k : ℕ) (s : State) (n : ℕ) → Dated k s.lines → Kept s.config s.lines
    → (act : Act)
    → (act ≢ idle → n < length s.config.processes)
    → ActWithin (values_of (process_at s.config n).frames) s.config.qubits s.config.channels act
    → SomeTransfer s (applied p outcomes k s n act)
unfolding applied_in forking_in
applied-moved p outcomes k s n dated h idle made w = (0, [], transfer-nothing s.config s.lines)
applied-moved p outcomes k s n dated h stuck made w = (0, [], transfer-nothing s.config s.lines)
applied-moved p outcomes k s n dated h (faults f) made w = (
  n,
  [],
  moved-within s.config s.lines h k n (record { status = stopped f; frames = (process_at s.config n).frames })
      (stops f ∷ [])
      (frames-own (process_at s.config n).frames (values_of (process_at s.config n).frames) (λ t u. u))
      (quiet-stops (values_of (process_at s.config n).frames) f, tt),
)
applied-moved p outcomes k s n dated h (goes fs es u) made w =
    (n, [], moved-within s.config s.lines h k n (runs fs) es w.0 w.1)
applied-moved p outcomes k s n dated h ends made w = (
  n,
  [],
  moved-within s.config s.lines h k n (record { status = finished; frames = [] }) (finishes ∷ []) tt
      (quiet-finishes (values_of (process_at s.config n).frames), tt),
)
applied-moved p outcomes k s n dated h (makes t fs) made w =
    (n, t ∷ [], moved-making s.config s.lines h k n (made (makes≢idle t fs)) t fs w.0 w.1)
applied-moved p outcomes k s n dated h (forks m args fs) made w = (
  length s.config.processes,
  things_of args,
  moved-forking s.config s.lines h k n dated p m args fs (length args) w.0 w.1,
)
applied-moved p outcomes k s n dated h (offers o) made w =
    moved-met p outcomes k s (meeting_of p outcomes s n o) dated h (λ e i. meeting-joined p outcomes s n o e w i)

-- whoever acts was made
acting-made : (p outcomes : List ℕ) (s : State) (n : ℕ) → judged s n (act_of p outcomes s n) ≢ idle
    → n < length s.config.processes
unfolding judged
acting-made p outcomes s n ne =
    ⊎_elim (ltb-true n (length s.config.processes))
    (λ l. absurd (ne (ap (judged s n) (unmade-idle p outcomes s n (ltb-false n (length s.config.processes) l)))))
    (decide (ltb n (length s.config.processes)))

pub entry_kept : (p outcomes : List ℕ) (k : ℕ) (s : State) (n : ℕ) → Dated k s.lines → Kept s.config s.lines
    → Kept (effect_of p outcomes k s n).config (s.lines ++ (effect_of p outcomes k s n).lines)
unfolding effect_in
entry_kept p outcomes k s n dated h =
    let w = applied-moved p outcomes k s n dated h (judged s n (act_of p outcomes s n)) (acting-made p outcomes s n)
    (judged-within p outcomes s n) in
    transfer-keeps s.config (effect_of p outcomes k s n).config s.lines (effect_of p outcomes k s n).lines w.0
    w.1 w.2 h

-- the run

pub start-kept : (p : List ℕ) → Kept (start_config p) []
unfolding start_config_with process_at reaches holder
start-kept p = record {
  named = λ x n r. absurd (nothing-reached x n r);
  made = λ x n r. absurd (nothing-reached x n r);
  held = λ x m. absurd (nothing-made x m);
  holding = λ x q e. absurd (none-ne-some q e);
  lawful = tt;
}
  where
    nothing-made : (x : Thing) → Made (start_config p) x → ⊥
    nothing-made (qubit q) m = omega (arith, m)
    nothing-made (channel q) m = omega (arith, m)
    nothing-made (end q d) m = omega (arith, m)

    nothing-reached : (x : Thing) (n : ℕ) → T (reaches (process_at (start_config p) n) x) → ⊥
    nothing-reached x zero r = frames-reach [] (started p 0 [] ∷ []) (frame-started [] p 0 [] tt, tt) x r
    nothing-reached x (suc n) r = frames-reach [] [] tt x r

pub kept-owned : (c : Config) (ls : List Line) → Kept c ls → Numbered c ls → Owned c ls
kept-owned c ls h u = record {
  alone = λ x m n r t. some-injective m n (sym (h.named x m r) ∙ h.named x n t);
  named = h.named;
  lawful = each_at LineHeld [] ls h.lawful;
  fresh = each_at LineNew [] ls u.new;
}

-- what holds before entry k
record Fine (k : ℕ) (s : State) : Type 0 where
  dated : Dated k s.lines
  kept : Kept s.config s.lines
  numbered : Numbered s.config s.lines

entry-fine : (p outcomes : List ℕ) (k : ℕ) (s : State) (n : ℕ) → Fine k s
    → Fine (suc k) (after_effect s (effect_of p outcomes k s n))
unfolding after_effect
entry-fine p outcomes k s n h = record {
  dated = dated-next k s.lines (effect_of p outcomes k s n).lines h.dated (effect-of p outcomes k s n);
  kept = entry_kept p outcomes k s n h.dated h.kept;
  numbered = entry-numbered p outcomes k s n h.numbered;
}

run-fine : (p outcomes : List ℕ) (room : ℕ) (schedule : List ℕ)
    → Fine (run p outcomes room schedule).entries (run p outcomes room schedule).state
unfolding run_in start_with
run-fine p outcomes room schedule =
    run-keeps p outcomes room Fine (entry-fine p outcomes) (start p) 0 schedule
    (record { dated = tt; kept = start-kept p; numbered = start-numbered p })

pub run-kept : (p outcomes : List ℕ) (room : ℕ) (schedule : List ℕ)
    → Kept (run p outcomes room schedule).state.config (run p outcomes room schedule).state.lines
run-kept p outcomes room schedule = (run-fine p outcomes room schedule).kept

-- Demand 3: for every table, outcome list, schedule, room and k, what stands after the run on the schedule's first k
-- entries is owned.
pub ownership : (p outcomes : List ℕ) (room : ℕ) (schedule : List ℕ) (k : ℕ)
    → Owned (run p outcomes room (take k schedule)).state.config (run p outcomes room (take k schedule)).state.lines
ownership p outcomes room schedule k =
    let h = run-fine p outcomes room (take k schedule) in
    kept-owned _ _ h.kept h.numbered
