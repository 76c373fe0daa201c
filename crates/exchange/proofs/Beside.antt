-- An own entry of process m that leaves m running, beside any entry of another process n that does not meet m: a step,
-- a gate, a making, a measurement, a fork, a meeting with a third process, a fault or an end. n's entry does the same
-- before m's and after it, m's too, and both orders leave alike states. For any machine.
use Prim.Native.Nat.{ℕ, suc, ◌+◌, ◌≤◌, ◌<◌}
use mathlib.Core.Path.{◌≡◌, refl, sym, ◌∙◌, ap, subst, subst₂}
use mathlib.Core.Logic.{◌≢◌, ◌⊎◌, inl, inr, ⊎_elim}
use mathlib.Core.Bool.{Bool, true, false, cond, not, ◌&&◌, ◌||◌, beq}
use mathlib.Core.List.{List, [], ◌∷◌, ◌++◌, map, foldl}
use mathlib.Core.Option.{Option, none, some, none-ne-some, some-injective}
use native.Mathlib.Omega.{arith}
use lib.ListN.{set, length, length-append, length-map, length-set, get_or-append}
use lib.Seq.{get_or-set_same, set_comm, set-append_left}
use lib.Dec.{eqb}
use borrow.Author.Tests.{eqb-true, eqb-false, leb-true, le-leb}
use Rattle.lists.proofs.Tests.{decide}
use Rattle.lists.proofs.Any.{first_some-found}
use Rattle.machine.specs.Value.{Thing, Value, qubit, channel, end}
use Rattle.machine.specs.State.{ProcessOf, ConfigOf, Line, StateOf, Event, process_at, is_over, set_process, unmade, line_of, stopped, finished, finishes, stops, forked, gave, met}
use Rattle.machine.specs.Act.{OfferOf, sends, receives, ActOf, idle, stuck, faults, goes, ends, makes, forks, offers}
use Rattle.machine.specs.Entry.{MachineOf, MeetingOf, EffectOf, joins, offered, meets_with, meeting_in, opposite_end, is_gone, gone, judged, judged_in, changes, runs, things_of, counted, making, joined, forking_in, handing, meet_in, meet_if_in, applied_in, effect_in, is_meeting, moves_in, able_in}
use Rattle.machine.specs.Run.{ResultOf, fits, after_effect, ended, run_from_in}
use Rattle.machine.specs.Owner.{holder, holder_after}
use Rattle.machine.proofs.Holder.{holder-append}
use Rattle.exchange.proofs.Alike.{Near, Alike, Alongside, run-alike}
use Rattle.exchange.proofs.Going.{able-running, able-made, goes_on, taken-fit}
use Rattle.exchange.proofs.Commute.{OwnMove, other-process, set_both, moved, moved_other, moved-acts, moved-count, moved-held, taken, taken-fits}

-- a line written at entry j
abbrev pub at_entry : ℕ → Line → Line
at_entry j l = record { entry = j; process = l.process; kind = l.kind; a = l.a; b = l.b; c = l.c }

relined : (j k n : ℕ) (es : List Event) → map (line_of j n) es ≡ map (at_entry j) (map (line_of k n) es)
relined j k n [] = refl
relined j k n (e ∷ es) = ap (λ (ls : List Line). line_of j n e ∷ ls) (relined j k n es)

-- the holder does not hang on the entries
held_at : (t : Thing) (j : ℕ) (ls : List Line) (h : Option ℕ)
    → foldl (holder_after t) h (map (at_entry j) ls) ≡ foldl (holder_after t) h ls
unfolding holder_after
held_at t j [] h = refl
held_at t j (l ∷ ls) h = held_at t j ls (holder_after t h l)

-- configurations in which process m becomes b as well

module _ {F : Type 0} (c : ConfigOf F) (m n : ℕ) (a b : ProcessOf F) (ne : m ≢ n) where
  counted-both : (t : Thing)
      → counted t (set_process (set_process c m b) n a) ≡ set_process (counted t (set_process c n a)) m b
  unfolding counted set_process
  counted-both (qubit q) =
      λ i. record { processes = set_comm c.processes m n b a ne i; qubits = suc c.qubits; channels = c.channels }
  counted-both (channel q) =
      λ i. record { processes = set_comm c.processes m n b a ne i; qubits = c.qubits; channels = suc c.channels }
  counted-both (end q d) =
      λ i. record { processes = set_comm c.processes m n b a ne i; qubits = c.qubits; channels = c.channels }

  joined-both : m < length c.processes → (child : ProcessOf F)
      → joined (set_process (set_process c m b) n a) child ≡ set_process (joined (set_process c n a) child) m b
  unfolding joined set_process
  joined-both made child = λ i. record { processes = both i; qubits = c.qubits; channels = c.channels }
    where
      both : set (set c.processes m b) n a ++ (child ∷ []) ≡ set (set c.processes n a ++ (child ∷ [])) m b
      both =
          ap (λ (prs : List (ProcessOf F)). prs ++ (child ∷ [])) (set_comm c.processes m n b a ne)
          ∙ sym (set-append_left (set c.processes n a) (child ∷ []) m b
          (omega (arith, made, length-set c.processes n a)))

-- a meeting is between the process that is named and another
joins-who : {F : Type 0} (n q : ℕ) (o r : OfferOf F) (e : MeetingOf F) → joins n o q r ≡ some e
    → ((e.sender ≡ n) × (e.receiver ≡ q)) ⊎ ((e.sender ≡ q) × (e.receiver ≡ n))
unfolding joins
joins-who {F} n q o r e h = go o r h
  where
    test : (b : Bool) (x : MeetingOf F) → cond b (some x) none ≡ some e → x ≡ e
    test true x h = some-injective x e h
    test false x h = absurd (none-ne-some e h)

    go : (o r : OfferOf F) → joins n o q r ≡ some e
        → ((e.sender ≡ n) × (e.receiver ≡ q)) ⊎ ((e.sender ≡ q) × (e.receiver ≡ n))
    go (sends c d v fs) (sends c' d' w gs) h = absurd (none-ne-some e h)
    go (sends c d v fs) (receives c' d' gs) h =
        let i = test (eqb c c' && beq d (not d')) _ h in
        inl (sym (ap (λ (x : MeetingOf F). x.sender) i), sym (ap (λ (x : MeetingOf F). x.receiver) i))
    go (receives c d fs) (sends c' d' w gs) h =
        let i = test (eqb c c' && beq d (not d')) _ h in
        inr (sym (ap (λ (x : MeetingOf F). x.sender) i), sym (ap (λ (x : MeetingOf F). x.receiver) i))
    go (receives c d fs) (receives c' d' gs) h = absurd (none-ne-some e h)

-- m's own move and what is asked of the two
pub record Beside {F : Type 0} (M : MachineOf F) (k : ℕ) (s : StateOf F) (m n : ℕ) : Type 0 where
  pub apart : m ≢ n
  pub move : OwnMove M m (process_at s.config m)
  pub stays : is_over move.becomes ≡ false
  -- if n meets anyone, then the same after m's move
  pub meets : (o : OfferOf F) → M.act s n ≡ offers o → gone s n o ≡ false
      → meeting_in M (moved M k s move) n o ≡ meeting_in M s n o

module _ {F : Type 0} (M : MachineOf F) (near : Near M) (k : ℕ) (s : StateOf F) (m n : ℕ) (x : Beside M k s m n) where
  abbrev b : ProcessOf F
  b = x.move.becomes

  -- the state after m's entry
  abbrev after-m : StateOf F
  after-m = moved M k s x.move

  made : m < length s.config.processes
  made = able-made M near s m (x.move.able s refl)

  -- m has not finished or stopped, before and after
  over-same : (q : ℕ) → is_over (process_at after-m.config q) ≡ is_over (process_at s.config q)
  unfolding after_effect process_at set_process
  over-same q =
      ⊎_elim (λ t. here (eqb-true q m t)) (λ f. ap is_over (moved_other M k s x.move q (eqb-false q m f)))
      (decide (eqb q m))
    where
      here : q ≡ m → is_over (process_at after-m.config q) ≡ is_over (process_at s.config q)
      here e =
          ap (λ (i : ℕ). is_over (process_at after-m.config i)) e
          ∙ ap is_over (get_or-set_same s.config.processes m b unmade made)
          ∙ x.stays
          ∙ sym (able-running M near s m (x.move.able s refl))
          ∙ sym (ap (λ (i : ℕ). is_over (process_at s.config i)) e)

  gone_same : (o : OfferOf F) → gone after-m n o ≡ gone s n o
  unfolding gone is_gone
  gone_same o =
      ap (is_gone after-m.config n) (moved-held M k s x.move (opposite_end o))
      ∙ by (holder s.lines (opposite_end o))
    where
      by : (h : Option ℕ) → is_gone after-m.config n h ≡ is_gone s.config n h
      by none = refl
      by (some h) = ap (λ (t : Bool). eqb h n || t) (over-same h)

  judged-same : judged_in M after-m n ≡ judged_in M s n
  unfolding judged
  judged-same = ap (judged after-m n) (moved-acts M near k s x.move n (λ e. x.apart (sym e))) ∙ by (M.act s n)
    where
      by : (act : ActOf F) → judged after-m n act ≡ judged s n act
      by idle = refl
      by stuck = refl
      by (faults f) = refl
      by (goes fs es u) = refl
      by ends = refl
      by (makes t fs) = refl
      by (forks c args fs) = refl
      by (offers o) = ap (λ (t : Bool). cond t (faults 33) (offers o)) (gone_same o)

  -- an effect of n at entry k, as it is at the next entry, after m's
  abbrev shifted : EffectOf F → EffectOf F
  shifted e = record { config = set_process e.config m b; used = e.used; lines = map (at_entry (suc k)) e.lines }

  changes-same : (pr : ProcessOf F) (es : List Event) (u : ℕ)
      → changes (suc k) after-m n pr es u ≡ shifted (changes k s n pr es u)
  unfolding after_effect
  changes-same pr es u =
      λ i. record { config = set_both s.config m n b pr x.apart i; used = u; lines = relined (suc k) k n es i }

  fault-same : (f : ℕ) → applied_in M (suc k) after-m n (faults f) ≡ shifted (applied_in M k s n (faults f))
  unfolding applied_in
  fault-same f =
      ap (λ (pr : ProcessOf F). changes (suc k) after-m n (record { status = stopped f; frames = pr.frames })
      (stops f ∷ []) 0)
      (moved_other M k s x.move n (λ e. x.apart (sym e)))
      ∙ changes-same (record { status = stopped f; frames = (process_at s.config n).frames }) (stops f ∷ []) 0

  fork-same : (c : ℕ) (args : List Value) (fs : List F)
      → forking_in M (suc k) after-m n c args fs ≡ shifted (forking_in M k s n c args fs)
  unfolding forking_in after_effect set_process
  fork-same c args fs = λ i. record {
    config =
        joined-both s.config m n (runs (M.loses (things_of args) fs)) b x.apart made
        (runs (M.starts c args ∷ [])) i;
    used = 0;
    lines = lines_same i;
  }
    where
      abbrev-events : ℕ → List Event
      abbrev-events size = forked size c (length args) ∷ map (gave size) (things_of args)

      lines_same : map (line_of (suc k) n) (abbrev-events (length (set s.config.processes m b)))
          ≡ map (at_entry (suc k)) (map (line_of k n) (abbrev-events (length s.config.processes)))
      lines_same =
          ap (λ (size : ℕ). map (line_of (suc k) n) (abbrev-events size)) (length-set s.config.processes m b)
          ∙ relined (suc k) k n (abbrev-events (length s.config.processes))

  -- whoever meets n at s is not m
  partner-other : (o : OfferOf F) (e : MeetingOf F) → meeting_in M s n o ≡ some e → (m ≢ e.sender) × (m ≢ e.receiver)
  unfolding meeting_in meets_with
  partner-other o e h =
      found (first_some-found (λ q. cond (eqb q n) none (meets_with n o q (offered (M.act s q))))
      (length s.config.processes) e h)
    where
      found : (q : ℕ) × (q < length s.config.processes)
          × (cond (eqb q n) none (meets_with n o q (offered (M.act s q))) ≡ some e)
          → (m ≢ e.sender) × (m ≢ e.receiver)
      found (q, l, h) = tested (eqb q n) h
        where
          who : (r : Option (OfferOf F)) → offered (M.act s q) ≡ r → meets_with n o q r ≡ some e
              → (m ≢ e.sender) × (m ≢ e.receiver)
          who none w h = absurd (none-ne-some e h)
          who (some r) w h =
              ⊎_elim (λ i. (λ d. x.apart (d ∙ i.0), λ d. other (d ∙ i.1)))
              (λ i. (λ d. other (d ∙ i.0), λ d. x.apart (d ∙ i.1))) (joins-who n q o r e h)
            where
              other : m ≡ q → ⊥
              other d =
                  none-ne-some r (sym (x.move.no-offer s refl) ∙ ap (λ (i : ℕ). offered (M.act s i)) d ∙ w)

          tested : (t : Bool) → cond t none (meets_with n o q (offered (M.act s q))) ≡ some e
              → (m ≢ e.sender) × (m ≢ e.receiver)
          tested true h = absurd (none-ne-some e h)
          tested false h = who (offered (M.act s q)) refl h

  meeting-same : (o : OfferOf F) (w : Option (MeetingOf F)) → meeting_in M s n o ≡ w
      → meet_if_in M (suc k) after-m w ≡ shifted (meet_if_in M k s w)
  unfolding meet_if_in meet_in after_effect
  meeting-same o none h = refl
  meeting-same o (some e) h = λ i. record {
    config = config i;
    used = 0;
    lines =
        relined (suc k) k e.sender (met e.receiver e.channel e.side ∷ handing e.receiver e.value) i;
  }
    where
      from : ProcessOf F
      from = runs (M.loses (things_of (e.value ∷ [])) e.sender_frames)

      to : ProcessOf F
      to = runs (M.gets e.value e.receiver_frames)

      config : set_process (set_process (set_process s.config m b) e.sender from) e.receiver to
          ≡ set_process (set_process (set_process s.config e.sender from) e.receiver to) m b
      config =
          ap (λ (c : ConfigOf F). set_process c e.receiver to)
          (set_both s.config m e.sender b from (partner-other o e h).0)
          ∙ set_both (set_process s.config e.sender from) m e.receiver b to (partner-other o e h).1

  applied-same : (act : ActOf F) → M.act s n ≡ act
      → applied_in M (suc k) after-m n (judged s n act) ≡ shifted (applied_in M k s n (judged s n act))
  unfolding judged applied_in after_effect
  applied-same idle e = refl
  applied-same stuck e = refl
  applied-same (faults f) e = fault-same f
  applied-same (goes fs es u) e = changes-same (runs fs) es u
  applied-same ends e = changes-same (record { status = finished; frames = [] }) (finishes ∷ []) 0
  applied-same (makes t fs) e = λ i. record {
    config = counted-both s.config m n (runs fs) b x.apart t i;
    used = 0;
    lines = line_of (suc k) n (making t) ∷ [];
  }
  applied-same (forks c args fs) e = fork-same c args fs
  applied-same (offers o) e = by (gone s n o) refl
    where
      by : (t : Bool) → gone s n o ≡ t
          → applied_in M (suc k) after-m n (cond t (faults 33) (offers o)) ≡ shifted
          (applied_in M k s n (cond t (faults 33) (offers o)))
      by true g = fault-same 33
      by false g = ap (meet_if_in M (suc k) after-m) (x.meets o e g) ∙ meeting-same o (meeting_in M s n o) refl

  -- n's entry after m's does what it does before it
  pub effect-beside : effect_in M (suc k) after-m n ≡ shifted (effect_in M k s n)
  unfolding effect_in
  effect-beside = ap (applied_in M (suc k) after-m n) judged-same ∙ applied-same (M.act s n) refl

  -- m stands after n's entry as it stood before

  counted-kept : (t : Thing) (c : ConfigOf F) → process_at (counted t c) m ≡ process_at c m
  unfolding counted process_at
  counted-kept (qubit q) c = refl
  counted-kept (channel q) c = refl
  counted-kept (end q d) c = refl

  set-kept : (q : ℕ) (c : ConfigOf F) (pr : ProcessOf F) → m ≢ q → process_at (set_process c q pr) m ≡ process_at c m
  set-kept q c pr d = other-process c q m pr d

  joined-kept : (pr child : ProcessOf F)
      → process_at (joined (set_process s.config n pr) child) m ≡ process_at s.config m
  unfolding joined process_at set_process
  joined-kept pr child =
      get_or-append (set s.config.processes n pr) (child ∷ []) unmade m
      (omega (arith, made, length-set s.config.processes n pr))
      ∙ set-kept n s.config pr x.apart

  pub stands-beside : process_at (effect_in M k s n).config m ≡ process_at s.config m
  unfolding effect_in applied_in forking_in meet_if_in meet_in
  stands-beside = by (judged_in M s n)
    where
      at-meeting : (o : OfferOf F) (w : Option (MeetingOf F)) → meeting_in M s n o ≡ w
          → process_at (meet_if_in M k s w).config m ≡ process_at s.config m
      at-meeting o none h = refl
      at-meeting o (some e) h =
          set-kept e.receiver _ _ (partner-other o e h).1 ∙ set-kept e.sender s.config _
          (partner-other o e h).0

      by : (act : ActOf F) → process_at (applied_in M k s n act).config m ≡ process_at s.config m
      by idle = refl
      by stuck = refl
      by (faults f) = set-kept n s.config _ x.apart
      by (goes fs es u) = set-kept n s.config _ x.apart
      by ends = set-kept n s.config _ x.apart
      by (makes t fs) = counted-kept t _ ∙ set-kept n s.config _ x.apart
      by (forks c args fs) = joined-kept _ _
      by (offers o) = at-meeting o (meeting_in M s n o) refl

  -- n moves in either place, or in none
  pub able-beside : able_in M after-m n ≡ able_in M s n
  unfolding able_in judged moves_in
  able-beside = ap (moves_in M after-m n) judged-same ∙ by (M.act s n) refl
    where
      -- an offer that is judged
      offer : (o : OfferOf F) → M.act s n ≡ offers o → (t : Bool) → gone s n o ≡ t
          → moves_in M after-m n (cond t (faults 33) (offers o)) ≡ moves_in M s n (cond t (faults 33) (offers o))
      offer o e true g = refl
      offer o e false g = ap is_meeting (x.meets o e g)

      by : (act : ActOf F) → M.act s n ≡ act → moves_in M after-m n (judged s n act) ≡ moves_in M s n (judged s n act)
      by idle e = refl
      by stuck e = refl
      by (faults f) e = refl
      by (goes fs es u) e = refl
      by ends e = refl
      by (makes t fs) e = refl
      by (forks c args fs) e = refl
      by (offers o) e = offer o e (gone s n o) refl

  -- both orders leave alike states
  pub beside-alike : Alike (after_effect after-m (effect_in M (suc k) after-m n)) (moved M (suc k)
      (after_effect s (effect_in M k s n)) x.move)
  unfolding after_effect
  beside-alike =
      subst (λ (e : EffectOf F). Alike (after_effect after-m e)
      (moved M (suc k) (after_effect s (effect_in M k s n)) x.move)) (sym effect-beside)
      (record {
        config = refl;
        used = used-both (effect_in M k s n).used;
        count = count-both (effect_in M k s n);
        held = λ t. held_both t (effect_in M k s n);
      })
    where
      used-both : (u : ℕ) → s.used + 0 + u ≡ s.used + u + 0
      used-both u = omega arith

      count-both : (e : EffectOf F)
          → length (after_effect after-m (shifted e)).lines ≡ length
          (moved M (suc k) (after_effect s e) x.move).lines
      count-both e =
          omega (
            arith,
            length-append after-m.lines (map (at_entry (suc k)) e.lines),
            length-map e.lines (at_entry (suc k)),
            moved-count M k s x.move,
            moved-count M (suc k) (after_effect s e) x.move,
            length-append s.lines e.lines,
          )

      held_both : (t : Thing) (e : EffectOf F)
          → holder (after_effect after-m (shifted e)).lines t ≡ holder
          (moved M (suc k) (after_effect s e) x.move).lines t
      held_both t e =
          holder-append after-m.lines (map (at_entry (suc k)) e.lines) t
          ∙ ap (λ (h : Option ℕ). foldl (holder_after t) h (map (at_entry (suc k)) e.lines))
          (moved-held M k s x.move t)
          ∙ held_at t (suc k) e.lines (holder s.lines t)
          ∙ sym (moved-held M (suc k) (after_effect s e) x.move t ∙ holder-append s.lines e.lines t)

  -- the runs on both orders, where n moves and both are taken

  module _ (room : ℕ) (moves : able_in M s n ≡ true) (both : k + 1 < (run_from_in M room s k (m ∷ n ∷ [])).entries) where
    fit-m : length s.lines + length x.move.events ≤ room
    fit-m = taken-fits M near room s k (n ∷ []) x.move refl (omega (arith, both))

    fit_n : fits room after-m (effect_in M (suc k) after-m n) ≡ true
    fit_n =
        taken-fit M near room after-m (suc k) n [] (able-beside ∙ moves)
        (omega (arith, both, ap (λ (r : ResultOf F). r.entries) (taken M near room s k (n ∷ []) x.move refl fit-m)))

    total : length s.lines + (length x.move.events + length (effect_in M k s n).lines) ≤ room
    unfolding fits
    total =
        omega (
          arith,
          leb-true (length after-m.lines + length (effect_in M (suc k) after-m n).lines) room fit_n,
          ap (λ (e : EffectOf F). length e.lines) effect-beside,
          length-map (effect_in M k s n).lines (at_entry (suc k)),
          moved-count M k s x.move,
        )

    m-first : (ys : List ℕ)
        → run_from_in M room s k (m ∷ n ∷ ys) ≡ run_from_in M room (after_effect after-m (effect_in M (suc k) after-m n))
        (suc (suc k)) ys
    m-first ys =
        taken M near room s k (n ∷ ys) x.move refl fit-m
        ∙ goes_on M near room after-m (suc k) n ys (able-beside ∙ moves)
        ∙ ap (λ (t : Bool). cond t
        (run_from_in M room (after_effect after-m (effect_in M (suc k) after-m n)) (suc (suc k)) ys)
        (ended 3 (suc k) after-m)) fit_n

    n-first : (ys : List ℕ)
        → run_from_in M room s k (n ∷ m ∷ ys) ≡ run_from_in M room
        (moved M (suc k) (after_effect s (effect_in M k s n)) x.move) (suc (suc k)) ys
    unfolding fits after_effect
    n-first ys =
        goes_on M near room s k n (m ∷ ys) moves
        ∙ ap (λ (t : Bool). cond t (run_from_in M room (after_effect s (effect_in M k s n)) (suc k) (m ∷ ys)) (ended 3 k s))
        (le-leb (length s.lines + length (effect_in M k s n).lines) room (omega (arith, total)))
        ∙ taken M near room (after_effect s (effect_in M k s n)) (suc k) ys x.move stands-beside
        (omega (arith, total, length-append s.lines (effect_in M k s n).lines))

    pub beside-runs : (ys : List ℕ) → (r r' : ResultOf F) → r ≡ run_from_in M room s k (m ∷ n ∷ ys)
        → r' ≡ run_from_in M room s k (n ∷ m ∷ ys)
        → Alongside (after_effect after-m (effect_in M (suc k) after-m n))
        (moved M (suc k) (after_effect s (effect_in M k s n)) x.move) r r'
    beside-runs ys r r' e e' =
        subst₂ (Alongside (after_effect after-m (effect_in M (suc k) after-m n))
        (moved M (suc k) (after_effect s (effect_in M k s n)) x.move))
        (sym (e ∙ m-first ys)) (sym (e' ∙ n-first ys))
        (run-alike M near room ys (after_effect after-m (effect_in M (suc k) after-m n))
        (moved M (suc k) (after_effect s (effect_in M k s n)) x.move) (suc (suc k)) beside-alike)
