-- States that differ in their lines alone, and by whose lines the same process holds each thing: every entry does the
-- same in both, so a run goes on from them in the same way, with the same lines. For any machine in which a process
-- acts by its own state, the counts and the outcomes used.
use Prim.Native.Nat.{ℕ, suc, ◌+◌}
use mathlib.Core.Path.{◌≡◌, refl, sym, ◌∙◌, ap, subst}
use mathlib.Core.Bool.{Bool, true, false, cond, not}
use mathlib.Core.List.{List, [], ◌∷◌, ◌++◌, foldl, append_assoc, append-nil}
use mathlib.Core.Option.{Option, none, some}
use lib.ListN.{length, length-append}
use lib.Dec.{eqb, leb}
use Rattle.lists.specs.Lists.{any, every, below, first_some}
use Rattle.machine.specs.Value.{Thing}
use Rattle.machine.specs.State.{ConfigOf, Line, StateOf, process_at, is_over}
use Rattle.machine.specs.Act.{OfferOf, ActOf, idle, stuck, faults, goes, ends, makes, forks, offers}
use Rattle.machine.specs.Entry.{MachineOf, MeetingOf, EffectOf, offered, meets_with, meeting_in, opposite_end, is_gone, gone, judged, judged_in, meet_in, meet_if_in, is_meeting, applied_in, effect_in, moves_in, able_in, forking_in}
use Rattle.machine.specs.Run.{ResultOf, all_over, none_able_in, fits, after_effect, ended, run_from_in}
use Rattle.machine.specs.Owner.{holder, holder_after}
use Rattle.machine.proofs.Holder.{holder-append}

-- What the laws of this crate ask of a machine.
pub record Near {F : Type 0} (M : MachineOf F) : Type 0 where
  -- a process acts by its own state, the counts of what is made, and the outcomes used
  pub acts : (s s' : StateOf F) (n : ℕ) → process_at s.config n ≡ process_at s'.config n
      → s.config.qubits ≡ s'.config.qubits → s.config.channels ≡ s'.config.channels
      → length s.config.processes ≡ length s'.config.processes → s.used ≡ s'.used
      → M.act s n ≡ M.act s' n
  -- one that has finished or stopped does nothing
  pub over : (s : StateOf F) (n : ℕ) → is_over (process_at s.config n) ≡ true → M.act s n ≡ idle

pub record Alike {F : Type 0} (s s' : StateOf F) : Type 0 where
  pub config : s.config ≡ s'.config
  pub used : s.used ≡ s'.used
  pub count : length s.lines ≡ length s'.lines
  pub held : (t : Thing) → holder s.lines t ≡ holder s'.lines t

module _ {F : Type 0} where
  pub alike-sym : {s s' : StateOf F} → Alike s s' → Alike s' s
  alike-sym a =
      record { config = sym a.config; used = sym a.used; count = sym a.count; held = λ t. sym (a.held t) }

  -- the same effect leaves them alike
  pub alike-after : {s s' : StateOf F} (e : EffectOf F) → Alike s s' → Alike (after_effect s e) (after_effect s' e)
  unfolding after_effect
  alike-after {s} {s'} e a = record {
    config = refl;
    used = ap (λ (u : ℕ). u + e.used) a.used;
    count =
        length-append s.lines e.lines
        ∙ ap (λ (n : ℕ). n + length e.lines) a.count
        ∙ sym (length-append s'.lines e.lines);
    held = λ t.
        holder-append s.lines e.lines t
        ∙ ap (λ (h : Option ℕ). foldl (holder_after t) h e.lines) (a.held t)
        ∙ sym (holder-append s'.lines e.lines t);
  }

-- a state with other lines

abbrev with-lines : {F : Type 0} → StateOf F → List Line → StateOf F
with-lines s ls = record { config = s.config; used = s.used; lines = ls }

module _ {F : Type 0} (M : MachineOf F) (near : Near M) (s : StateOf F) (ls : List Line)
    (held : (t : Thing) → holder s.lines t ≡ holder ls t) where
  act-lines : (n : ℕ) → M.act s n ≡ M.act (with-lines s ls) n
  act-lines n = near.acts s (with-lines s ls) n refl refl refl refl refl

  meeting-lines : (n : ℕ) (o : OfferOf F) → meeting_in M s n o ≡ meeting_in M (with-lines s ls) n o
  unfolding meeting_in
  meeting-lines n o =
      λ i. first_some (λ q. cond (eqb q n) none (meets_with n o q (offered (act-lines q i))))
      (length s.config.processes)

  judged-lines : (n : ℕ) → judged_in M s n ≡ judged_in M (with-lines s ls) n
  unfolding judged gone
  judged-lines n = go (M.act s n) ∙ ap (judged (with-lines s ls) n) (act-lines n)
    where
      go : (act : ActOf F) → judged s n act ≡ judged (with-lines s ls) n act
      go idle = refl
      go stuck = refl
      go (faults f) = refl
      go (goes fs es u) = refl
      go ends = refl
      go (makes t fs) = refl
      go (forks m args fs) = refl
      go (offers o) = ap (λ (h : Option ℕ). cond (is_gone s.config n h) (faults 33) (offers o)) (held (opposite_end o))

  effect-lines : (k n : ℕ) → effect_in M k s n ≡ effect_in M k (with-lines s ls) n
  unfolding effect_in meet_if_in meet_in applied_in forking_in
  effect-lines k n = go (judged_in M s n) ∙ ap (applied_in M k (with-lines s ls) n) (judged-lines n)
    where
      met : (o : Option (MeetingOf F)) → meet_if_in M k s o ≡ meet_if_in M k (with-lines s ls) o
      met none = refl
      met (some e) = refl

      go : (act : ActOf F) → applied_in M k s n act ≡ applied_in M k (with-lines s ls) n act
      go idle = refl
      go stuck = refl
      go (faults f) = refl
      go (goes fs es u) = refl
      go ends = refl
      go (makes t fs) = refl
      go (forks m args fs) = refl
      go (offers o) = met (meeting_in M s n o) ∙ ap (meet_if_in M k (with-lines s ls)) (meeting-lines n o)

  able-lines : (n : ℕ) → able_in M s n ≡ able_in M (with-lines s ls) n
  unfolding able_in moves_in
  able-lines n = go (judged_in M s n) ∙ ap (moves_in M (with-lines s ls) n) (judged-lines n)
    where
      go : (act : ActOf F) → moves_in M s n act ≡ moves_in M (with-lines s ls) n act
      go idle = refl
      go stuck = refl
      go (faults f) = refl
      go (goes fs es u) = refl
      go ends = refl
      go (makes t fs) = refl
      go (forks m args fs) = refl
      go (offers o) = ap is_meeting (meeting-lines n o)

module _ {F : Type 0} (M : MachineOf F) (near : Near M) (s s' : StateOf F) (a : Alike s s') where
  -- from s with the lines of s' to s'
  across : with-lines s s'.lines ≡ s'
  across = λ i. record { config = a.config i; used = a.used i; lines = s'.lines }

  pub alike-effect : (k n : ℕ) → effect_in M k s n ≡ effect_in M k s' n
  alike-effect k n = effect-lines M near s s'.lines a.held k n ∙ ap (λ (x : StateOf F). effect_in M k x n) across

  pub alike-able : (n : ℕ) → able_in M s n ≡ able_in M s' n
  alike-able n = able-lines M near s s'.lines a.held n ∙ ap (λ (x : StateOf F). able_in M x n) across

  pub alike-over : all_over s ≡ all_over s'
  unfolding all_over
  alike-over = ap (λ (c : ConfigOf F). every is_over c.processes) a.config

  pub alike-none : none_able_in M s ≡ none_able_in M s'
  unfolding none_able_in
  alike-none = λ i. not (any (λ n. alike-able n i) (below (length (a.config i).processes)))

  pub alike-fits : (room : ℕ) (e : EffectOf F) → fits room s e ≡ fits room s' e
  unfolding fits
  alike-fits room e = ap (λ (n : ℕ). leb (n + length e.lines) room) a.count

-- Two runs from alike states: the same end and as many entries, states that are alike again, the same lines added.
pub record Alongside {F : Type 0} (s s' : StateOf F) (r r' : ResultOf F) : Type 0 where
  pub end : r.end ≡ r'.end
  pub entries : r.entries ≡ r'.entries
  pub alike : Alike r.state r'.state
  pub added : List Line
  pub lines : r.state.lines ≡ s.lines ++ added
  pub lines' : r'.state.lines ≡ s'.lines ++ added

both_cond : {R : Type 0} (P : R → R → Type 0) (b b' : Bool) → b ≡ b' → {x x' y y' : R} → P x x' → P y y'
    → P (cond b x y) (cond b' x' y')
both_cond P b b' e {x} {x'} {y} {y'} h g = subst (λ (c : Bool). P (cond b x y) (cond c x' y')) e (go b)
  where
    go : (c : Bool) → P (cond c x y) (cond c x' y')
    go true = h
    go false = g

module _ {F : Type 0} where
  ended-alongside : {s s' : StateOf F} → Alike s s' → (e k : ℕ) → Alongside s s' (ended e k s) (ended e k s')
  ended-alongside {s} {s'} a e k = record {
    end = refl;
    entries = refl;
    alike = a;
    added = [];
    lines = sym (append-nil s.lines);
    lines' = sym (append-nil s'.lines);
  }

  -- after an entry of the same effect
  later : {s s' : StateOf F} {r r' : ResultOf F} (e : EffectOf F) → Alongside (after_effect s e) (after_effect s' e) r r'
      → Alongside s s' r r'
  unfolding after_effect
  later {s} {s'} e h = record {
    end = h.end;
    entries = h.entries;
    alike = h.alike;
    added = e.lines ++ h.added;
    lines = h.lines ∙ append_assoc s.lines e.lines h.added;
    lines' = h.lines' ∙ append_assoc s'.lines e.lines h.added;
  }

  pub run-alike : (M : MachineOf F) → Near M → (room : ℕ) (schedule : List ℕ) (s s' : StateOf F) (k : ℕ) → Alike s s'
      → Alongside s s' (run_from_in M room s k schedule) (run_from_in M room s' k schedule)
  unfolding run_from_in
  run-alike M near room [] s s' k a =
      both_cond (Alongside s s') (all_over s) (all_over s') (alike-over M near s s' a) (ended-alongside a 1 k)
      (both_cond (Alongside s s') (none_able_in M s) (none_able_in M s') (alike-none M near s s' a) (ended-alongside a 2 k)
      (ended-alongside a 0 k))
  run-alike M near room (n ∷ schedule) s s' k a =
      both_cond (Alongside s s') (all_over s) (all_over s') (alike-over M near s s' a) (ended-alongside a 1 k)
      (both_cond (Alongside s s') (none_able_in M s) (none_able_in M s') (alike-none M near s s' a) (ended-alongside a 2 k)
      (both_cond (Alongside s s') (fits room s (effect_in M k s n)) (fits room s' (effect_in M k s' n))
      (alike-fits M near s s' a room (effect_in M k s n) ∙ ap (fits room s') (alike-effect M near s s' a k n))
      (later (effect_in M k s n)
      (subst
      (λ (e : EffectOf F). Alongside (after_effect s (effect_in M k s n)) (after_effect s' (effect_in M k s n))
      (run_from_in M room (after_effect s (effect_in M k s n)) (suc k) schedule)
      (run_from_in M room (after_effect s' e) (suc k) schedule))
      (alike-effect M near s s' a k n)
      (run-alike M near room schedule (after_effect s (effect_in M k s n)) (after_effect s' (effect_in M k s n)) (suc k)
      (alike-after (effect_in M k s n) a))))
      (ended-alongside a 3 k)))
