-- Two entries that change places, of any machine. An entry of a process is its own if it looks at that process alone,
-- changes that process alone, uses no outcome, and has no line that makes or gives. Two neighbouring own entries of
-- different processes leave states that are alike, in either order.
use Prim.Native.Nat.{ℕ, suc, ◌+◌, ◌≤◌, ◌<◌}
use mathlib.Core.Path.{◌≡◌, refl, sym, ◌∙◌, ap}
use mathlib.Core.Logic.{◌≢◌}
use mathlib.Core.Bool.{Bool, true, cond}
use mathlib.Core.List.{List, [], ◌∷◌, ◌++◌, map, foldl}
use mathlib.Core.Option.{Option, none}
use native.Mathlib.Omega.{arith}
use lib.ListN.{length, length-append, length-map, length-set}
use lib.Seq.{get_or-set_other, set_comm}
use borrow.Author.Tests.{leb-true, le-leb}
use Rattle.lists.specs.Lists.{All}
use Rattle.machine.specs.Value.{Thing}
use Rattle.machine.specs.State.{ProcessOf, ConfigOf, Line, StateOf, Event, process_at, set_process, unmade, line_of}
use Rattle.machine.specs.Entry.{MachineOf, EffectOf, offered, changes, effect_in, able_in}
use Rattle.machine.specs.Run.{fits, after_effect, ended, run_from_in}
use Rattle.machine.specs.Owner.{holder, holder_after}
use Rattle.machine.proofs.Holder.{holder-append, holder-kept}
use Rattle.exchange.proofs.Alike.{Near, Alike}
use Rattle.exchange.proofs.Going.{goes_on, taken-fit}

-- an event that makes nothing and gives nothing
abbrev pub Unheld : Event → Type 0
Unheld e = (e.kind ≢ 1) × (e.kind ≢ 2) × (e.kind ≢ 6)

-- process n, in the state pr, moves by an entry of its own
pub record OwnMove {F : Type 0} (M : MachineOf F) (n : ℕ) (pr : ProcessOf F) : Type 0 where
  pub becomes : ProcessOf F
  pub events : List Event
  pub able : (s : StateOf F) → process_at s.config n ≡ pr → able_in M s n ≡ true
  pub effect : (k : ℕ) (s : StateOf F) → process_at s.config n ≡ pr
      → effect_in M k s n ≡ changes k s n becomes events 0
  pub unheld : All Unheld events
  -- until then it has no offer
  pub no-offer : (s : StateOf F) → process_at s.config n ≡ pr → offered (M.act s n) ≡ none

-- processes of a changed configuration

pub other-process : {F : Type 0} (c : ConfigOf F) (n m : ℕ) (pr : ProcessOf F) → m ≢ n
    → process_at (set_process c n pr) m ≡ process_at c m
unfolding process_at set_process
other-process c n m pr ne = get_or-set_other c.processes n m pr unmade ne

pub set_both : {F : Type 0} (c : ConfigOf F) (m n : ℕ) (a b : ProcessOf F) → m ≢ n
    → set_process (set_process c m a) n b ≡ set_process (set_process c n b) m a
unfolding set_process
set_both c m n a b ne =
    λ i. record { processes = set_comm c.processes m n a b ne i; qubits = c.qubits; channels = c.channels }

-- lines that make nothing and give nothing leave every holder
pub holder-unheld : (t : Thing) (k n : ℕ) (es : List Event) (h : Option ℕ) → All Unheld es
    → foldl (holder_after t) h (map (line_of k n) es) ≡ h
holder-unheld t k n [] h a = refl
holder-unheld t k n (e ∷ es) h a =
    ap (λ (g : Option ℕ). foldl (holder_after t) g (map (line_of k n) es))
    (holder-kept t h (line_of k n e) a.0.0 a.0.1 a.0.2)
    ∙ holder-unheld t k n es h a.1

holder-over : (t : Thing) (k n : ℕ) (ls : List Line) (es : List Event) → All Unheld es
    → holder (ls ++ map (line_of k n) es) t ≡ holder ls t
holder-over t k n ls es a = holder-append ls (map (line_of k n) es) t ∙ holder-unheld t k n es (holder ls t) a

module _ {F : Type 0} (M : MachineOf F) where
  -- the state that an own entry leaves
  abbrev pub moved : {n : ℕ} {pr : ProcessOf F} → ℕ → StateOf F → OwnMove M n pr → StateOf F
  moved {n} k s o = after_effect s (changes k s n o.becomes o.events 0)

  -- a process that another's own entry leaves as it was
  pub moved_other : {n : ℕ} {pr : ProcessOf F} (k : ℕ) (s : StateOf F) (o : OwnMove M n pr) (m : ℕ) → m ≢ n
      → process_at (moved k s o).config m ≡ process_at s.config m
  unfolding after_effect
  moved_other {n} k s o m ne = other-process s.config n m o.becomes ne

  -- every other process acts as before
  pub moved-acts : Near M → {n : ℕ} {pr : ProcessOf F} (k : ℕ) (s : StateOf F) (o : OwnMove M n pr) (q : ℕ) → q ≢ n
      → M.act (moved k s o) q ≡ M.act s q
  unfolding after_effect set_process
  moved-acts near {n} k s o q d =
      near.acts (moved k s o) s q (moved_other k s o q d) refl refl (length-set s.config.processes n o.becomes)
      none-used
    where
      none-used : s.used + 0 ≡ s.used
      none-used = omega arith

  pub moved-count : {n : ℕ} {pr : ProcessOf F} (k : ℕ) (s : StateOf F) (o : OwnMove M n pr)
      → length (moved k s o).lines ≡ length s.lines + length o.events
  unfolding after_effect
  moved-count {n} k s o =
      length-append s.lines (map (line_of k n) o.events)
      ∙ ap (λ (i : ℕ). length s.lines + i) (length-map o.events (line_of k n))

  pub moved-held : {n : ℕ} {pr : ProcessOf F} (k : ℕ) (s : StateOf F) (o : OwnMove M n pr) (t : Thing)
      → holder (moved k s o).lines t ≡ holder s.lines t
  unfolding after_effect
  moved-held {n} k s o t = holder-over t k n s.lines o.events o.unheld

  -- both orders leave alike states
  pub both-alike : (s : StateOf F) (j k : ℕ) (m n : ℕ) {pr pr' : ProcessOf F} (x : OwnMove M m pr) (y : OwnMove M n pr')
      → m ≢ n
      → Alike (moved k (moved j s x) y) (moved k (moved j s y) x)
  unfolding after_effect
  both-alike s j k m n x y ne = record {
    config = set_both s.config m n x.becomes y.becomes ne;
    used = refl;
    count =
        omega (
          arith,
          moved-count k (moved j s x) y,
          moved-count j s x,
          moved-count k (moved j s y) x,
          moved-count j s y,
        );
    held = λ t.
        moved-held k (moved j s x) y t ∙ moved-held j s x t
        ∙ sym (moved-held k (moved j s y) x t ∙ moved-held j s y t);
  }

  module _ (near : Near M) (room : ℕ) where
    -- an own entry whose lines fit is taken
    pub taken : {n : ℕ} (s : StateOf F) (k : ℕ) (rest : List ℕ) {pr : ProcessOf F} (o : OwnMove M n pr)
        → process_at s.config n ≡ pr
        → length s.lines + length o.events ≤ room
        → run_from_in M room s k (n ∷ rest) ≡ run_from_in M room (moved k s o) (suc k) rest
    unfolding fits
    taken {n} s k rest o e h =
        goes_on M near room s k n rest (o.able s e)
        ∙ ap (λ (x : EffectOf F). cond (fits room s x) (run_from_in M room (after_effect s x) (suc k) rest) (ended 3 k s))
        (o.effect k s e)
        ∙ ap (λ (b : Bool). cond b (run_from_in M room (moved k s o) (suc k) rest) (ended 3 k s)) fitting
      where
        fitting : fits room s (changes k s n o.becomes o.events 0) ≡ true
        fitting = le-leb _ room (omega (arith, h, length-map o.events (line_of k n)))

    -- one that is taken fits
    pub taken-fits : {n : ℕ} (s : StateOf F) (k : ℕ) (rest : List ℕ) {pr : ProcessOf F} (o : OwnMove M n pr)
        → process_at s.config n ≡ pr
        → k < (run_from_in M room s k (n ∷ rest)).entries → length s.lines + length o.events ≤ room
    unfolding fits
    taken-fits {n} s k rest o e h =
        omega (
          arith,
          length-map o.events (line_of k n),
          leb-true (length s.lines + length (map (line_of k n) o.events)) room
              (ap (fits room s) (sym (o.effect k s e)) ∙ taken-fit M near room s k n rest (o.able s e) h),
        )
