-- Paper 12. `exchanged`: two neighbouring entries of different processes, under the paper's condition, change places
-- with an equal final configuration, end and counts, and the lines of the two entries change places with them.
-- `exchanges`: so for any number of such exchanges; each process keeps its own lines in their order, and every line
-- that is not of a gate stays.
use Prim.Native.Nat.{ℕ, suc, ◌+◌, ◌≤◌}
use mathlib.Core.Path.{◌≡◌, refl, sym, ◌∙◌, ap, subst, subst₂}
use mathlib.Core.Logic.{◌≢◌, ◌⊎◌, inl, inr, ⊎_elim}
use mathlib.Core.Bool.{false, ◌&&◌, ◌||◌, not}
use mathlib.Core.List.{List, [], ◌∷◌, ◌++◌, map, append_assoc}
use mathlib.Core.Option.{Option, none, some, none-ne-some, some-injective}
use native.Mathlib.Omega.{arith}
use lib.ListN.{length, length-append}
use lib.Seq.{get_or-set_same}
use lib.Dec.{T, eqb, eqb→eq}
use mir.Facts.{and_yes}
use borrow.Author.Tests.{eqb-true, eqb-false, not-true}
use Rattle.lists.specs.Lists.{All}
use Rattle.lists.proofs.Tests.{decide, passed, failed, or_cases}
use Rattle.lists.proofs.Any.{All-implies}
use Rattle.table.specs.Ops.{one_qubit}
use Rattle.machine.specs.Value.{qubit}
use Rattle.machine.specs.State.{Frame, State, Line, Event, process_at, is_over, set_process, unmade, line_of}
use Rattle.machine.specs.Entry.{MachineOf, EffectOf, effect_of, able, table_machine}
use Rattle.machine.specs.Run.{Result, after_effect, run, run_from}
use Rattle.machine.specs.Owner.{holder, values_of, reaches}
use Rattle.machine.proofs.Within.{InReach}
use Rattle.machine.proofs.Ownership.{run-kept}
use Rattle.exchange.specs.Harmless.{may_exchange_ending, OfGateOrEnding}
use Rattle.exchange.specs.Exchange.{moves_alone, moves_on, both_move_on, two_taken, may_exchange, OfGate, Exchange, exchange, Exchanges, done, more, SameAnswer, gate_on, LinesExchanged, LinesKept}
use Rattle.exchange.proofs.Alike.{Alongside, run-alike}
use Rattle.exchange.proofs.Going.{able-made, goes-beyond}
use Rattle.exchange.proofs.Commute.{OwnMove, moved, moved_other, moved-count, both-alike, taken, taken-fits}
use Rattle.exchange.proofs.Alone.{OnReach, Plain, plain, plain-same, table-near}
use Rattle.exchange.proofs.Lines.{exchanged-kept, kept-itself, kept_then}

pub alongside-answer : {s s' : State} {r r' : Result} → Alongside s s' r r' → SameAnswer r r'
alongside-answer h = record {
  config = h.alike.config;
  end = h.end;
  entries = h.entries;
  lines = h.alike.count;
  used = h.alike.used;
  holders = h.alike.held;
}

-- different, and both taken
pub two-parts : (p outcomes : List ℕ) (room : ℕ) (xs : List ℕ) (m n : ℕ) → T (two_taken p outcomes room xs m n)
    → (m ≢ n) × ((run p outcomes room (xs ++ m ∷ n ∷ [])).entries ≡ length xs + 2)
unfolding two_taken
two-parts p outcomes room xs m n t =
    let (a, b) = and_yes (not (eqb m n)) _ t in
    (eqb-false m n (not-true _ (passed _ a)), eqb→eq _ _ b)

module _ (p outcomes : List ℕ) where
  -- what is asked of one entry
  pub one-moves : (s : State) (n : ℕ) → T (moves_alone p outcomes s n) → Plain p outcomes n (process_at s.config n)
  unfolding moves_alone
  one-moves s n t =
      let (a, b) = and_yes (able p outcomes s n) _ t in
      plain p outcomes s n (passed _ a) (not-true _ (passed _ b))

  -- an entry that leaves its process running, and so has no lines but of gates
  pub stays-running : (k : ℕ) (s : State) (n : ℕ) (o : Plain p outcomes n (process_at s.config n))
      → is_over (process_at (effect_of p outcomes k s n).config n) ≡ false → is_over o.move.becomes ≡ false
  unfolding process_at set_process
  stays-running k s n o e =
      sym (ap is_over
      (ap (λ (x : EffectOf _). process_at x.config n) (o.move.effect k s refl)
      ∙ get_or-set_same s.config.processes n o.move.becomes unmade
      (able-made (table_machine p outcomes) (table-near p outcomes) s n (o.move.able s refl))))
      ∙ e

  running-gates : (k : ℕ) (s : State) (n : ℕ) (o : Plain p outcomes n (process_at s.config n))
      → is_over (process_at (effect_of p outcomes k s n).config n) ≡ false → All (λ e. e.kind ≡ 3) o.move.events
  running-gates k s n o e = o.gates (stays-running k s n o e)

  pub moves-on : (k : ℕ) (s : State) (n : ℕ) → T (moves_on p outcomes k s n)
      → T (moves_alone p outcomes s n) × (is_over (process_at (effect_of p outcomes k s n).config n) ≡ false)
  unfolding moves_on
  moves-on k s n t =
      let (a, b) = and_yes (moves_alone p outcomes s n) _ t in
      (a, not-true _ (passed _ b))

  module _ (room : ℕ) where
    -- the state before the two entries
    abbrev before : List ℕ → State
    before xs = (run p outcomes room xs).state

    -- what is known of the two entries, whether or not they stop or finish their processes
    record Facts (xs : List ℕ) (m n : ℕ) : Type 0 where
      apart : m ≢ n
      first : Plain p outcomes m (process_at (before xs).config m)
      second : Plain p outcomes n (process_at (before xs).config n)
      fitting : length (before xs).lines + (length first.move.events + length second.move.events) ≤ room
      goes : (ws : List ℕ) → run p outcomes room (xs ++ ws) ≡ run_from p outcomes room (before xs) (length xs) ws

    -- a process that does not hold qubit q has no gate on it
    gates-off : (xs : List ℕ) (q k n : ℕ) (es : List Event)
        → All (OnReach p outcomes (values_of (process_at (before xs).config n).frames)) es
        → (holder (before xs).lines (qubit q) ≡ some n → ⊥) → All (λ e. gate_on q (line_of k n e) ≡ false) es
    unfolding reaches
    gates-off xs q k n es a free =
        All-implies (OnReach p outcomes (values_of (process_at (before xs).config n).frames))
        (λ e. gate_on q (line_of k n e) ≡ false) off es a
      where
        held : (i : ℕ) → InReach (values_of (process_at (before xs).config n).frames) (qubit i) → i ≡ q → ⊥
        held i r e =
            free (subst (λ (j : ℕ). holder (before xs).lines (qubit j) ≡ some n) e
            ((run-kept p outcomes room xs).named (qubit i) n r))

        off : (e : Event) → OnReach p outcomes (values_of (process_at (before xs).config n).frames) e
            → gate_on q (line_of k n e) ≡ false
        off e reach = failed (gate_on q (line_of k n e)) (λ t. on (and_yes (eqb e.kind 3) _ t))
          where
            on : T (eqb e.kind 3) × T (eqb e.b q || (not (one_qubit e.a) && eqb e.c q)) → ⊥
            on (g, t) =
                ⊎_elim (λ i. held e.b (reach (eqb→eq e.kind 3 g)).0 (eqb→eq e.b q i))
                (λ i. let (two, j) = and_yes (not (one_qubit e.a)) _ i in
                held e.c ((reach (eqb→eq e.kind 3 g)).1 (not-true _ (passed _ two))) (eqb→eq e.c q j))
                (or_cases (eqb e.b q) (not (one_qubit e.a) && eqb e.c q) t)

    -- the state between the two
    abbrev between : List ℕ → ℕ → State
    between xs m = after_effect (before xs) (effect_of p outcomes (length xs) (before xs) m)

    record Asked (xs : List ℕ) (m n : ℕ) : Type 0 where
      taken-both : T (two_taken p outcomes room xs m n)
      first : T (moves_alone p outcomes (before xs) m)
      second : T (moves_alone p outcomes (between xs m) n)

    module _ (xs : List ℕ) (m n : ℕ) (a : Asked xs m n) where
      abbrev M : MachineOf Frame
      M = table_machine p outcomes

      ne : m ≢ n
      ne = (two-parts p outcomes room xs m n a.taken-both).0

      used : (run p outcomes room (xs ++ m ∷ n ∷ [])).entries ≡ length xs + 2
      used = (two-parts p outcomes room xs m n a.taken-both).1

      one : Plain p outcomes m (process_at (before xs).config m)
      one = one-moves (before xs) m a.first

      later : Plain p outcomes n (process_at (between xs m).config n)
      later = one-moves (between xs m) n a.second

      -- n stands after m's entry as it stood before
      stands : process_at (between xs m).config n ≡ process_at (before xs).config n
      stands =
          ap (λ (x : EffectOf Frame). process_at (after_effect (before xs) x).config n)
          (one.move.effect (length xs) (before xs) refl)
          ∙ moved_other M (length xs) (before xs) one.move n (λ e. ne (sym e))

      abbrev two : Plain p outcomes n (process_at (before xs).config n)
      two = plain-same p outcomes stands later

      on : (ws : List ℕ) → run p outcomes room (xs ++ ws) ≡ run_from p outcomes room (before xs) (length xs) ws
      on = goes-beyond M (table-near p outcomes) room xs (m ∷ n ∷ []) (omega (arith, used))

      total : (run_from p outcomes room (before xs) (length xs) (m ∷ n ∷ [])).entries ≡ length xs + 2
      total = ap (λ (r : Result). r.entries) (sym (on (m ∷ n ∷ []))) ∙ used

      fit-one : length (before xs).lines + length one.move.events ≤ room
      fit-one =
          taken-fits M (table-near p outcomes) room (before xs) (length xs) (n ∷ []) one.move refl
          (omega (arith, total))

      step : run_from p outcomes room (before xs) (length xs) (m ∷ n ∷ [])
          ≡ run_from p outcomes room (moved M (length xs) (before xs) one.move) (suc (length xs)) (n ∷ [])
      step = taken M (table-near p outcomes) room (before xs) (length xs) (n ∷ []) one.move refl fit-one

      fit-two : length (moved M (length xs) (before xs) one.move).lines + length two.move.events ≤ room
      fit-two =
          taken-fits M (table-near p outcomes) room (moved M (length xs) (before xs) one.move) (suc (length xs)) []
          two.move
          (moved_other M (length xs) (before xs) one.move n (λ e. ne (sym e)))
          (omega (arith, ap (λ (r : Result). r.entries) step, total))

      abbrev known : Facts xs m n
      known = record {
        apart = ne;
        first = one;
        second = two;
        fitting = omega (arith, fit-two, moved-count M (length xs) (before xs) one.move);
        goes = on;
      }

      -- where neither stops nor finishes its process, their lines are of gates
      known-gates : is_over (process_at (effect_of p outcomes (length xs) (before xs) m).config m) ≡ false
          → is_over (process_at (effect_of p outcomes (suc (length xs)) (between xs m) n).config n) ≡ false
          → All (λ e. OfGate e.kind) one.move.events × All (λ e. OfGate e.kind) two.move.events
      known-gates r r' =
          (running-gates (length xs) (before xs) m one r, running-gates (suc (length xs)) (between xs m) n later r')

    -- one exchange
    module _ (xs : List ℕ) (m n : ℕ) (ys : List ℕ) (c : Facts xs m n) (P : ℕ → Type 0)
        (kinds : All (λ e. P e.kind) c.first.move.events × All (λ e. P e.kind) c.second.move.events)
      where
        abbrev k : ℕ
        k = length xs

        abbrev x : OwnMove (table_machine p outcomes) m (process_at (before xs).config m)
        x = c.first.move

        abbrev y : OwnMove (table_machine p outcomes) n (process_at (before xs).config n)
        y = c.second.move

        abbrev as-given : State
        as-given = moved (table_machine p outcomes) (suc k) (moved (table_machine p outcomes) k (before xs) x) y

        abbrev as-exchanged : State
        as-exchanged = moved (table_machine p outcomes) (suc k) (moved (table_machine p outcomes) k (before xs) y) x

        given-run : run p outcomes room (xs ++ m ∷ n ∷ ys) ≡ run_from p outcomes room as-given (suc (suc k)) ys
        given-run =
            c.goes (m ∷ n ∷ ys)
            ∙ taken (table_machine p outcomes) (table-near p outcomes) room (before xs) k (n ∷ ys) x refl
            (omega (arith, c.fitting))
            ∙ taken (table_machine p outcomes) (table-near p outcomes) room
            (moved (table_machine p outcomes) k (before xs) x) (suc k) ys y
            (moved_other (table_machine p outcomes) k (before xs) x n (λ e. c.apart (sym e)))
            (omega (arith, c.fitting, moved-count (table_machine p outcomes) k (before xs) x))

        exchanged-run : run p outcomes room (xs ++ n ∷ m ∷ ys) ≡ run_from p outcomes room as-exchanged (suc (suc k)) ys
        exchanged-run =
            c.goes (n ∷ m ∷ ys)
            ∙ taken (table_machine p outcomes) (table-near p outcomes) room (before xs) k (m ∷ ys) y refl
            (omega (arith, c.fitting))
            ∙ taken (table_machine p outcomes) (table-near p outcomes) room
            (moved (table_machine p outcomes) k (before xs) y) (suc k) ys x
            (moved_other (table_machine p outcomes) k (before xs) y m c.apart)
            (omega (arith, c.fitting, moved-count (table_machine p outcomes) k (before xs) y))

        along : Alongside as-given as-exchanged
            (run_from p outcomes room as-given (suc (suc k)) ys) (run_from p outcomes room as-exchanged (suc (suc k)) ys)
        along =
            run-alike (table_machine p outcomes) (table-near p outcomes) room ys as-given as-exchanged (suc (suc k))
            (both-alike (table_machine p outcomes) (before xs) k (suc k) m n x y c.apart)

        same_answer : SameAnswer (run p outcomes room (xs ++ m ∷ n ∷ ys)) (run p outcomes room (xs ++ n ∷ m ∷ ys))
        same_answer = subst₂ SameAnswer (sym given-run) (sym exchanged-run) (alongside-answer along)

        -- a qubit has one holder, so that not both have a gate on it
        apart-on : (q : ℕ) (h : Option ℕ) → holder (before xs).lines (qubit q) ≡ h
            → All (λ e. gate_on q (line_of k m e) ≡ false) x.events
            ⊎ All (λ e. gate_on q (line_of k n e) ≡ false) y.events
        apart-on q none e =
            inl (gates-off xs q k m x.events c.first.reached (λ w. none-ne-some m (sym e ∙ w)))
        apart-on q (some h) e =
            ⊎_elim
            (λ t.
            inr (gates-off xs q k n y.events c.second.reached
            (λ w. c.apart (sym (eqb-true h m t) ∙ some-injective h n (sym e ∙ w)))))
            (λ f.
            inl (gates-off xs q k m x.events c.first.reached
            (λ w. eqb-false h m f (some-injective h m (sym e ∙ w)))))
            (decide (eqb h m))

        lines-exchanged : LinesExchanged P k m n
            (run p outcomes room (xs ++ m ∷ n ∷ ys)).state.lines
            (run p outcomes room (xs ++ n ∷ m ∷ ys)).state.lines
        unfolding after_effect
        lines-exchanged = record {
          above = (before xs).lines;
          first = x.events;
          second = y.events;
          below = along.added;
          given =
              ap (λ (r : Result). r.state.lines) given-run ∙ along.lines
              ∙ parts (before xs).lines (map (line_of k m) x.events) (map (line_of (suc k) n) y.events)
              along.added;
          exchanged =
              ap (λ (r : Result). r.state.lines) exchanged-run ∙ along.lines'
              ∙ parts (before xs).lines (map (line_of k n) y.events) (map (line_of (suc k) m) x.events)
              along.added;
          kinds = kinds;
          qubits = λ q. apart-on q (holder (before xs).lines (qubit q)) refl;
        }
          where
            parts : (a b d e : List Line) → a ++ b ++ d ++ e ≡ a ++ (b ++ (d ++ e))
            parts a b d e = append_assoc (a ++ b) d e ∙ append_assoc a b (d ++ e)

    -- what the paper's condition gives
    module _ (xs : List ℕ) (m n : ℕ) (t : T (may_exchange p outcomes room xs m n)) where
      both-on : T (moves_on p outcomes (length xs) (before xs) m)
          × T (moves_on p outcomes (suc (length xs)) (between xs m) n)
      unfolding may_exchange both_move_on
      both-on =
          let (two, both) = and_yes (two_taken p outcomes room xs m n) _ t in
          and_yes (moves_on p outcomes (length xs) (before xs) m) _ both

      taken-too : T (two_taken p outcomes room xs m n)
      unfolding may_exchange
      taken-too = (and_yes (two_taken p outcomes room xs m n) _ t).0

      abbrev paper-asked : Asked xs m n
      paper-asked = record {
        taken-both = taken-too;
        first = (moves-on (length xs) (before xs) m both-on.0).0;
        second = (moves-on (suc (length xs)) (between xs m) n both-on.1).0;
      }

      paper-gates : All (λ e. OfGate e.kind) (known xs m n paper-asked).first.move.events
          × All (λ e. OfGate e.kind) (known xs m n paper-asked).second.move.events
      paper-gates =
          known-gates xs m n paper-asked (moves-on (length xs) (before xs) m both-on.0).1
          (moves-on (suc (length xs)) (between xs m) n both-on.1).1

    -- "two neighbouring entries of different processes may change places with an equal final configuration"
    pub exchanged : (xs : List ℕ) (m n : ℕ) (ys : List ℕ) → T (may_exchange p outcomes room xs m n)
        → SameAnswer (run p outcomes room (xs ++ m ∷ n ∷ ys)) (run p outcomes room (xs ++ n ∷ m ∷ ys))
        × LinesExchanged OfGate (length xs) m n (run p outcomes room (xs ++ m ∷ n ∷ ys)).state.lines
        (run p outcomes room (xs ++ n ∷ m ∷ ys)).state.lines
    exchanged xs m n ys t = (
      same_answer xs m n ys (known xs m n (paper-asked xs m n t)) OfGate (paper-gates xs m n t),
      lines-exchanged xs m n ys (known xs m n (paper-asked xs m n t)) OfGate (paper-gates xs m n t),
    )

    -- That neither stops nor finishes its process is not needed for the configuration, the end and the counts: without
    -- it only the lines by which a process stops or finishes change places, too.
    pub over-harmless : (xs : List ℕ) (m n : ℕ) (ys : List ℕ) → T (may_exchange_ending p outcomes room xs m n)
        → SameAnswer (run p outcomes room (xs ++ m ∷ n ∷ ys)) (run p outcomes room (xs ++ n ∷ m ∷ ys))
        × LinesExchanged OfGateOrEnding (length xs) m n (run p outcomes room (xs ++ m ∷ n ∷ ys)).state.lines
        (run p outcomes room (xs ++ n ∷ m ∷ ys)).state.lines
    unfolding may_exchange_ending
    over-harmless xs m n ys t =
        let (ab, c) = and_yes (two_taken p outcomes room xs m n && moves_alone p outcomes (before xs) m) _ t in
        let (a, b) = and_yes (two_taken p outcomes room xs m n) _ ab in
        both (record { taken-both = a; first = b; second = c })
      where
        both : Asked xs m n
            → SameAnswer (run p outcomes room (xs ++ m ∷ n ∷ ys)) (run p outcomes room (xs ++ n ∷ m ∷ ys))
            × LinesExchanged OfGateOrEnding (length xs) m n (run p outcomes room (xs ++ m ∷ n ∷ ys)).state.lines
            (run p outcomes room (xs ++ n ∷ m ∷ ys)).state.lines
        both q = (
          same_answer xs m n ys (known xs m n q) OfGateOrEnding
              ((known xs m n q).first.kinds, (known xs m n q).second.kinds),
          lines-exchanged xs m n ys (known xs m n q) OfGateOrEnding
              ((known xs m n q).first.kinds, (known xs m n q).second.kinds),
        )

    -- a chain of them

    abbrev Kept : List ℕ → List ℕ → Type 0
    Kept a b =
        SameAnswer (run p outcomes room a) (run p outcomes room b)
        × LinesKept (run p outcomes room a).state.lines (run p outcomes room b).state.lines

    one_kept : {a b : List ℕ} → Exchange p outcomes room a b → Kept a b
    unfolding may_exchange two_taken
    one_kept (exchange xs m n ys t) = (
      (exchanged xs m n ys t).0,
      exchanged-kept (length xs) m n _ _ (ne xs m n (paper-asked xs m n t)) (exchanged xs m n ys t).1,
    )

    kept_next : (a b c : List ℕ) → Kept a b → Kept b c → Kept a c
    kept_next a b c f g = (
      record {
        config = f.0.config ∙ g.0.config;
        end = f.0.end ∙ g.0.end;
        entries = f.0.entries ∙ g.0.entries;
        lines = f.0.lines ∙ g.0.lines;
        used = f.0.used ∙ g.0.used;
        holders = λ t. f.0.holders t ∙ g.0.holders t;
      },
      kept_then f.1 g.1,
    )

    -- "Show it then for any number of such exchanges."
    pub exchanges : {xs ys : List ℕ} → Exchanges p outcomes room xs ys
        → SameAnswer (run p outcomes room xs) (run p outcomes room ys)
        × LinesKept (run p outcomes room xs).state.lines (run p outcomes room ys).state.lines
    exchanges (done xs) = (
      record { config = refl; end = refl; entries = refl; lines = refl; used = refl; holders = λ t. refl },
      kept-itself (run p outcomes room xs).state.lines,
    )
    exchanges (more {xs = xs} {ys = ys} {zs = zs} e rest) = kept_next xs ys zs (one_kept e) (exchanges rest)

-- the schedules of a chain are of one length
pub same_length : (p outcomes : List ℕ) (room : ℕ) {xs ys : List ℕ} → Exchanges p outcomes room xs ys
    → length xs ≡ length ys
same_length p outcomes room (done xs) = refl
same_length p outcomes room (more e rest) = one e ∙ same_length p outcomes room rest
  where
    one : {a b : List ℕ} → Exchange p outcomes room a b → length a ≡ length b
    one (exchange xs m n ys t) = length-append xs (m ∷ n ∷ ys) ∙ sym (length-append xs (n ∷ m ∷ ys))
