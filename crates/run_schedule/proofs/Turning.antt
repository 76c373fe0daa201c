-- The loop over the schedule: what is known before each of its turns, and what a turn, the last turn and the end of the
-- schedule make of it.
use Prim.Native.Nat.{ℕ, zero, suc, ◌+◌, ◌*◌, ◌-◌, ◌/◌, ◌≤◌, ◌<◌}
use mathlib.Core.Path.{◌≡◌, refl, sym, ◌∙◌, ap, ap₂, subst}
use mathlib.Core.Bool.{Bool}
use mathlib.Core.List.{List, [], ◌++◌}
use native.Mathlib.Omega.{arith}
use lib.ListN.{get_or, drop, length, length-append}
use Rattle.lists.specs.Lists.{All}
use Rattle.lists.proofs.Tests.{cond_both}
use Rattle.table.specs.Table.{word, methods, arg_at}
use Rattle.table.proofs.Accepted.{Kept}
use Rattle.machine.specs.State.{Line, State, start_config}
use Rattle.machine.specs.Entry.{effect_of}
use Rattle.machine.specs.Run.{Result, after_effect, run}
use Rattle.machine.specs.Answer.{trace_after}
use Rattle.trace.specs.Trace.{lines_of}
use Rattle.machine.proofs.Steps.{state_at}
use Rattle.layout.specs.Layout.{encode}
use Rattle.layout.specs.Holders.{holder_words, store_after}
use Rattle.layout.proofs.RoundTrip.{encode-length}
use Rattle.run_values.specs.ValuesCode.{AfterStep}
use Rattle.run_holders.specs.HoldersCode.{holders_after_lines, changed_from, nobody}
use Rattle.run_holders.specs.StoredCode.{stored_after_lines}
use Rattle.run_holders.proofs.StoredWords.{stored_lines}
use Rattle.std.specs.Prelude.{Option, Some, None, unwrap_or}
use Rattle.run_ability.specs.PairingCode.{Near}
use Rattle.run_ability.specs.declared.ends.End.{End}
use Rattle.run_ability.specs.declared.ends.End.TheVariants.{ScheduleUsed}
use Rattle.run_ability.specs.EndNumbers.{end_number}
use Rattle.run_ability.specs.EndingCode.{end_or_none, ending_op}
use Rattle.run_entry.specs.EntryCode.{offer_at}
use Rattle.run_burst.specs.declared.burst.Burst.{Burst}
use Rattle.run_burst.specs.declared.turn.Turn.{Turn}
use Rattle.run_burst.specs.declared.turn.Turn.TheVariants.{GoesOn, Ends}
use Rattle.run_burst.specs.declared.knowledge.Knowledge.{Knowledge}
use Rattle.run_burst.specs.KnowledgeCode.{nothing_known, with_idle, known_after_step, unless_changed}
use Rattle.run_burst.specs.BurstCode.{Stop, stops_at, named_op, is_done, stops_here, burst_op, SameBurst}
use Rattle.run_burst.specs.TurnCode.{after_turn, turn_at}
use Rattle.run_burst.proofs.AtOnce.{none-taken}
use Rattle.run_schedule.specs.SummaryCode.{after_run, run_leaves}
use Rattle.run_schedule.proofs.Ready.{Inputs, Ready, AtEnd, ready-start, ready-last, state-sound}
use Rattle.run_schedule.proofs.Resting.{lines_to, lines-to, other-rest, ready-rest}
use Rattle.run_schedule.proofs.Taking.{Turns, turn-law}
use Rattle.run_schedule.proofs.Bursting.{Burst-good, burst-law}

-- the words beyond the configuration's: the stored holders, by the lines that the trace holds, and what the caller
-- keeps
abbrev pub rest_of : List ℕ → ℕ → List ℕ → List ℕ
rest_of trace lines beyond = holder_words (lines_to trace lines) ++ beyond

-- the state before the entry at which a burst has stopped, or at the schedule's end
pub record BurstState (p schedule outcomes : List ℕ) (room : ℕ) (beyond t0 work trace : List ℕ) (t : List (List ℕ))
    (lines used : ℕ) (b : Burst) :
    Type 0 where
  pub given : Inputs p schedule outcomes t0 (rest_of trace lines beyond) room
  pub stands : Burst-good given trace t lines used (stops_at b work)

-- the state before a burst that starts at entry k, where the entries from `from` on have been taken already
pub record Before (p schedule outcomes : List ℕ) (room : ℕ) (beyond t0 work trace : List ℕ) (t : List (List ℕ))
    (lines used k : ℕ) (known : Knowledge) :
    Type 0 where
  pub given : Inputs p schedule outcomes t0 (rest_of trace lines beyond) room
  pub from : ℕ
  pub words : List ℕ
  pub ready : Ready given from words trace t lines used known
  pub taken : SameBurst p schedule known words from work k

-- words of 16 bits
narrow-words : (p : List ℕ) → ((i : ℕ) → get_or p i 0 < 65536) → (i : ℕ) → arg_at p i < 65536
unfolding arg_at word
narrow-words p h i = h (3 + 20 * methods p + 2 * i)

pub inputs : (p schedule outcomes t0 : List ℕ) {rest : List ℕ} {room : ℕ} → Kept p → ((i : ℕ) → get_or p i 0 < 65536)
    → All (λ o. o ≤ 2) outcomes
    → length schedule ≤ 65535 → room ≡ length t0 / 6 → Inputs p schedule outcomes t0 rest room
inputs p schedule outcomes t0 kept words bytes short room = record {
  kept = kept;
  narrow = narrow-words p words;
  bytes = bytes;
  short = short;
  holds = omega (arith, room);
}

-- a burst does not go back
burst-past : (p : List ℕ) (t : List (List ℕ)) (schedule work : List ℕ) (k : ℕ) (known : Knowledge) (left : ℕ)
    → k ≤ (burst_op p t schedule work k known left).burst.at
unfolding burst_op
burst-past p t schedule work k known zero = omega arith
burst-past p t schedule work k known (suc left) =
    cond_both (λ (b : Stop). k ≤ b.burst.at) (is_done d.result known)
    (omega (
      arith,
      burst-past p t schedule d.words (k + 1) (known_after_step p d.words (get_or schedule k 0) known d.result)
          left,
    ))
    (cond_both (λ (b : Stop). k ≤ b.burst.at)
    (stops_here p d.words schedule k known (offer_at p d.words t (get_or schedule k 0) d.result)) (omega arith)
    (omega (arith, burst-past p t schedule d.words (k + 1) (with_idle known (get_or schedule k 0)) left)))
  where
    d : AfterStep
    d = named_op p work (get_or schedule k 0) known

module _ {p schedule outcomes : List ℕ} {room : ℕ} {t0 : List ℕ} where
  pub before-start : {w0 beyond : List ℕ} → Inputs p schedule outcomes t0 (rest_of t0 0 beyond) room
      → w0 ≡ encode (start_config p) ++ (holder_words [] ++ beyond)
      → {t : List (List ℕ)} → t ≡ nobody → {known : Knowledge} → known ≡ nothing_known
      → {k : ℕ} {work : List ℕ} → SameBurst p schedule nothing_known w0 0 work k
      → Before p schedule outcomes room beyond t0 work t0 t 0 0 k known
  unfolding lines_of
  before-start {w0} {beyond} given e {t} i {known} j {k} {work} s = record {
    given = given;
    from = 0;
    words = w0;
    ready =
        subst (λ (x : Knowledge). Ready given 0 w0 t0 t 0 0 x) (sym j)
        (subst (λ (u : List (List ℕ)). Ready given 0 w0 t0 u 0 0 nothing_known) (sym i) (ready-start given w0 none_yet));
    taken = subst (λ (x : Knowledge). SameBurst p schedule x w0 0 work k) (sym j) s;
  }
    where
      none_yet : w0 ≡ encode (start_config p) ++ rest_of t0 0 beyond
      none_yet = e

  module _ {beyond work trace : List ℕ} {t : List (List ℕ)} {lines used k : ℕ} {known : Knowledge}
      (x : Before p schedule outcomes room beyond t0 work trace t lines used k known) {b : Burst} {work' : List ℕ}
      (stops : stops_at b work' ≡ burst_op p t schedule work k known (length schedule - k)) where
    pub going-burst : BurstState p schedule outcomes room beyond t0 work' trace t lines used b
    going-burst = record {
      given = x.given;
      stands =
          subst (Burst-good x.given trace t lines used) (x.taken.same t ∙ sym stops)
          (burst-law x.given (length schedule - x.from) x.from refl x.ready);
    }

    pub not_back : k ≤ b.at
    not_back =
        subst (λ (y : Stop). k ≤ y.burst.at) (sym stops) (burst-past p t schedule work k known (length schedule - k))

  module _ {work trace : List ℕ} {t : List (List ℕ)} {lines used : ℕ} {b : Burst} {beyond : List ℕ}
      (g : BurstState p schedule outcomes room beyond t0 work trace t lines used b) where
    abbrev there : Ready g.given b.at work trace t lines used b.known
    there = g.stands.ready

    -- the lines that the trace holds are the state's
    lines-there : lines_to trace lines ≡ (state_at p outcomes schedule b.at).lines
    lines-there = lines-to (state_at p outcomes schedule b.at).lines t0 there.written there.counted

    pub few-lines : lines < 16000000
    few-lines = omega (arith, there.counted, there.few_lines, there.inside, g.given.short)

    pub near : Near b.offer
    near = g.stands.near

    -- the words that a run leaves
    over-leaves : (w0 : List ℕ) → beyond ≡ drop 8256 w0 → (end : End) {work' trace' : List ℕ} {lines' used' : ℕ}
        → AtEnd g.given b.at (end_number end) work' trace' lines' used'
        → after_run (record { end = end; entries = b.at; lines = lines'; used = used' }) trace' work' ≡ run_leaves
        (run p outcomes room schedule) t0 w0
    unfolding run_leaves store_after
    over-leaves w0 same end o =
        (λ i. after_run (record { end = end; entries = b.at; lines = o.counted i; used = o.drawn i }) (o.written i)
        ((o.store
        ∙ ap₂ (λ (ls : List Line) (l : List ℕ). encode (state_at p outcomes schedule b.at).config
        ++ (holder_words ls ++ l)) lines-there same) i))
        ∙ ap (λ (r : Result). run_leaves r t0 w0) (sym o.ends)

    -- the schedule is used up
    pub going-ends : (w0 : List ℕ) → beyond ≡ drop 8256 w0 → length schedule ≤ b.at → {o : Option End}
        → o ≡ ending_op p work t 8 → {end : End} → end ≡ unwrap_or o ScheduleUsed
        → after_run (record { end = end; entries = b.at; lines = lines; used = used }) trace work ≡ run_leaves
        (run p outcomes room schedule) t0 w0
    unfolding end_or_none end_number
    going-ends w0 same h {o} asked {end} e =
        over-leaves w0 same end
        (subst (λ (i : ℕ). AtEnd g.given b.at i work trace lines used)
        (sym (ap end_number e ∙ numbered o ∙ ap end_or_none asked))
        (ready-last g.given b.at there h))
      where
        numbered : (x : Option End) → end_number (unwrap_or x ScheduleUsed) ≡ end_or_none x
        numbered None = refl
        numbered (Some x) = refl

    module _ (more : b.at < length schedule) {r : Turn} {trace' work' : List ℕ}
        (changed : after_turn r trace' work' ≡ turn_at p schedule outcomes trace work room t lines used b) where
      turn : Turns g.given b.at t lines (after_turn r trace' work')
      unfolding turn_at
      turn =
          subst (Turns g.given b.at t lines) (sym changed)
          (turn-law g.given b.at there more b.step b.offer (g.stands.entered more))

      -- the run is over
      pub going-over : (w0 : List ℕ) → beyond ≡ drop 8256 w0 → {end : End} {lines' used' : ℕ} → r ≡ Ends end lines' used'
          → after_run (record { end = end; entries = b.at; lines = lines'; used = used' }) trace' work' ≡ run_leaves
          (run p outcomes room schedule) t0 w0
      going-over w0 same {end} over =
          over-leaves w0 same end (subst (λ (x : Turn). Turns g.given b.at t lines (after_turn x trace' work')) over turn)

      module _ {lines' used' : ℕ} {left : Knowledge} (goes : r ≡ GoesOn lines' used' left) where
        next :
            (lines ≤ lines') × Ready g.given (suc b.at) work' trace'
            (holders_after_lines t trace' lines (lines' - lines)) lines' used'
            (unless_changed left (changed_from trace' lines (lines' - lines)))
        next = subst (λ (x : Turn). Turns g.given b.at t lines (after_turn x trace' work')) goes turn

        pub lines_more : lines ≤ lines'
        lines_more = next.0

        pub lines_fit : (lines' < 16777216) × (6 * lines' ≤ length t0)
        lines_fit = (
          omega (arith, next.1.counted, next.1.few_lines, next.1.inside, g.given.short),
          omega (arith, next.1.counted, next.1.fit, g.given.holds),
        )

        -- the holders stored with the lines of the entry
        abbrev after : State
        after = state_at p outcomes schedule (suc b.at)

        abbrev new : List Line
        new = (effect_of p outcomes b.at (state_at p outcomes schedule b.at) (get_or schedule b.at 0)).lines

        after-lines : after.lines ≡ (state_at p outcomes schedule b.at).lines ++ new
        unfolding state_at after_effect
        after-lines = refl

        more-lines : lines' - lines ≡ length new
        more-lines =
            omega (
              arith,
              next.1.counted,
              there.counted,
              ap (λ (ls : List Line). length ls) after-lines ∙ length-append
                  (state_at p outcomes schedule b.at).lines new,
            )

        stored_next : stored_after_lines work' trace' lines (lines' - lines) ≡ encode after.config ++ rest_of trace'
            lines' beyond
        stored_next =
            (λ i. stored_after_lines
            ((next.1.store ∙ ap (λ (ls : List Line). encode after.config ++ (holder_words ls ++ beyond))
            lines-there) i)
            ((next.1.written ∙ ap (λ (ls : List Line). trace_after ls t0) after-lines) i) (there.counted i)
            (more-lines i))
            ∙ stored_lines (encode after.config) beyond (state_at p outcomes schedule b.at).lines new t0
            (encode-length p after.config (state-sound g.given (suc b.at)))
            ∙ ap (λ (ls : List Line). encode after.config ++ (holder_words ls ++ beyond))
            (sym (lines-to after.lines t0 next.1.written next.1.counted ∙ after-lines))

        module _ {changes : Bool} (says : changes ≡ changed_from trace' lines (lines' - lines)) {known : Knowledge}
            (knows : known ≡ unless_changed left changes)
            {u : List (List ℕ)} (noted : u ≡ holders_after_lines t trace' lines (lines' - lines))
            {work'' : List ℕ} (stored : work'' ≡ stored_after_lines work' trace' lines (lines' - lines))
          where
            abbrev newly : Inputs p schedule outcomes t0 (rest_of trace' lines' beyond) room
            newly = other-rest g.given (rest_of trace' lines' beyond)

            -- it goes on
            pub before-next : Before p schedule outcomes room beyond t0 work'' trace' u lines' used' (b.at + 1)
                known
            before-next = record {
              given = newly;
              from = b.at + 1;
              words = work'';
              ready =
                  subst (λ (n : ℕ). Ready newly n work'' trace' u lines' used' known) {x = suc b.at}
                  {y = b.at + 1} (omega arith)
                  (subst (λ (x : Knowledge). Ready newly (suc b.at) work'' trace' u lines' used' x)
                  (sym (knows ∙ ap (unless_changed left) says))
                  (subst (λ (v : List (List ℕ)). Ready newly (suc b.at) work'' trace' v lines' used'
                  (unless_changed left (changed_from trace' lines (lines' - lines))))
                  (sym noted)
                  (ready-rest g.given (rest_of trace' lines' beyond) next.1 (stored ∙ stored_next))));
              taken = none-taken;
            }
