-- An entry that a burst leaves: what its lines, or its waiting, make of what stands before it.
use Prim.Native.Nat.{ℕ, suc, ◌+◌, ◌-◌, ◌≤◌, ◌<◌}
use mathlib.Core.Path.{◌≡◌, refl, sym, ◌∙◌, ap, ap₂, subst}
use mathlib.Core.Logic.{◌≢◌, ⊎_elim}
use mathlib.Core.Bool.{Bool, true, false, cond, true≢false}
use mathlib.Core.List.{List, ◌++◌}
use native.Mathlib.Omega.{arith}
use lib.ListN.{get_or, drop, length, length-append}
use lib.Dec.{leb}
use borrow.Author.Tests.{lt-leb, leb-true, leb-false}
use Rattle.lists.proofs.Tests.{decide}
use Rattle.machine.specs.Entry.{able}
use Rattle.machine.specs.Run.{fits}
use Rattle.machine.specs.Answer.{trace_after}
use Rattle.machine.proofs.Steps.{ending, at-full, ends-here, able-goes}
use Rattle.layout.specs.Layout.{encode}
use Rattle.run_parts.specs.PartsCode.{part_of}
use Rattle.run_parts.specs.ReadinessCode.{readiness_op}
use Rattle.run_holders.specs.HoldersCode.{holders_after_lines, changed_from}
use Rattle.run_holders.proofs.Noting.{unchanged}
use Rattle.run_holders.proofs.Holding.{Holding, holding-lines}
use Rattle.run_ability.specs.declared.pairing.Pairing.{Pairing}
use Rattle.std.specs.Prelude.{Option, Some, None}
use Rattle.run_ability.specs.declared.ends.End.{End}
use Rattle.run_ability.specs.declared.ends.End.TheVariants.{ScheduleUsed, AllOver, NoneAble, TraceFull}
use Rattle.run_ability.specs.EndNumbers.{end_number}
use Rattle.run_ability.specs.EndingCode.{end_or_none, ending_op}
use Rattle.run_ability.proofs.Scans.{ending-other}
use Rattle.run_single.specs.declared.result.Count.{Count}
use Rattle.run_burst.specs.declared.turn.Turn.{Turn}
use Rattle.run_burst.specs.declared.turn.Turn.TheVariants.{GoesOn, Ends}
use Rattle.run_ability.proofs.Able.{ending-is}
use Rattle.run_single.specs.ResultCode.{AfterEntry, after_entry}
use Rattle.run_single.specs.declared.result.EntryResult.TheVariants.{Unable}
use Rattle.run_values.specs.declared.steps.StepResult.{StepResult}
use Rattle.run_values.specs.declared.steps.StepResult.TheVariants.{WentOn}
use Rattle.run_entry.specs.EntryCode.{one_line, entry_op}
use Rattle.run_entry.proofs.Beside.{beside}
use Rattle.run_parts.specs.declared.readiness.Readiness.TheVariants.{Moves}
use Rattle.run_burst.specs.declared.knowledge.Knowledge.{Knowledge}
use Rattle.run_burst.specs.KnowledgeCode.{nothing_known, with_idle, alone, known_after_step, known_after_entry, unless_changed}
use Rattle.run_burst.specs.TurnCode.{AfterTurn, after_turn, named_entry_op, unable_turn, turn_of, turn_by, turn_op}
use Rattle.run_burst.proofs.Knowing.{alone-so, entered_so}
use Rattle.run_schedule.proofs.Ready.{Inputs, Stands, at, Idle, Ready, AtEnd, reached, owned, named, effect, ready-next, ready-idle, trace₀, work₀, count₀, comes, comes_to, unmade, ready-as, ready-there, not-able, idle-more, long, same-long, moved-idle, moved-goes}

module _ {p schedule outcomes t0 rest : List ℕ} {room : ℕ} (given : Inputs p schedule outcomes t0 rest room) (k : ℕ)
  where
    -- the next entry stands to be taken, or the run is over before this one
    abbrev pub TurnsTo : List (List ℕ) → ℕ → List ℕ → List ℕ → Turn → Type 0
    TurnsTo t lines trace work (GoesOn lines' used known) =
        (lines ≤ lines')
        × Ready given (suc k) work trace (holders_after_lines t trace lines (lines' - lines)) lines' used
        (unless_changed known (changed_from trace lines (lines' - lines)))
    TurnsTo t lines trace work (Ends end lines' used) = AtEnd given k (end_number end) work trace lines' used

    abbrev pub Turns : List (List ℕ) → ℕ → AfterTurn → Type 0
    Turns t lines x = TurnsTo t lines x.trace x.work x.turn

    pub turn-law : {work trace : List ℕ} {t : List (List ℕ)} {lines used : ℕ} {known : Knowledge}
        → Ready given k work trace t lines used known → k < length schedule → (step : StepResult) (m : Pairing)
        → named_entry_op p outcomes trace work room (record { entry = k; lines = lines; used = used }) (named given k)
        step
        m ≡ (comes_to given k)
        → Turns t lines
        (turn_op p outcomes trace work room t (record { entry = k; lines = lines; used = used }) (named given k) step m
        known)
    unfolding turn_op turn_by turn_of unable_turn end_or_none end_number named_entry_op holders_after_lines changed_from
        nothing_known alone known_after_step known_after_entry unless_changed
    turn-law {work} {trace} {t} {lines} {used} {known} r l step m e =
        subst (λ (c : AfterEntry). Turns t lines (turn_by p t g (named given k) step known c)) (sym e)
        (go (able p outcomes (at given k) (named given k)) (fits room (at given k) (effect given k)) refl refl)
      where
        g : Count
        g = record { entry = k; lines = lines; used = used }

        there : Stands given k t known
        there = ready-there given k r

        idles : able p outcomes (at given k) (named given k) ≡ false → ending p outcomes (at given k) ≡ 0
            → Turns t lines
            (after_turn (GoesOn lines used (with_idle known (named given k))) (trace₀ given k) (work₀ given k))
        idles a e = (
          omega arith,
          subst
              (λ (n : ℕ). Ready given (suc k) (work₀ given k) (trace₀ given k)
              (holders_after_lines t (trace₀ given k) lines n) lines used
              (unless_changed (with_idle known (named given k)) (changed_from (trace₀ given k) lines n)))
              {x = 0} {y = lines - lines} (omega arith)
              (ready-as given (suc k)
              (ready-idle given k there l a e (with_idle known (named given k)) (λ i. idle-more given k there a)) refl refl
              r.counted r.drawn),
        )

        stay : able p outcomes (at given k) (named given k) ≡ false
            → Turns t lines
            (after_turn (unable_turn (ending_op p (work₀ given k) t 8) lines used (with_idle known (named given k)))
            (trace₀ given k) (work₀ given k))
        stay a = by-end (ending_op p (work₀ given k) t 8) refl
          where
            is : end_or_none (ending_op p (work₀ given k) t 8) ≡ ending p outcomes (at given k)
            is = ending-is (reached given k) rest (owned given k) t r.table

            over : (x : End) (n : ℕ) → end_number x ≡ suc n → ending_op p (work₀ given k) t 8 ≡ Some x
                → AtEnd given k (end_number x) (work₀ given k) (trace₀ given k) lines used
            over x n q j =
                subst (λ (i : ℕ). AtEnd given k i (work₀ given k) (trace₀ given k) lines used) (sym q)
                (record {
                  ends =
                      r.runs
                      ∙ ends-here p outcomes room (at given k) k n (drop k schedule) (sym is ∙ ap end_or_none j ∙ q);
                  store = refl;
                  written = refl;
                  counted = r.counted;
                  drawn = r.drawn;
                })

            by-end : (x : Option End) → ending_op p (work₀ given k) t 8 ≡ x
                → Turns t lines
                (after_turn (unable_turn x lines used (with_idle known (named given k))) (trace₀ given k) (work₀ given k))
            by-end None j = idles a (sym is ∙ ap end_or_none j)
            by-end (Some ScheduleUsed) j = absurd (ending-other p (work₀ given k) t 8 j)
            by-end (Some AllOver) j = over AllOver 0 refl j
            by-end (Some NoneAble) j = over NoneAble 1 refl j
            by-end (Some TraceFull) j = over TraceFull 2 refl j

        go : (a f : Bool) → able p outcomes (at given k) (named given k) ≡ a
            → fits room (at given k) (effect given k) ≡ f
            → Turns t lines (turn_by p t g (named given k) step known (comes given k a f))
        go true true i j = (
          omega (arith, r.counted, length-append (at given k).lines (effect given k).lines),
          ready-next given k r l (able-goes p outcomes (at given k) (named given k) i) j work' trace' t'
              (length ((at given k).lines ++ (effect given k).lines)) ((at given k).used + (effect given k).used) known'
              refl refl refl refl holding
              (λ z. moved-goes given k there low work' (others z) (by_itself z) holding refl)
              (λ z.
              subst (λ (marks : List Bool). Idle given work' t' marks) (sym (marks-same z))
              (subst (λ (u : List (List ℕ)). Idle given work' u known.idle)
              (sym (unchanged t trace' lines (length ((at given k).lines ++ (effect given k).lines) - lines) (so z).0))
              (moved-idle given k there low work' (others z) (by_itself z) (so z).2 (unmarked (so z).2)))),
        )
          where
            work' : List ℕ
            work' = encode (effect given k).config ++ rest

            trace' : List ℕ
            trace' = trace_after ((at given k).lines ++ (effect given k).lines) t0

            t' : List (List ℕ)
            t' = holders_after_lines t trace' lines (length ((at given k).lines ++ (effect given k).lines) - lines)

            changed : Bool
            changed = changed_from trace' lines (length ((at given k).lines ++ (effect given k).lines) - lines)

            known' : Knowledge
            known' = unless_changed (known_after_entry p work' (named given k) known step) changed

            count-more : length ((at given k).lines ++ (effect given k).lines) - lines ≡ length (effect given k).lines
            count-more = omega (arith, r.counted, length-append (at given k).lines (effect given k).lines)

            holding : Holding t' ((at given k).lines ++ (effect given k).lines)
            holding =
                subst (λ (x : List (List ℕ)). Holding x ((at given k).lines ++ (effect given k).lines))
                (ap₂ (holders_after_lines t trace') (sym r.counted) (sym count-more))
                (holding-lines t (at given k).lines (effect given k).lines t0 r.table)

            low : named given k < 8
            low =
                ⊎_elim (λ h. absurd (true≢false (sym i ∙ unmade given k (leb-true 8 (named given k) h))))
                (λ h. leb-false 8 (named given k) h) (decide (leb 8 (named given k)))

            unmarked : known.some ≡ true → get_or known.idle (named given k) false ≡ false
            unmarked z =
                ⊎_elim
                (λ m. absurd
                (true≢false
                (sym i ∙ not-able given k r.table (named given k) low (there.idle z (named given k) low m))))
                (λ m. m)
                (decide (get_or known.idle (named given k) false))

            so : known'.some ≡ true
                → (changed ≡ false) × (one_line step ≡ true) × (known.some ≡ true) ×
                (alone p work' (named given k) ≡ true)
            so z = entered_so p work' (named given k) known step changed z

            by_itself : known'.some ≡ true → readiness_op p (part_of work' (named given k)) ≡ Moves
            by_itself z = (alone-so p work' (named given k) (so z).3).1

            marks-same : known'.some ≡ true → known'.idle ≡ known.idle
            marks-same z =
                ap₂
                (λ (x y : Bool). (cond x nothing_known
                (cond y (known_after_step p work' (named given k) known WentOn) nothing_known)).idle) (so z).0 (so z).1

            store-entered :
                (entry_op p outcomes (trace₀ given k) (work₀ given k) room (count₀ given k) (named given k) step m).work
                ≡ work'
            store-entered =
                sym (ap (λ (b : Bool). (cond b (after_entry Unable (trace₀ given k) (work₀ given k))
                (entry_op p outcomes (trace₀ given k) (work₀ given k) room (count₀ given k) (named given k) step m)
                ).work)
                (lt-leb 8 (named given k) low))
                ∙ ap (λ (c : AfterEntry). c.work)
                ((λ x. named_entry_op p outcomes (sym r.written x) (sym r.store x) room
                (record { entry = k; lines = sym r.counted x; used = sym r.drawn x }) (named given k) step m)
                ∙ e)
                ∙ ap₂ (λ (a f : Bool). (comes given k a f).work) i j

            others : known'.some ≡ true → (q : ℕ) → q < 8 → q ≢ named given k
                → part_of work' q ≡ part_of (work₀ given k) q
            others z q h ne =
                ap (λ (w : List ℕ). part_of w q) (sym store-entered)
                ∙ beside p outcomes (trace₀ given k) (work₀ given k) room (count₀ given k) (named given k) step m
                (long given k) low q h ne (so z).1 (ap length store-entered ∙ same-long given k)
        go true false i j = record {
          ends = r.runs ∙ at-full p outcomes room schedule k l (able-goes p outcomes (at given k) (named given k) i) j;
          store = refl;
          written = refl;
          counted = r.counted;
          drawn = r.drawn;
        }
        go false f i j = stay i
