-- A burst: entries that write no line, one after the other, and the entry at which they stop.
use Prim.Native.Nat.{ℕ, zero, suc, ◌+◌, ◌-◌, ◌<◌}
use mathlib.Core.Path.{◌≡◌, refl, sym, ◌∙◌, ap, ap₂, subst}
use mathlib.Core.Logic.{◌≢◌, ◌⊎◌, inl, inr, ⊎_elim}
use mathlib.Core.Bool.{Bool, true, false, cond, ◌&&◌}
use mathlib.Core.List.{List, ◌++◌, append-nil}
use native.Mathlib.Omega.{arith}
use lib.ListN.{get_or, length}
use lib.Dec.{leb}
use borrow.Author.Tests.{leb-true, leb-false}
use Rattle.machine.specs.State.{Line}
use Rattle.machine.specs.Entry.{able}
use Rattle.machine.proofs.Steps.{ending}
use Rattle.run_values.specs.ValuesCode.{went_on, not_running, AfterStep, after_step}
use Rattle.run_values.specs.declared.steps.StepResult.{StepResult}
use Rattle.run_values.specs.declared.steps.StepResult.TheVariants.{NotRunning}
use Rattle.run_ops.specs.OpsCode.{step_op}
use Rattle.run_parts.specs.PartsCode.{part_of, with_part, on_part}
use Rattle.run_parts.proofs.Apart.{part-kept, part-other}
use Rattle.run_parts.specs.ReadinessCode.{readiness_op}
use Rattle.run_holders.proofs.Holding.{Holding}
use Rattle.run_ability.specs.declared.pairing.Pairing.{Pairing}
use Rattle.run_ability.specs.PairingCode.{Near}
use Rattle.run_ability.specs.EndingCode.{end_or_none}
use Rattle.run_ability.proofs.Able.{ending-is}
use Rattle.run_entry.specs.EntryCode.{offer_at}
use Rattle.run_entry.proofs.Paired.{over-waits, offer-near}
use Rattle.run_parts.specs.declared.readiness.Readiness.TheVariants.{Moves}
use Rattle.run_ability.specs.declared.pairing.Pairing.TheVariants.{Waits}
use Rattle.run_burst.specs.declared.knowledge.Knowledge.{Knowledge}
use Rattle.run_burst.specs.KnowledgeCode.{is_idle, with_idle, alone, known_after_step}
use Rattle.run_burst.specs.BurstCode.{Stop, stops_at, named_op, is_done, named_before, stops_here, burst_op}
use Rattle.run_burst.specs.TurnCode.{named_entry_op}
use Rattle.run_burst.proofs.Knowing.{alone-so, ends-alone, still-some, still-alone}
use Rattle.run_burst.proofs.Steps.{done-so, stops_so}
use Rattle.run_schedule.proofs.Ready.{Inputs, Stands, at, Idle, Ready, reached, owned, named, ready-plain, ready-idle, trace₀, work₀, count₀, comes_to, Stepped, Stopped, far-law, near-law, ready-as, ready-there, entry-as, idle-unable, known-idle, idle-more, long, same-long, moved-idle, moved-goes}

module _ {p schedule outcomes t0 rest : List ℕ} {room : ℕ} (given : Inputs p schedule outcomes t0 rest room) where
  module _ (k : ℕ) where
    -- a step leaves the idle processes idle

    module _ {t : List (List ℕ)} {known : Knowledge} (r : Stands given k t known)
        (d : AfterStep) (x : Stepped given k d) (low : named given k < 8) (ws : List ℕ)
        (words : d.words ≡ with_part (work₀ given k) (named given k) ws)
        (by_itself : readiness_op p (part_of d.words (named given k)) ≡ Moves) where
      other : (q : ℕ) → q < 8 → q ≢ named given k → part_of d.words q ≡ part_of (work₀ given k) q
      other q h ne =
          ap (λ (w : List ℕ). part_of w q) words
          ∙ part-other (work₀ given k) (long given k) (named given k) q ws low h ne
          (part-kept (work₀ given k) (long given k) (named given k) ws low
          (sym (ap length words) ∙ ap length x.words ∙ same-long given k))

      stepped-idle : known.some ≡ true → is_idle known (named given k) ≡ false → Idle given d.words t known.idle
      unfolding is_idle
      stepped-idle i free =
          moved-idle given k r low d.words other by_itself i
          (sym (ap (λ (b : Bool). b && get_or known.idle (named given k) false) i) ∙ free)

      stepped-goes : ending p outcomes (at given (suc k)) ≡ 0
      stepped-goes =
          moved-goes given k r low d.words other by_itself
          (subst (Holding t)
          (sym (ap (λ (ls : List Line). (at given k).lines ++ ls) x.lines ∙ append-nil (at given k).lines))
          r.table) x.words

    -- an entry of a burst: it is over with the step, the named process waits, or the rest of the entry does all

    record Done (t : List (List ℕ)) (known : Knowledge) (d : AfterStep) : Type 0 where
      done : is_done d.result known ≡ true
      ready :
          Ready given (suc k) d.words (trace₀ given k) t (length (at given k).lines) (at given k).used
          (known_after_step p d.words (named given k) known d.result)

    abbrev offered : List (List ℕ) → AfterStep → Pairing
    offered t d = offer_at p d.words t (named given k) d.result

    record Idles (t : List (List ℕ)) (known : Knowledge) (d : AfterStep) : Type 0 where
      more : is_done d.result known ≡ false
      goes : stops_here p d.words schedule k known (offered t d) ≡ false
      ready :
          Ready given (suc k) d.words (trace₀ given k) t (length (at given k).lines) (at given k).used
          (with_idle known (named given k))

    record Held (t : List (List ℕ)) (known : Knowledge) (d : AfterStep) : Type 0 where
      more : is_done d.result known ≡ false
      stops : stops_here p d.words schedule k known (offered t d) ≡ true
      words : d.words ≡ work₀ given k
      entered :
          named_entry_op p outcomes (trace₀ given k) (work₀ given k) room (count₀ given k) (named given k) d.result
          (offered t d) ≡ comes_to given k

    abbrev Passes : List (List ℕ) → Knowledge → AfterStep → Type 0
    Passes t known d = Done t known d ⊎ (Idles t known d ⊎ Held t known d)

    module _ {t : List (List ℕ)} {known : Knowledge} (r : Stands given k t known)
        (l : k < length schedule) where
      pass-idle : (d : AfterStep) → went_on d.result ≡ false → not_running d.result ≡ true
          → d.words ≡ work₀ given k → known.some ≡ true
          → able p outcomes (at given k) (named given k) ≡ false → Done t known d
      unfolding known_after_step is_done
      pass-idle d c o w i a = record {
        done = λ x. cond (c x) true (o x && i x);
        ready =
            ready-as given (suc k)
            (ready-idle given k r l a (r.sure i) (known_after_step p d.words (named given k) known d.result)
            (λ j. r.idle i)) w refl refl refl;
      }

      pass_step : named given k < 8 → is_idle known (named given k) ≡ false
          → Stepped given k (on_part (work₀ given k) (named given k) (step_op p (part_of (work₀ given k) (named given k))))
          → Done t known (on_part (work₀ given k) (named given k) (step_op p (part_of (work₀ given k) (named given k))))
      unfolding known_after_step alone on_part is_done went_on
      pass_step low free x = record {
        done = ap (λ (r : StepResult). is_done r known) x.result;
        ready =
            ready-plain given k r l x.can x.lines x.used d.words x.words
            (known_after_step p d.words (named given k) known d.result)
            (λ i. stepped-goes r d x low ws refl (by_itself i))
            (λ i. stepped-idle r d x low ws refl (by_itself i)
            (still-some p d.words (named given k) known d.result i) free);
      }
        where
          d : AfterStep
          d = on_part (work₀ given k) (named given k) (step_op p (part_of (work₀ given k) (named given k)))

          ws : List ℕ
          ws = (step_op p (part_of (work₀ given k) (named given k))).words

          by_itself : (known_after_step p d.words (named given k) known d.result).some ≡ true
              → readiness_op p (part_of d.words (named given k)) ≡ Moves
          by_itself i =
              (alone-so p d.words (named given k)
              (still-alone p d.words (named given k) known d.result (ap went_on x.result) i)).1

      -- the run goes on where some process is known, or seen, to be able to move
      goes_so : (n : ℕ) → (known.some ≡ true) ⊎ (alone p (work₀ given k) n ≡ true) → ending p outcomes (at given k) ≡ 0
      unfolding end_or_none
      goes_so n g =
          ⊎_elim r.sure
          (λ a. sym (ap end_or_none (ends-alone p (work₀ given k) t n refl a)
          ∙ ending-is (reached given k) rest (owned given k) t r.table))
          g

      hold : (d : AfterStep) → Stopped given k t d → Passes t known d
      hold d x = over (is_done d.result known) refl
        where
          entry-there :
              named_entry_op p outcomes (trace₀ given k) (work₀ given k) room (count₀ given k) (named given k) d.result
              (offered t d) ≡ comes_to given k
          entry-there =
              ap
              (λ (w : List ℕ). named_entry_op p outcomes (trace₀ given k) (work₀ given k) room (count₀ given k)
              (named given k) d.result (offer_at p w t (named given k) d.result)) x.words
              ∙ x.entered

          waits : offered t d ≡ Waits → able p outcomes (at given k) (named given k) ≡ false
          waits e =
              idle-unable given k t d.result
              (sym (ap (λ (w : List ℕ). offer_at p w t (named given k) d.result) x.words) ∙ e) x.entered

          rests : is_done d.result known ≡ false → (b : Bool)
              → stops_here p d.words schedule k known (offered t d) ≡ b → Idles t known d ⊎ Held t known d
          rests more true s = inr (record { more = more; stops = s; words = x.words; entered = entry-there })
          rests more false s =
              let so = stops_so p d.words schedule k known (offered t d) s in
              let a = waits so.0 in
              inl (record {
                more = more;
                goes = s;
                ready =
                    ready-as given (suc k)
                    (ready-idle given k r l a
                    (goes_so (named_before schedule k)
                    (subst (λ (w : List ℕ). (known.some ≡ true) ⊎ (alone p w (named_before schedule k) ≡ true))
                    x.words so.1))
                    (with_idle known (named given k)) (λ i. idle-more given k r a))
                    x.words refl refl refl;
              })

          over : (b : Bool) → is_done d.result known ≡ b → Passes t known d
          over true e =
              let so = done-so d.result known x.result e in
              inl
              (pass-idle d x.result so.0 x.words so.1
              (waits (over-waits p d.words t (named given k) d.result so.0)))
          over false e = inr (rests e (stops_here p d.words schedule k known (offered t d)) refl)

      plain-law : Passes t known (named_op p (work₀ given k) (named given k) known)
      unfolding named_op went_on not_running
      plain-law = go (leb 8 (named given k)) (is_idle known (named given k)) refl refl
        where
          steps : AfterStep
          steps = on_part (work₀ given k) (named given k) (step_op p (part_of (work₀ given k) (named given k)))

          go : (a b : Bool) → leb 8 (named given k) ≡ a → is_idle known (named given k) ≡ b
              → Passes t known (cond a (after_step NotRunning (work₀ given k))
              (cond b (after_step NotRunning (work₀ given k)) steps))
          go true b i j = hold (after_step NotRunning (work₀ given k)) (far-law given k r (leb-true 8 (named given k) i))
          go false true i j =
              let Known-so = known-idle given k r (leb-false 8 (named given k) i) j in
              inl (pass-idle (after_step NotRunning (work₀ given k)) refl refl refl Known-so.0 Known-so.1)
          go false false i j =
              ⊎_elim (λ x. inl (pass_step (leb-false 8 (named given k) i) j x)) (hold steps)
              (near-law given k r (leb-false 8 (named given k) i))

  -- plain steps and idle entries, up to the entry at which they stop

  pub record Burst-good (trace : List ℕ) (t : List (List ℕ)) (lines used : ℕ) (b : Stop) : Type 0 where
    pub ready : Ready given b.burst.at b.words trace t lines used b.burst.known
    pub near : Near b.burst.offer
    pub entered : b.burst.at < length schedule
        → named_entry_op p outcomes trace b.words room (record { entry = b.burst.at; lines = lines; used = used })
        (get_or schedule b.burst.at 0) b.burst.step b.burst.offer
        ≡ comes_to given b.burst.at

  pub burst-law : (left k : ℕ) {work trace : List ℕ} {t : List (List ℕ)} {lines used : ℕ} {known : Knowledge}
      → left ≡ length schedule - k → Ready given k work trace t lines used known
      → Burst-good trace t lines used (burst_op p t schedule work k known left)
  unfolding burst_op
  burst-law zero k e r =
      record { ready = r; near = tt; entered = λ l. absurd (omega (arith, l, e)) }
  burst-law (suc left) k {work} {trace} {t} {lines} {used} {known} e r =
      subst (λ (w : List ℕ). Burst-good trace t lines used (burst_op p t schedule w k known (suc left))) (sym r.store)
      (⊎_elim (λ x. done x (burst-law left (suc k) less (goes-there x.ready)))
      (⊎_elim (λ x. waits x (burst-law left (suc k) less (goes-there x.ready))) held)
      (plain-law k (ready-there given k r) l))
    where
      l : k < length schedule
      l = omega (arith, e)

      d : AfterStep
      d = named_op p (work₀ given k) (named given k) known

      m : Pairing
      m = offer_at p d.words t (named given k) d.result

      here : Stop
      here = stops_at (record { at = k; step = d.result; offer = m; known = known }) d.words

      rest_of : Knowledge → ℕ → Stop
      rest_of x i = burst_op p t schedule d.words i x left

      stops : Bool
      stops = stops_here p d.words schedule k known m

      steps : Bool → Bool → Stop
      steps a b =
          cond a (rest_of (known_after_step p d.words (named given k) known d.result) (k + 1))
          (cond b here (rest_of (with_idle known (named given k)) (k + 1)))

      less : left ≡ length schedule - suc k
      less = omega (arith, e)

      goes-there : {x : Knowledge}
          → Ready given (suc k) d.words (trace₀ given k) t (length (at given k).lines) (at given k).used x
          → Ready given (suc k) d.words trace t lines used x
      goes-there y = ready-as given (suc k) y refl r.written r.counted r.drawn

      further : (x : Knowledge) → Burst-good trace t lines used (rest_of x (suc k))
          → Burst-good trace t lines used (rest_of x (k + 1))
      further x g =
          subst (λ (i : ℕ). Burst-good trace t lines used (rest_of x i)) {x = suc k} {y = k + 1} (omega arith) g

      done : Done k t known d
          → Burst-good trace t lines used
          (rest_of (known_after_step p d.words (named given k) known d.result) (suc k))
          → Burst-good trace t lines used (steps (is_done d.result known) stops)
      done x g =
          subst (Burst-good trace t lines used) (sym (ap (λ (a : Bool). steps a stops) x.done))
          (further (known_after_step p d.words (named given k) known d.result) g)

      waits : Idles k t known d → Burst-good trace t lines used (rest_of (with_idle known (named given k)) (suc k))
          → Burst-good trace t lines used (steps (is_done d.result known) stops)
      waits x g =
          subst (Burst-good trace t lines used) (sym (ap₂ steps x.more x.goes))
          (further (with_idle known (named given k)) g)

      held : Held k t known d → Burst-good trace t lines used (steps (is_done d.result known) stops)
      held x = subst (Burst-good trace t lines used) (sym (ap₂ steps x.more x.stops)) good
        where
          there : Ready given k d.words trace t lines used known
          there = ready-as given k r (x.words ∙ sym r.store) refl refl refl

          good : Burst-good trace t lines used here
          good = record {
            ready = there;
            near = offer-near p d.words t (named given k) d.result;
            entered = λ i. entry-as given k there d.result m x.entered;
          }
