-- Entries that write no line, one after the other: a burst from entry k on, by what the step of that entry answered.
use Prim.Native.Nat.{ℕ, suc, ◌+◌, ◌-◌, ◌≤◌, ◌<◌}
use mathlib.Core.Path.{◌≡◌, refl, sym, ◌∙◌, ap}
use mathlib.Core.Logic.{◌≢◌, ◌⊎◌, inl, inr}
use mathlib.Core.Bool.{Bool, true, false, cond, ◌&&◌, not, true≢false}
use mathlib.Core.List.{List}
use native.Mathlib.Omega.{arith}
use lib.ListN.{get_or, length}
use lib.Dec.{eqb}
use borrow.Author.Tests.{eq-eqb, ne_eqb, le-leb, lt-leb}
use Rattle.run_values.specs.ValuesCode.{went_on, not_running, AfterStep, after_step}
use Rattle.run_ops.specs.OpsCode.{step_op}
use Rattle.lists.proofs.Tests.{took, passed-by, off, on}
use Rattle.run_parts.specs.PartsCode.{part_of, on_part}
use Rattle.run_ability.specs.declared.pairing.Pairing.{Pairing}
use Rattle.run_ability.specs.PairingCode.{wait_kind}
use Rattle.run_entry.specs.EntryCode.{offer_at}
use Rattle.run_values.specs.declared.steps.StepResult.{StepResult}
use Rattle.run_values.specs.declared.steps.StepResult.TheVariants.{WentOn, NotRunning}
use Rattle.run_ability.specs.declared.pairing.Pairing.TheVariants.{NoOffer, Waits, Meets, PartnerGone}
use Rattle.run_burst.specs.declared.knowledge.Knowledge.{Knowledge}
use Rattle.run_burst.specs.KnowledgeCode.{is_idle, with_idle, alone, known_after_step}
use Rattle.run_burst.specs.BurstCode.{Stop, stops_at, named_op, is_done, named_before, stops_here, burst_op}

-- the byte names no process, one that is known not to be able to move, or one that steps

module _ (p work : List ℕ) (n : ℕ) (known : Knowledge) where
  pub named_none : 8 ≤ n → after_step NotRunning work ≡ named_op p work n known
  unfolding named_op
  named_none h = took _ _ _ refl (le-leb 8 n h) refl

  pub named-idle : {b : Bool} → n < 8 → b ≡ is_idle known n → b ≡ true
      → after_step NotRunning work ≡ named_op p work n known
  unfolding named_op
  named-idle h e i = passed-by _ _ _ refl (lt-leb 8 n h) (took _ _ _ e i refl)

  pub named-steps : {b : Bool} {d : AfterStep} → n < 8 → b ≡ is_idle known n → b ≡ false
      → d ≡ on_part work n (step_op p (part_of work n))
      → d ≡ named_op p work n known
  unfolding named_op
  named-steps h e i q = passed-by _ _ _ refl (lt-leb 8 n h) (passed-by _ _ _ e i q)

-- what stands before the named process moves

module _ (step : StepResult) (known : Knowledge) {on : Bool} (went : on ≡ went_on step) where
  pub done-step : on ≡ true → true ≡ is_done step known
  unfolding is_done
  done-step h = took _ _ _ went h refl

  pub done-idle : on ≡ false → {over : Bool} → over ≡ not_running step → (over && known.some) ≡ is_done step known
  unfolding is_done
  done-idle h e = passed-by _ _ _ went h (ap (λ (x : Bool). x && known.some) e)

pub before-first : (schedule : List ℕ) (k : ℕ) → k ≡ 0 → 0 ≡ named_before schedule k
unfolding named_before
before-first schedule k h = took _ _ _ refl (eq-eqb k 0 h) refl

pub before-later : (schedule : List ℕ) (k : ℕ) → (k ≡ 0 → ⊥) → get_or schedule (k - 1) 0 ≡ named_before schedule k
unfolding named_before
before-later schedule k h = passed-by _ _ _ refl (ne_eqb k 0 h) refl

module _ (p work schedule : List ℕ) (k : ℕ) (known : Knowledge) {m : Pairing} where
  pub stops-moving : (m ≡ Waits → ⊥) → true ≡ stops_here p work schedule k known m
  unfolding stops_here wait_kind
  stops-moving h = passed-by _ _ _ refl (go m h) refl
    where
      go : (x : Pairing) → (x ≡ Waits → ⊥) → wait_kind x ≡ false
      go NoOffer i = refl
      go Waits i = absurd (i refl)
      go (Meets x) i = refl
      go PartnerGone i = refl

  pub goes-known : m ≡ Waits → known.some ≡ true → false ≡ stops_here p work schedule k known m
  unfolding stops_here wait_kind
  goes-known h e = took _ _ _ refl (ap wait_kind h) (took _ _ _ refl e refl)

  pub goes-seen : m ≡ Waits → known.some ≡ false → {n : ℕ} {b : Bool} → n ≡ named_before schedule k
      → b ≡ alone p work n
      → not b ≡ stops_here p work schedule k known m
  unfolding stops_here wait_kind
  goes-seen h e f g = took _ _ _ refl (ap wait_kind h) (passed-by _ _ _ refl e (ap not (g ∙ ap (alone p work) f)))

-- what the tests say, read back

pub done-so : (step : StepResult) (known : Knowledge) → went_on step ≡ false → is_done step known ≡ true
    → (not_running step ≡ true) × (known.some ≡ true)
unfolding is_done
done-so step known z h = go (went_on step) (not_running step) known.some z h
  where
    go : (a b c : Bool) → a ≡ false → cond a true (b && c) ≡ true → (b ≡ true) × (c ≡ true)
    go true b c i e = absurd (true≢false i)
    go false true c i e = (refl, e)
    go false false c i e = absurd (true≢false (sym e))

is-wait : (k : Pairing) → wait_kind k ≡ true → k ≡ Waits
unfolding wait_kind
is-wait NoOffer e = absurd (true≢false (sym e))
is-wait Waits e = refl
is-wait (Meets m) e = absurd (true≢false (sym e))
is-wait PartnerGone e = absurd (true≢false (sym e))

pub stops_so : (p work schedule : List ℕ) (k : ℕ) (known : Knowledge) (m : Pairing)
    → stops_here p work schedule k known m ≡ false
    → (m ≡ Waits) × ((known.some ≡ true) ⊎ (alone p work (named_before schedule k) ≡ true))
unfolding stops_here
stops_so p work schedule k known m h =
    go (wait_kind m) known.some (alone p work (named_before schedule k)) refl h
  where
    go : (a b c : Bool) → wait_kind m ≡ a → cond a (cond b false (not c)) true ≡ false
        → (m ≡ Waits) × ((b ≡ true) ⊎ (c ≡ true))
    go true true c i e = (is-wait m i, inl refl)
    go true false true i e = (is-wait m i, inr refl)
    go true false false i e = absurd (true≢false e)
    go false b c i e = absurd (true≢false e)

-- a burst whose first entry did this
abbrev burst_by : List ℕ → List (List ℕ) → List ℕ → ℕ → Knowledge → ℕ → AfterStep → Stop
burst_by p t schedule k known left d =
    let n = get_or schedule k 0 in
    let m = offer_at p d.words t n d.result in
    cond (is_done d.result known)
    (burst_op p t schedule d.words (k + 1) (known_after_step p d.words n known d.result) left)
    (cond (stops_here p d.words schedule k known m)
    (stops_at (record { at = k; step = d.result; offer = m; known = known }) d.words)
    (burst_op p t schedule d.words (k + 1) (with_idle known n) left))

module _ (p : List ℕ) (t : List (List ℕ)) (schedule work : List ℕ) (k : ℕ) (known : Knowledge) where
  -- the schedule is used up
  pub burst-ends : length schedule ≤ k → {m : Pairing} → m ≡ NoOffer
      → stops_at (record { at = k; step = WentOn; offer = m; known = known }) work ≡ burst_op p t schedule work k known
      (length schedule - k)
  unfolding burst_op
  burst-ends h e = ap ended e ∙ sym (ap (burst_op p t schedule work k known) none)
    where
      ended : Pairing → Stop
      ended m = stops_at (record { at = k; step = WentOn; offer = m; known = known }) work

      none : length schedule - k ≡ 0
      none = omega (arith, h)

  module _ {step : StepResult} {words : List ℕ} (more : k < length schedule)
      (changed : after_step step words ≡ named_op p work (get_or schedule k 0) known) {done : Bool}
      (tested : done ≡ is_done step known) where
    burst-turn : burst_by p t schedule k known (length schedule - (k + 1)) (after_step step words)
        ≡ burst_op p t schedule work k known (length schedule - k)
    unfolding burst_op
    burst-turn =
        ap (burst_by p t schedule k known (length schedule - (k + 1))) changed
        ∙ sym (ap (burst_op p t schedule work k known) one)
      where
        one : length schedule - k ≡ suc (length schedule - (k + 1))
        one = omega (arith, more)

    -- the entry was over with the step
    pub burst-goes : done ≡ true → {next : Knowledge} → next ≡ known_after_step p words (get_or schedule k 0) known step
        → burst_op p t schedule work k known (length schedule - k) ≡ burst_op p t schedule words (k + 1) next
        (length schedule - (k + 1))
    burst-goes h q =
        sym
        (took _ _ _ tested h
        (ap (λ (x : Knowledge). burst_op p t schedule words (k + 1) x (length schedule - (k + 1))) q)
        ∙ burst-turn)

    module _ (needs : done ≡ false) {m : Pairing} (comes : m ≡ offer_at p words t (get_or schedule k 0) step)
        {stops : Bool} (asked : stops ≡ stops_here p words schedule k known m) where
      asked-so : stops ≡ stops_here p words schedule k known (offer_at p words t (get_or schedule k 0) step)
      asked-so = asked ∙ ap (stops_here p words schedule k known) comes

      -- it needs more
      pub burst-stops : stops ≡ true
          → stops_at (record { at = k; step = step; offer = m; known = known }) words ≡ burst_op p t schedule work k known
          (length schedule - k)
      burst-stops h = passed-by _ _ _ tested needs (took _ _ _ asked-so h (ap here comes)) ∙ burst-turn
        where
          here : Pairing → Stop
          here x = stops_at (record { at = k; step = step; offer = x; known = known }) words

      -- the named process waits
      pub burst-waits : stops ≡ false → {next : Knowledge} → next ≡ with_idle known (get_or schedule k 0)
          → burst_op p t schedule work k known (length schedule - k) ≡ burst_op p t schedule words (k + 1) next
          (length schedule - (k + 1))
      burst-waits h q =
          sym (passed-by _ _ _ tested needs
          (passed-by _ _ _ asked-so h
          (ap (λ (x : Knowledge). burst_op p t schedule words (k + 1) x (length schedule - (k + 1))) q)) ∙ burst-turn)
