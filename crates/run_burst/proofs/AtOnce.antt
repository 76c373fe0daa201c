-- Consecutive entries of one process, taken at once.
use Prim.Native.Nat.{ℕ, ◌+◌, ◌-◌, ◌≤◌, ◌<◌}
use mathlib.Core.Path.{◌≡◌, refl, sym, ◌∙◌, ap}
use mathlib.Core.Bool.{Bool, true, false, ◌&&◌, not}
use mathlib.Core.List.{List, ◌++◌}
use native.Mathlib.Omega.{arith}
use lib.ListN.{get_or, length, take, drop}
use lib.Seq.{length-take-le, take_at, drop_at, drop-drop, drop-append-add}
use Rattle.run_values.specs.declared.steps.StepResult.TheVariants.{WentOn}
use Rattle.run_values.specs.ValuesCode.{after_step, went_on}
use Rattle.run_ops.specs.OpsCode.{step_op}
use Rattle.run_parts.specs.PartsCode.{part_at, part_of, with_part, on_part}
use Rattle.run_parts.proofs.Apart.{part_same}
use Rattle.run_stretch.specs.StretchCode.{PlainSteps, begins, goes_on}
use Rattle.run_stretch.proofs.Runs.{part-back}
use Rattle.run_burst.specs.declared.knowledge.Knowledge.{Knowledge}
use Rattle.run_burst.specs.KnowledgeCode.{nothing_known, is_idle, known_after_step}
use Rattle.run_burst.specs.BurstCode.{named_op, burst_op, SameBurst}
use Rattle.run_burst.proofs.Knowing.{knew-nothing}
use Rattle.run_burst.proofs.Steps.{named-steps, done-step, burst-goes}

-- other words in a part, twice
part-twice : (w : List ℕ) → 8192 ≤ length w → (n : ℕ) → n < 8 → (us vs : List ℕ) → length us ≡ 512
    → with_part (with_part w n us) n vs ≡ with_part w n vs
unfolding with_part
part-twice w long n l us vs e =
    let front : length (take (part_at n) w) ≡ part_at n = length-take-le (part_at n) w (omega (arith, l, long)) in
    let rest = drop 512 (drop (part_at n) w) in
    ap (λ (x : List ℕ). x ++ (vs ++ drop 512 (drop (part_at n) (take (part_at n) w ++ (us ++ rest)))))
    (take_at (take (part_at n) w) (us ++ rest) (part_at n) front)
    ∙ ap (λ (x : List ℕ). take (part_at n) w ++ (vs ++ drop 512 x))
    (drop_at (take (part_at n) w) (us ++ rest) (part_at n) front)
    ∙ ap (λ (x : List ℕ). take (part_at n) w ++ (vs ++ x)) (drop_at us rest 512 e)

-- the words beyond the processes' stay
pub beyond-kept : (w : List ℕ) → 8192 ≤ length w → (n : ℕ) → n < 8 → (us : List ℕ) → length us ≡ 512
    → drop 8256 (with_part w n us) ≡ drop 8256 w
unfolding with_part
beyond-kept w long n l us e =
    ap (λ (i : ℕ). drop i (xs ++ (us ++ ws))) {x = 8256} {y = length xs + (length us + m)} (omega (arith, front, e, l))
    ∙ drop-append-add xs (us ++ ws) (length us + m)
    ∙ drop-append-add us ws m
    ∙ drop-drop m 512 (drop (part_at n) w)
    ∙ drop-drop (512 + m) (part_at n) w
    ∙ ap (λ (i : ℕ). drop i w) {x = part_at n + (512 + m)} {y = 8256} (omega (arith, l))
  where
    m : ℕ
    m = 8256 - part_at n - 512

    xs : List ℕ
    xs = take (part_at n) w

    ws : List ℕ
    ws = drop 512 (drop (part_at n) w)

    front : length xs ≡ part_at n
    front = length-take-le (part_at n) w (omega (arith, l, long))

not-idle : (known : Knowledge) (n : ℕ) → known.some ≡ false → false ≡ is_idle known n
unfolding is_idle
not-idle known n e = sym (ap (λ (b : Bool). b && get_or known.idle n false) e)

not_some : (b : Bool) → b ≡ false → not b ≡ true
not_some b e = ap not e

module _ (p schedule work : List ℕ) (long : 8192 ≤ length work) (n : ℕ) (l : n < 8) (known : Knowledge)
    (none : known.some ≡ false) where
  -- one more of them
  one-taken : (t : List (List ℕ)) (k : ℕ) (w w' : List ℕ) → k < length schedule → get_or schedule k 0 ≡ n → length w ≡ 512
      → step_op p w ≡ after_step WentOn w'
      → burst_op p t schedule (with_part work n w) k known (length schedule - k) ≡ burst_op p t schedule (with_part work n
      w') (k + 1) known (length schedule - (k + 1))
  unfolding on_part went_on
  one-taken t k w w' h e s q =
      burst-goes p t schedule (with_part work n w) k known {step = WentOn} {words = with_part work n w'} h stepped
      (done-step WentOn known refl refl) refl
      (knew-nothing p (with_part work n w') (get_or schedule k 0) known WentOn (not_some known.some none))
    where
      done : on_part (with_part work n w) n (step_op p (part_of (with_part work n w) n)) ≡ after_step WentOn (with_part work n
          w')
      done =
          ap (λ (u : List ℕ). on_part (with_part work n w) n (step_op p u)) (part-back work long n l w s)
          ∙ ap (on_part (with_part work n w) n) q
          ∙ ap (after_step WentOn) (part-twice work long n l w w' s)

      stepped : after_step WentOn (with_part work n w') ≡ named_op p (with_part work n w) (get_or schedule k 0) known
      stepped =
          named-steps p (with_part work n w) n known l (not-idle known n none) refl (sym done)
          ∙ ap (λ (m : ℕ). named_op p (with_part work n w) m known) (sym e)

  steps-taken : (t : List (List ℕ)) {from k : ℕ} {w : List ℕ} → PlainSteps p schedule n from (part_of work n) k w
      → burst_op p t schedule work from known (length schedule - from) ≡ burst_op p t schedule (with_part work n w) k
      known (length schedule - k)
  steps-taken t {from} begins =
      ap (λ (u : List ℕ). burst_op p t schedule u from known (length schedule - from)) (sym (part_same work n))
  steps-taken t (goes_on {k} {w} {w'} r h e s s' q) = steps-taken t r ∙ one-taken t k w w' h e s q

  pub taken : {from k : ℕ} {work' : List ℕ} → PlainSteps p schedule n from (part_of work n) k (part_of work' n)
      → work' ≡ with_part work n (part_of work' n)
      → SameBurst p schedule known work from work' k
  taken {from} {k} {work'} r e = record {
    same = λ t. steps-taken t r ∙ ap (λ (u : List ℕ). burst_op p t schedule u k known (length schedule - k)) (sym e);
  }

-- what was reached has as many words as a part
pub reached-long : {p schedule : List ℕ} {n from k : ℕ} {w₀ w : List ℕ} → length w₀ ≡ 512
    → PlainSteps p schedule n from w₀ k w → length w ≡ 512
reached-long e begins = e
reached-long e (goes_on r h i s s' q) = s'

pub none-taken : {p schedule work : List ℕ} {known : Knowledge} {k : ℕ} → SameBurst p schedule known work k work k
none-taken = record { same = λ t. refl }

pub nothing-some : nothing_known.some ≡ false
unfolding nothing_known
nothing-some = refl
