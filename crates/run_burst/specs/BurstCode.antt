-- Entries that write no line, on the words of the store. These definitions follow the code.
use Rattle.std.specs.Prelude.{ℕ, zero, suc, ◌+◌, ◌-◌, ◌≡◌, Bool, true, false, cond, ◌&&◌, not, List, get_or, length, eqb, leb}
use Rattle.run_values.specs.ValuesCode.{AfterStep, after_step, went_on, not_running}
use Rattle.run_values.specs.declared.steps.StepResult.{StepResult}
use Rattle.run_values.specs.declared.steps.StepResult.TheVariants.{WentOn, NotRunning}
use Rattle.run_ops.specs.OpsCode.{step_op}
use Rattle.run_parts.specs.PartsCode.{part_of, on_part}
use Rattle.run_ability.specs.declared.pairing.Pairing.{Pairing}
use Rattle.run_ability.specs.PairingCode.{wait_kind}
use Rattle.run_ability.specs.declared.pairing.Pairing.TheVariants.{NoOffer}
use Rattle.run_entry.specs.EntryCode.{offer_at}
use Rattle.run_burst.specs.declared.burst.Burst.{Burst}
use Rattle.run_burst.specs.declared.knowledge.Knowledge.{Knowledge}
use Rattle.run_burst.specs.KnowledgeCode.{is_idle, with_idle, alone, known_after_step}

-- where a burst stops, and the words that it leaves
pub record Stop : Type 0 where
  pub burst : Burst
  pub words : List ℕ

abbrev pub stops_at : Burst → List ℕ → Stop
stops_at b w = record { burst = b; words = w }

-- one step of process n, not running where no process can have that number, or where it is known not to be able to move
unfoldable pub named_op : List ℕ → List ℕ → ℕ → Knowledge → AfterStep
named_op p work n known =
    cond (leb 8 n) (after_step NotRunning work)
    (cond (is_idle known n) (after_step NotRunning work) (on_part work n (step_op p (part_of work n))))

-- the entry is over with the step: the process went on, or it does not run and some other is known to be able to move
unfoldable pub is_done : StepResult → Knowledge → Bool
is_done step known = cond (went_on step) true (not_running step && known.some)

-- the process that the entry before names
unfoldable pub named_before : List ℕ → ℕ → ℕ
named_before schedule k = cond (eqb k 0) 0 (get_or schedule (k - 1) 0)

-- the named process does not wait, or no other is known or seen to be able to move
unfoldable pub stops_here : List ℕ → List ℕ → List ℕ → ℕ → Knowledge → Pairing → Bool
stops_here p work schedule k known m =
    cond (wait_kind m) (cond known.some false (not (alone p work (named_before schedule k)))) true

unfoldable pub burst_op : List ℕ → List (List ℕ) → List ℕ → List ℕ → ℕ → Knowledge → ℕ → Stop
burst_op p t schedule work k known zero =
    stops_at (record { at = k; step = WentOn; offer = NoOffer; known = known }) work
burst_op p t schedule work k known (suc left) =
    let n = get_or schedule k 0 in
    let d = named_op p work n known in
    let m = offer_at p d.words t n d.result in
    cond (is_done d.result known)
    (burst_op p t schedule d.words (k + 1) (known_after_step p d.words n known d.result) left)
    (cond (stops_here p d.words schedule k known m)
    (stops_at (record { at = k; step = d.result; offer = m; known = known }) d.words)
    (burst_op p t schedule d.words (k + 1) (with_idle known n) left))

-- a burst that starts at entry k with these words stops where one does that starts at entry k' with those
pub record SameBurst (p schedule : List ℕ) (known : Knowledge) (work : List ℕ) (k : ℕ) (work' : List ℕ) (k' : ℕ) : Type
    0 where
  pub same : (t : List (List ℕ)) → burst_op p t schedule work k known (length schedule - k) ≡ burst_op p t schedule work'
      k' known (length schedule - k')
