-- What is known of the processes, by what was read and how the tests came out.
use Prim.Native.Nat.{ℕ, ◌≤◌, ◌<◌}
use mathlib.Core.Path.{◌≡◌, refl, sym, ◌∙◌, ap}
use mathlib.Core.Bool.{Bool, true, false, cond, not, true≢false}
use mathlib.Core.List.{List}
use lib.ListN.{replicate}
use lib.Dec.{leb}
use borrow.Author.Tests.{le-leb, lt-leb, leb-false}
use Rattle.lists.proofs.Tests.{took, passed-by, off, on}
use Rattle.run_parts.specs.PartsCode.{part_of}
use Rattle.run_parts.specs.ReadinessCode.{readiness_op, offers_nothing}
use Rattle.run_parts.proofs.Returns.{nothing-alone}
use Rattle.std.specs.Prelude.{None}
use Rattle.run_ability.specs.EndingCode.{ending_op}
use Rattle.run_ability.proofs.Idle.{alone-goes}
use Rattle.run_entry.specs.EntryCode.{one_line}
use Rattle.run_values.specs.ValuesCode.{went_on}
use Rattle.run_values.specs.declared.steps.StepResult.{StepResult}
use Rattle.run_values.specs.declared.steps.StepResult.TheVariants.{WentOn}
use Rattle.run_parts.specs.declared.readiness.Readiness.TheVariants.{Moves}
use Rattle.run_burst.specs.declared.knowledge.Knowledge.{Knowledge}
use Rattle.run_burst.specs.KnowledgeCode.{nothing_known, marked, with_idle, alone, known_after_step, known_after_entry, unless_changed}

-- the marks

module _ (known : Knowledge) (n : ℕ) where
  pub marks-on : {idle : List Bool} → known.some ≡ true → idle ≡ marked known.idle n
      → record { some = true; idle = idle } ≡ with_idle known n
  unfolding with_idle
  marks-on e h = ap with-marks (h ∙ ap (λ (l : List Bool). marked l n) (took _ _ (replicate 8 false) refl e refl))
    where
      with-marks : List Bool → Knowledge
      with-marks l = record { some = true; idle = l }

  pub marks-anew : {idle : List Bool} → known.some ≡ false → idle ≡ marked (replicate 8 false) n
      → record { some = true; idle = idle } ≡ with_idle known n
  unfolding with_idle
  marks-anew e h = ap with-marks (h ∙ ap (λ (l : List Bool). marked l n) (passed-by _ known.idle _ refl e refl))
    where
      with-marks : List Bool → Knowledge
      with-marks l = record { some = true; idle = l }

-- what is known still

module _ (p work : List ℕ) (n : ℕ) (known : Knowledge) (step : StepResult) where
  pub knew-nothing : not known.some ≡ true → known ≡ known_after_step p work n known step
  unfolding known_after_step
  knew-nothing e =
      λ i. record {
        some = passed-by known.some (cond (went_on step) (alone p work n) true) false refl
            (off known.some e) (off known.some e) i;
        idle = known.idle;
      }

  pub no_step : not known.some ≡ false → {x : Bool} → x ≡ went_on step → not x ≡ true
      → known ≡ known_after_step p work n known step
  unfolding known_after_step
  no_step e {x} w h = λ i. record {
    some =
        took known.some (cond (went_on step) (alone p work n) true) false refl (on known.some e)
        (passed-by (went_on step) (alone p work n) true w (off x h) (on known.some e)) i;
    idle = known.idle;
  }

  pub looked-at : not known.some ≡ false → {x : Bool} → x ≡ went_on step → not x ≡ false → {b : Bool}
      → b ≡ alone p work n
      → record { some = b; idle = known.idle } ≡ known_after_step p work n known step
  unfolding known_after_step
  looked-at e {x} w h {b} q = λ i. record {
    some =
        took known.some (cond (went_on step) (alone p work n) true) false refl (on known.some e)
        (took (went_on step) (alone p work n) true w (on x h) q) i;
    idle = known.idle;
  }

-- what is known still was known before, and after a step the process moves on by itself

module _ (p work : List ℕ) (n : ℕ) (known : Knowledge) where
  pub still-some : (step : StepResult) → (known_after_step p work n known step).some ≡ true → known.some ≡ true
  unfolding known_after_step
  still-some step e = go known.some e
    where
      go : (b : Bool) → cond b (cond (went_on step) (alone p work n) true) false ≡ true → b ≡ true
      go true i = refl
      go false i = i

  pub still-alone : (step : StepResult) → went_on step ≡ true → (known_after_step p work n known step).some ≡ true
      → alone p work n ≡ true
  unfolding known_after_step
  still-alone step z e =
      go known.some (sym (ap (λ (x : Bool). cond known.some (cond x (alone p work n) true) false) z) ∙ e)
    where
      go : (b : Bool) → cond b (alone p work n) false ≡ true → alone p work n ≡ true
      go true i = i
      go false i = absurd (true≢false (sym i))

-- a process was looked at

pub beyond-alone : (p work : List ℕ) (n : ℕ) → 8 ≤ n → false ≡ alone p work n
unfolding alone
beyond-alone p work n h = took _ _ _ refl (le-leb 8 n h) refl

pub stand-alone : (p work : List ℕ) (n : ℕ) {b : Bool} → n < 8 → b ≡ offers_nothing p (part_of work n)
    → b ≡ alone p work n
unfolding alone
stand-alone p work n h e = passed-by _ _ _ refl (lt-leb 8 n h) e

-- a process that moves by itself can be, and its readiness says so
pub alone-so : (p work : List ℕ) (n : ℕ) → alone p work n ≡ true
    → (n < 8) × (readiness_op p (part_of work n) ≡ Moves)
unfolding alone
alone-so p work n e = go (leb 8 n) refl e
  where
    go : (b : Bool) → leb 8 n ≡ b → cond b false (offers_nothing p (part_of work n)) ≡ true
        → (n < 8) × (readiness_op p (part_of work n) ≡ Moves)
    go true i h = absurd (true≢false (sym h))
    go false i h = (leb-false 8 n i, nothing-alone p (part_of work n) h)

pub ends-alone : (p work : List ℕ) (t : List (List ℕ)) (n : ℕ) {b : Bool} → b ≡ alone p work n → b ≡ true
    → None ≡ ending_op p work t 8
ends-alone p work t n e h = alone-goes p work t n (alone-so p work n (sym e ∙ h)).0 (alone-so p work n (sym e ∙ h)).1

-- after an entry with lines

module _ (p work : List ℕ) (n : ℕ) (known : Knowledge) (step : StepResult) {b : Bool} (e : b ≡ one_line step) where
  pub one-entered : b ≡ true → {k : Knowledge} → k ≡ known_after_step p work n known WentOn
      → k ≡ known_after_entry p work n known step
  unfolding known_after_entry
  one-entered h q = took _ _ _ e h q

  pub more-entered : b ≡ false → {k : Knowledge} → k ≡ nothing_known → k ≡ known_after_entry p work n known step
  unfolding known_after_entry
  more-entered h q = passed-by _ _ _ e h q

pub forgotten : (known : Knowledge) {changed : Bool} → changed ≡ true → {k : Knowledge} → k ≡ nothing_known
    → k ≡ unless_changed known changed
unfolding unless_changed
forgotten known h q = took _ _ _ refl h q

pub not-forgotten : (known : Knowledge) {changed : Bool} → changed ≡ false → known ≡ unless_changed known changed
unfolding unless_changed
not-forgotten known h = passed-by _ _ _ refl h refl

-- what is known after an entry with lines was known before it
pub entered_so : (p work : List ℕ) (n : ℕ) (known : Knowledge) (step : StepResult) (changed : Bool)
    → (unless_changed (known_after_entry p work n known step) changed).some ≡ true
    → (changed ≡ false) × (one_line step ≡ true) × (known.some ≡ true) × (alone p work n ≡ true)
unfolding unless_changed known_after_entry known_after_step nothing_known went_on
entered_so p work n known step changed z = go changed (one_line step) known.some z
  where
    go : (a b c : Bool)
        → (cond a nothing_known
        (cond b (record { some = cond c (alone p work n) false; idle = known.idle }) nothing_known)).some ≡ true
        → (a ≡ false) × (b ≡ true) × (c ≡ true) × (alone p work n ≡ true)
    go true b c z = absurd (true≢false (sym z))
    go false true true z = (refl, refl, refl, z)
    go false true false z = absurd (true≢false (sym z))
    go false false c z = absurd (true≢false (sym z))
