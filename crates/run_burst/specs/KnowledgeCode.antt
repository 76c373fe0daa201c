-- What is known of the processes before an entry. These definitions follow the code.
use Rattle.std.specs.Prelude.{ℕ, Bool, true, false, cond, ◌&&◌, List, get_or, set, replicate, leb, ltb}
use Rattle.run_parts.specs.PartsCode.{part_of}
use Rattle.run_parts.specs.ReadinessCode.{offers_nothing}
use Rattle.run_entry.specs.EntryCode.{one_line}
use Rattle.run_burst.specs.declared.knowledge.Knowledge.{Knowledge}
use Rattle.run_values.specs.ValuesCode.{went_on}
use Rattle.run_values.specs.declared.steps.StepResult.{StepResult}
use Rattle.run_values.specs.declared.steps.StepResult.TheVariants.{WentOn}

unfoldable pub nothing_known : Knowledge
nothing_known = record { some = false; idle = replicate 8 false }

-- process n is known not to be able to move, while another is
unfoldable pub is_idle : Knowledge → ℕ → Bool
is_idle known n = known.some && get_or known.idle n false

-- one more such process; the others count only where it was known that some process is able to move
unfoldable pub marked : List Bool → ℕ → List Bool
marked idle n = cond (ltb n 8) (set idle n true) idle

unfoldable pub with_idle : Knowledge → ℕ → Knowledge
with_idle known n = record { some = true; idle = marked (cond known.some known.idle (replicate 8 false)) n }

-- process n runs and stands at no offer, so that it moves by itself
unfoldable pub alone : List ℕ → List ℕ → ℕ → Bool
alone p work n = cond (leb 8 n) false (offers_nothing p (part_of work n))

-- what is known still after an entry with this step: where the process went on, only if it moves on by itself
unfoldable pub known_after_step : List ℕ → List ℕ → ℕ → Knowledge → StepResult → Knowledge
known_after_step p work n known step =
    record { some = cond known.some (cond (went_on step) (alone p work n) true) false; idle = known.idle }

-- an entry with one line is like a step in this; after any other nothing is known
unfoldable pub known_after_entry : List ℕ → List ℕ → ℕ → Knowledge → StepResult → Knowledge
known_after_entry p work n known step = cond (one_line step) (known_after_step p work n known WentOn) nothing_known

-- nor where a line changed a holder
unfoldable pub unless_changed : Knowledge → Bool → Knowledge
unless_changed known changed = cond changed nothing_known known
