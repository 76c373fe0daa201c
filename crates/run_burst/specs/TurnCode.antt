-- An entry that is no plain step, on the words of trace and store. These definitions follow the code.
use Rattle.std.specs.Prelude.{ℕ, cond, List, get_or, leb, Option, Some, None}
use Rattle.run_values.specs.declared.steps.StepResult.{StepResult}
use Rattle.run_ability.specs.declared.ends.End.{End}
use Rattle.run_ability.specs.declared.ends.End.TheVariants.{TraceFull}
use Rattle.run_ability.specs.EndingCode.{ending_op}
use Rattle.run_ability.specs.declared.pairing.Pairing.{Pairing}
use Rattle.run_single.specs.declared.result.Count.{Count}
use Rattle.run_single.specs.declared.result.EntryResult.{EntryResult}
use Rattle.run_single.specs.declared.result.EntryResult.TheVariants.{Unable, Taken, Full}
use Rattle.run_single.specs.ResultCode.{AfterEntry, after_entry}
use Rattle.run_entry.specs.EntryCode.{entry_op}
use Rattle.run_burst.specs.declared.knowledge.Knowledge.{Knowledge}
use Rattle.run_burst.specs.declared.burst.Burst.{Burst}
use Rattle.run_burst.specs.declared.turn.Turn.{Turn}
use Rattle.run_burst.specs.declared.turn.Turn.TheVariants.{GoesOn, Ends}
use Rattle.run_burst.specs.KnowledgeCode.{with_idle, known_after_entry}

pub record AfterTurn : Type 0 where
  pub turn : Turn
  pub trace : List ℕ
  pub work : List ℕ

abbrev pub after_turn : Turn → List ℕ → List ℕ → AfterTurn
after_turn r t w = record { turn = r; trace = t; work = w }

unfoldable pub named_entry_op : List ℕ → List ℕ → List ℕ → List ℕ → ℕ → Count → ℕ → StepResult → Pairing → AfterEntry
named_entry_op p outcomes trace work room g n step m =
    cond (leb 8 n) (after_entry Unable trace work) (entry_op p outcomes trace work room g n step m)

-- what an entry of a process that cannot move means, by the end that the processes give
unfoldable pub unable_turn : Option End → ℕ → ℕ → Knowledge → Turn
unable_turn None lines used known = GoesOn lines used known
unable_turn (Some e) lines used known = Ends e lines used

-- what an entry that came to this, and left these words, means for the run
unfoldable pub turn_of : List ℕ → List (List ℕ) → Count → ℕ → StepResult → Knowledge → List ℕ → EntryResult → Turn
turn_of p t g n step known work Full = Ends TraceFull g.lines g.used
turn_of p t g n step known work (Taken lines used) = GoesOn lines used (known_after_entry p work n known step)
turn_of p t g n step known work Unable = unable_turn (ending_op p work t 8) g.lines g.used (with_idle known n)

unfoldable pub turn_by : List ℕ → List (List ℕ) → Count → ℕ → StepResult → Knowledge → AfterEntry → AfterTurn
turn_by p t g n step known c = after_turn (turn_of p t g n step known c.work c.result) c.trace c.work

unfoldable pub turn_op : List ℕ → List ℕ → List ℕ → List ℕ → ℕ → List (List ℕ) → Count → ℕ → StepResult → Pairing
    → Knowledge
    → AfterTurn
turn_op p outcomes trace work room t g n step m known =
    turn_by p t g n step known (named_entry_op p outcomes trace work room g n step m)

-- the entry at which a burst has stopped
unfoldable pub turn_at : List ℕ → List ℕ → List ℕ → List ℕ → List ℕ → ℕ → List (List ℕ) → ℕ → ℕ → Burst → AfterTurn
turn_at p schedule outcomes trace work room t lines used b =
    turn_op p outcomes trace work room t (record { entry = b.at; lines = lines; used = used }) (get_or schedule b.at 0)
    b.step b.offer b.known
