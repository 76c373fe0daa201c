-- An entry that is no plain step, on the words of trace and store. These definitions follow the code; that they are
-- document 01's entries is proved in proofs/.
use Rattle.std.specs.Prelude.{ℕ, Bool, true, false, cond, ◌&&◌, List, ltb}
use Rattle.run_ability.specs.declared.pairing.Pairing.{Pairing}
use Rattle.run_ability.specs.PairingCode.{pairing_op}
use Rattle.run_ability.specs.declared.pairing.Pairing.TheVariants.{NoOffer, Waits}
use Rattle.run_single.specs.declared.result.Count.{Count}
use Rattle.run_single.specs.ResultCode.{AfterEntry, after_entry}
use Rattle.run_single.specs.declared.result.EntryResult.TheVariants.{Unable}
use Rattle.run_single.specs.SingleCode.{single_op}
use Rattle.run_entry.specs.ForkCode.{fork_op}
use Rattle.run_entry.specs.MeetingCode.{meet_by}
use Rattle.run_values.specs.ValuesCode.{not_running, is_offer}
use Rattle.run_values.specs.declared.steps.StepResult.{StepResult}
use Rattle.run_values.specs.declared.steps.StepResult.TheVariants.{WentOn, NotRunning, AtNewQ, AtNewC, AtGate, AtMeas, AtLastRet, AtFork, AtSend, AtRecv, Empty, FrameBeyond8, OutOfRange}
use Rattle.run_events.specs.declared.conclude.Single.TheVariants.{NewQ, NewC, Gate, Meas, LastRet, Fault}
use Rattle.run_entry.specs.declared.entry.Rest.{Rest}
use Rattle.run_entry.specs.declared.entry.Rest.TheVariants.{Nothing, Fork, Offer, Line}

-- what a step leaves of its entry
unfoldable pub rest_of : StepResult → Rest
rest_of WentOn = Nothing
rest_of NotRunning = Nothing
rest_of AtNewQ = Line NewQ
rest_of AtNewC = Line NewC
rest_of AtGate = Line Gate
rest_of AtMeas = Line Meas
rest_of AtLastRet = Line LastRet
rest_of AtFork = Fork
rest_of AtSend = Offer
rest_of AtRecv = Offer
rest_of Empty = Line (Fault 20)
rest_of FrameBeyond8 = Line (Fault 25)
rest_of OutOfRange = Line (Fault 26)

-- what the offer of the process comes to; one that does not run waits
unfoldable pub offer_at : List ℕ → List ℕ → List (List ℕ) → ℕ → StepResult → Pairing
offer_at p work t n step =
    cond (not_running step) Waits
    (cond (is_offer step && ltb n 8) (pairing_op p work t n step) NoOffer)

unfoldable pub rest_op : List ℕ → List ℕ → List ℕ → List ℕ → ℕ → Count → ℕ → Rest → Pairing → AfterEntry
rest_op p outcomes trace work room g n Nothing m = after_entry Unable trace work
rest_op p outcomes trace work room g n Fork m = fork_op p outcomes trace work room g n
rest_op p outcomes trace work room g n Offer m = meet_by p outcomes trace work room g n m
rest_op p outcomes trace work room g n (Line does) m = single_op p outcomes trace work room g n does

unfoldable pub entry_op : List ℕ → List ℕ → List ℕ → List ℕ → ℕ → Count → ℕ → StepResult → Pairing → AfterEntry
entry_op p outcomes trace work room g n step m = rest_op p outcomes trace work room g n (rest_of step) m

-- the entry has one line, and changes its process's part alone
unfoldable pub is_line : Rest → Bool
is_line Nothing = false
is_line Fork = false
is_line Offer = false
is_line (Line does) = true

unfoldable pub one_line : StepResult → Bool
one_line step = is_line (rest_of step)
