-- An entry at SEND or RECV, on the words of trace and store. These definitions follow the code; that they are document
-- 01's is proved in proofs/.
use Rattle.std.specs.Prelude.{ℕ, ◌+◌, cond, List, ltb}
use Rattle.run_store.specs.declared.values.Val.{Val}
use Rattle.run_transfer.specs.TransferCode.{met_words}
use Rattle.run_single.specs.declared.result.Count.{Count}
use Rattle.run_single.specs.ResultCode.{AfterEntry, after_entry}
use Rattle.run_single.specs.declared.result.EntryResult.TheVariants.{Unable, Taken, Full}
use Rattle.run_single.specs.SingleCode.{single_op}
use Rattle.run_events.specs.declared.conclude.Single.TheVariants.{Fault}
use Rattle.run_transfer.specs.MeetingLinesCode.{met_written}
use Rattle.run_ability.specs.declared.pairing.Pairing.{Pairing}
use Rattle.run_ability.specs.declared.pairing.Pairing.TheVariants.{NoOffer, Waits, Meets, PartnerGone}

unfoldable pub exchange_op : List ℕ → List ℕ → ℕ → Count → ℕ → ℕ → Val → Val → AfterEntry
exchange_op trace work room g sender receiver e v =
    cond (ltb room (g.lines + 2)) (after_entry Full trace work)
    (after_entry (Taken (g.lines + 2) g.used) (met_written trace g.lines g.entry sender receiver e v)
    (met_words work sender receiver v))

-- by what the offer of process n comes to: "20 .. before all others, and before waiting"; Paper 6: 33 where its partner
-- has gone
unfoldable pub meet_by : List ℕ → List ℕ → List ℕ → List ℕ → ℕ → Count → ℕ → Pairing → AfterEntry
meet_by p outcomes trace work room g n NoOffer = single_op p outcomes trace work room g n (Fault 20)
meet_by p outcomes trace work room g n Waits = after_entry Unable trace work
meet_by p outcomes trace work room g n (Meets m) =
    exchange_op trace work room g m.sender.0 m.receiver.0 m.end m.value
meet_by p outcomes trace work room g n PartnerGone = single_op p outcomes trace work room g n (Fault 33)
