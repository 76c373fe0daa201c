-- What an offer comes to, on the words of the store. These definitions follow the code.
use Rattle.std.specs.Prelude.{ℕ, ◌<◌, ◌%◌, Bool, true, false, cond, List}
use Rattle.run_store.specs.declared.values.Val.{Val}
use Rattle.run_values.specs.declared.steps.StepResult.{StepResult}
use Rattle.run_parts.specs.PartsCode.{part_of}
use Rattle.run_holders.specs.HoldersCode.{holder_in}
use Rattle.run_parts.specs.declared.readiness.Readiness.{Readiness}
use Rattle.run_parts.specs.declared.readiness.Readiness.TheVariants.{Idle, Moves, Sends, Receives}
use Rattle.run_parts.specs.ReadinessCode.{over_kind, readiness_op, offer_of, meets_op}
use Rattle.run_ability.specs.declared.pairing.Pairing.{Pairing}
use Rattle.run_ability.specs.declared.pairing.Pairing.TheVariants.{NoOffer, Waits, Meets, PartnerGone}
use Rattle.run_ability.specs.PartnerCode.{opposite_of, is_no_other}

-- an offer waits
unfoldable pub wait_kind : Pairing → Bool
wait_kind NoOffer = false
wait_kind Waits = true
wait_kind (Meets m) = false
wait_kind PartnerGone = false

-- the two of a meeting can be
abbrev pub Near : Pairing → Type 0
Near NoOffer = Unit {0}
Near Waits = Unit {0}
Near (Meets m) = (m.sender.0 < 8) × (m.receiver.0 < 8)
Near PartnerGone = Unit {0}

abbrev pub meeting_of : ℕ → ℕ → Val → Val → Pairing
meeting_of sender receiver e v =
    Meets (record { sender = record { 0 = sender }; receiver = record { 0 = receiver }; end = e; value = v })

-- what process n receives from process q, whose readiness is given
unfoldable pub received_of : ℕ → ℕ → Readiness → Pairing
received_of n q Idle = Waits
received_of n q Moves = Waits
received_of n q (Sends e v) = meeting_of q n e v
received_of n q (Receives e) = Waits

-- process n, whose readiness is a, and process q, whose readiness is b, where the two meet
unfoldable pub paired_of : ℕ → Readiness → ℕ → Readiness → Pairing
paired_of n Idle q b = received_of n q b
paired_of n Moves q b = received_of n q b
paired_of n (Sends e v) q b = meeting_of n q e v
paired_of n (Receives e) q b = received_of n q b

-- the offer a of process n, where the opposite end is held by q
unfoldable pub pair_with : List ℕ → List ℕ → ℕ → Readiness → ℕ → Pairing
pair_with p work n a q =
    cond (is_no_other n q) PartnerGone
    (cond (over_kind (readiness_op p (part_of work q))) PartnerGone
    (cond (meets_op a (readiness_op p (part_of work q))) (paired_of n a q (readiness_op p (part_of work q))) Waits))

unfoldable pub pairing_of : List ℕ → List ℕ → List (List ℕ) → ℕ → Readiness → Pairing
pairing_of p work t n Idle = NoOffer
pairing_of p work t n Moves = NoOffer
pairing_of p work t n (Sends e v) =
    pair_with p work n (Sends e v) (holder_in t (e.number % 65536) (opposite_of e.tag))
pairing_of p work t n (Receives e) =
    pair_with p work n (Receives e) (holder_in t (e.number % 65536) (opposite_of e.tag))

-- the offer of process n, where its step answered that it stands at SEND or RECV
unfoldable pub pairing_op : List ℕ → List ℕ → List (List ℕ) → ℕ → StepResult → Pairing
pairing_op p work t n step = pairing_of p work t n (offer_of (part_of work n) step)
