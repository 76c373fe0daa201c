-- An entry at SEND or RECV, said by the partner in place of what the offer comes to.
use Prim.Native.Nat.{ℕ, ◌%◌, ◌<◌}
use mathlib.Core.Path.{◌≡◌, refl, sym, ◌∙◌, ap}
use mathlib.Core.Bool.{Bool, true, false, cond, not, ◌&&◌, ◌||◌, true≢false}
use mathlib.Core.List.{List}
use native.Mathlib.Omega.{arith}
use lib.Dec.{eqb, leb, ltb}
use borrow.Author.Tests.{eqb-true, ltb-true, leb-false}
use Rattle.lists.proofs.Tests.{cond_both, cond-each}
use Rattle.run_parts.specs.PartsCode.{part_of}
use Rattle.run_holders.specs.HoldersCode.{holder_in}
use Rattle.run_parts.specs.declared.readiness.Readiness.{Readiness}
use Rattle.run_parts.specs.declared.readiness.Readiness.TheVariants.{Idle, Moves, Sends, Receives}
use Rattle.run_parts.specs.ReadinessCode.{over_kind, end_offered, readiness_op, offer_of, meets_op}
use Rattle.run_ability.specs.declared.pairing.Pairing.{Pairing}
use Rattle.run_ability.specs.PartnerCode.{opposite_of, Partner, waits, gone, ready, is_no_other, ready_op, partner_op}
use Rattle.run_ability.specs.PairingCode.{Near, wait_kind, received_of, paired_of, pair_with, pairing_of, pairing_op}
use Rattle.run_single.specs.declared.result.Count.{Count}
use Rattle.run_single.specs.ResultCode.{AfterEntry, after_entry}
use Rattle.run_single.specs.declared.result.EntryResult.TheVariants.{Unable}
use Rattle.run_single.specs.SingleCode.{single_op}
use Rattle.run_values.specs.ValuesCode.{not_running, is_offer}
use Rattle.run_values.specs.declared.steps.StepResult.{StepResult}
use Rattle.run_values.specs.declared.steps.StepResult.TheVariants.{WentOn, NotRunning, AtNewQ, AtNewC, AtGate, AtMeas, AtLastRet, AtFork, AtSend, AtRecv, Empty, FrameBeyond8, OutOfRange}
use Rattle.run_events.specs.declared.conclude.Single.TheVariants.{Fault}
use Rattle.run_ability.specs.declared.pairing.Pairing.TheVariants.{NoOffer, Waits, PartnerGone}
use Rattle.run_entry.specs.declared.entry.Rest.{Rest}
use Rattle.run_entry.specs.declared.entry.Rest.TheVariants.{Nothing, Fork, Offer, Line}
use Rattle.run_entry.specs.MeetingCode.{exchange_op, meet_by}
use Rattle.run_entry.specs.EntryCode.{rest_of, offer_at, rest_op, entry_op}

-- what process n receives from process q, whose readiness is given
unfoldable pub receive_by : List ℕ → List ℕ → ℕ → Count → ℕ → ℕ → Readiness → AfterEntry
receive_by trace work room g n q Idle = after_entry Unable trace work
receive_by trace work room g n q Moves = after_entry Unable trace work
receive_by trace work room g n q (Sends e v) = exchange_op trace work room g q n e v
receive_by trace work room g n q (Receives e) = after_entry Unable trace work

unfoldable pub pair_by : List ℕ → List ℕ → ℕ → Count → ℕ → Readiness → ℕ → Readiness → AfterEntry
pair_by trace work room g n Idle q b = receive_by trace work room g n q b
pair_by trace work room g n Moves q b = receive_by trace work room g n q b
pair_by trace work room g n (Sends e v) q b = exchange_op trace work room g n q e v
pair_by trace work room g n (Receives e) q b = receive_by trace work room g n q b

unfoldable pub pair_op : List ℕ → List ℕ → List ℕ → ℕ → Count → ℕ → Readiness → ℕ → AfterEntry
pair_op p trace work room g n a q = pair_by trace work room g n a q (readiness_op p (part_of work q))

unfoldable pub join_op : List ℕ → List ℕ → List ℕ → List ℕ → ℕ → Count → ℕ → Readiness → Partner → AfterEntry
join_op p outcomes trace work room g n a waits = after_entry Unable trace work
join_op p outcomes trace work room g n a gone = single_op p outcomes trace work room g n (Fault 33)
join_op p outcomes trace work room g n a (ready q) = pair_op p trace work room g n a q

unfoldable pub offer_op : List ℕ → List ℕ → List ℕ → List ℕ → ℕ → List (List ℕ) → Count → ℕ → Readiness → AfterEntry
offer_op p outcomes trace work room t g n a = join_op p outcomes trace work room g n a (partner_op p work t n a)

unfoldable pub stands_op : List ℕ → List ℕ → List ℕ → List ℕ → ℕ → List (List ℕ) → Count → ℕ → Readiness → AfterEntry
stands_op p outcomes trace work room t g n Idle = single_op p outcomes trace work room g n (Fault 20)
stands_op p outcomes trace work room t g n Moves = single_op p outcomes trace work room g n (Fault 20)
stands_op p outcomes trace work room t g n (Sends e v) = offer_op p outcomes trace work room t g n (Sends e v)
stands_op p outcomes trace work room t g n (Receives e) = offer_op p outcomes trace work room t g n (Receives e)

unfoldable pub meet_op : List ℕ → List ℕ → List ℕ → List ℕ → ℕ → List (List ℕ) → Count → ℕ → AfterEntry
meet_op p outcomes trace work room t g n = stands_op p outcomes trace work room t g n (readiness_op p (part_of work n))

module _ (p outcomes trace work : List ℕ) (room : ℕ) (t : List (List ℕ)) (g : Count) (n : ℕ) where
  abbrev meets : Pairing → AfterEntry
  meets = meet_by p outcomes trace work room g n

  received_same : (q : ℕ) (b : Readiness) → meets (received_of n q b) ≡ receive_by trace work room g n q b
  unfolding meet_by received_of receive_by
  received_same q Idle = refl
  received_same q Moves = refl
  received_same q (Sends e v) = refl
  received_same q (Receives e) = refl

  paired_same : (a : Readiness) (q : ℕ) (b : Readiness) → meets (paired_of n a q b) ≡ pair_by trace work room g n a q b
  unfolding meet_by paired_of pair_by
  paired_same Idle q b = received_same q b
  paired_same Moves q b = received_same q b
  paired_same (Sends e v) q b = refl
  paired_same (Receives e) q b = received_same q b

  with-holder : (a : Readiness) (q : ℕ)
      → meets (pair_with p work n a q) ≡ join_op p outcomes trace work room g n a (ready_op p work n a q)
  unfolding meet_by pair_with join_op pair_op ready_op
  with-holder a q =
      go (is_no_other n q) (over_kind (readiness_op p (part_of work q))) (meets_op a (readiness_op p (part_of work q)))
    where
      go : (x y z : Bool)
          → meets
          (cond x PartnerGone
          (cond y PartnerGone (cond z (paired_of n a q (readiness_op p (part_of work q))) Waits)))
          ≡ join_op p outcomes trace work room g n a (cond x gone (cond y gone (cond z (ready q) waits)))
      go true y z = refl
      go false true z = refl
      go false false true = paired_same a q (readiness_op p (part_of work q))
      go false false false = refl

  stands_same : (a : Readiness) → meets (pairing_of p work t n a) ≡ stands_op p outcomes trace work room t g n a
  unfolding meet_by pairing_of stands_op offer_op partner_op end_offered
  stands_same Idle = refl
  stands_same Moves = refl
  stands_same (Sends e v) = with-holder (Sends e v) (holder_in t (e.number % 65536) (opposite_of e.tag))
  stands_same (Receives e) = with-holder (Receives e) (holder_in t (e.number % 65536) (opposite_of e.tag))

  pub meet-same : {a : Readiness} → a ≡ readiness_op p (part_of work n)
      → meets (pairing_of p work t n a) ≡ meet_op p outcomes trace work room t g n
  unfolding meet_op
  meet-same e = ap (λ (x : Readiness). meets (pairing_of p work t n x)) e ∙ stands_same (readiness_op p (part_of work n))

-- only what is left of an offer, or nothing, waits
abbrev MayWait : Rest → Type 0
MayWait Nothing = Unit {0}
MayWait Fork = ⊥
MayWait Offer = Unit {0}
MayWait (Line does) = ⊥

no-wait : NoOffer ≡ Waits → ⊥
unfolding wait_kind
no-wait e = true≢false (sym (ap wait_kind e))

left-waits : (p work : List ℕ) (t : List (List ℕ)) (n : ℕ) (step : StepResult) → offer_at p work t n step ≡ Waits
    → MayWait (rest_of step)
unfolding offer_at rest_of not_running is_offer
left-waits p work t n WentOn h = tt
left-waits p work t n NotRunning h = tt
left-waits p work t n AtNewQ h = absurd (no-wait h)
left-waits p work t n AtNewC h = absurd (no-wait h)
left-waits p work t n AtGate h = absurd (no-wait h)
left-waits p work t n AtMeas h = absurd (no-wait h)
left-waits p work t n AtLastRet h = absurd (no-wait h)
left-waits p work t n AtFork h = absurd (no-wait h)
left-waits p work t n AtSend h = tt
left-waits p work t n AtRecv h = tt
left-waits p work t n Empty h = absurd (no-wait h)
left-waits p work t n FrameBeyond8 h = absurd (no-wait h)
left-waits p work t n OutOfRange h = absurd (no-wait h)

-- a process whose offer comes to waiting stays, whatever its step answered
pub waiting_stays : (p outcomes trace work : List ℕ) (room : ℕ) (t : List (List ℕ)) (g : Count) (n : ℕ)
    (step : StepResult)
    → offer_at p work t n step ≡ Waits
    → entry_op p outcomes trace work room g n step (offer_at p work t n step) ≡ after_entry Unable trace work
unfolding entry_op rest_op meet_by
waiting_stays p outcomes trace work room t g n step h =
    go (rest_of step) (offer_at p work t n step) h (left-waits p work t n step h)
  where
    stay : AfterEntry
    stay = after_entry Unable trace work

    go : (r : Rest) (m : Pairing) → m ≡ Waits → MayWait r → rest_op p outcomes trace work room g n r m ≡ stay
    go Nothing m e w = refl
    go Fork m e w = absurd w
    go Offer m e w = ap (meet_by p outcomes trace work room g n) e
    go (Line does) m e w = absurd w

pub over-waits : (p work : List ℕ) (t : List (List ℕ)) (n : ℕ) (step : StepResult) → not_running step ≡ true
    → offer_at p work t n step ≡ Waits
unfolding offer_at
over-waits p work t n step e =
    ap (λ (b : Bool). cond b Waits
    (cond (is_offer step && ltb n 8) (pairing_op p work t n step) NoOffer)) e

-- the two of a meeting can be

received-near : (n q : ℕ) (b : Readiness) → n < 8 → q < 8 → Near (received_of n q b)
unfolding received_of
received-near n q Idle h l = tt
received-near n q Moves h l = tt
received-near n q (Sends e v) h l = (l, h)
received-near n q (Receives e) h l = tt

paired-near : (n : ℕ) (a : Readiness) (q : ℕ) (b : Readiness) → n < 8 → q < 8 → Near (paired_of n a q b)
unfolding paired_of
paired-near n Idle q b h l = received-near n q b h l
paired-near n Moves q b h l = received-near n q b h l
paired-near n (Sends e v) q b h l = (h, l)
paired-near n (Receives e) q b h l = received-near n q b h l

with-near : (p work : List ℕ) (n : ℕ) (a : Readiness) (q : ℕ) → n < 8 → Near (pair_with p work n a q)
unfolding pair_with is_no_other
with-near p work n a q h = other (eqb q n) (leb 8 q) refl
  where
    b : Readiness
    b = readiness_op p (part_of work q)

    other : (x y : Bool) → leb 8 q ≡ y
        → Near
        (cond (x || y) PartnerGone
        (cond (over_kind b) PartnerGone (cond (meets_op a b) (paired_of n a q b) Waits)))
    other true y i = tt
    other false true i = tt
    other false false i =
        cond_both Near (over_kind b) tt
        (cond_both Near (meets_op a b) (paired-near n a q b h (leb-false 8 q i)) tt)

pairs-near : (p work : List ℕ) (t : List (List ℕ)) (n : ℕ) (a : Readiness) → n < 8 → Near (pairing_of p work t n a)
unfolding pairing_of
pairs-near p work t n Idle h = tt
pairs-near p work t n Moves h = tt
pairs-near p work t n (Sends e v) h =
    with-near p work n (Sends e v) (holder_in t (e.number % 65536) (opposite_of e.tag)) h
pairs-near p work t n (Receives e) h =
    with-near p work n (Receives e) (holder_in t (e.number % 65536) (opposite_of e.tag)) h

pub offer-near : (p work : List ℕ) (t : List (List ℕ)) (n : ℕ) (step : StepResult) → Near (offer_at p work t n step)
unfolding offer_at pairing_op
offer-near p work t n step = cond_both Near (not_running step) tt (paired (ltb n 8) refl)
  where
    paired : (x : Bool) → ltb n 8 ≡ x → Near (cond (is_offer step && x) (pairing_op p work t n step) NoOffer)
    paired true i =
        cond_both Near (is_offer step && true) (pairs-near p work t n (offer_of (part_of work n) step) (ltb-true n 8 i))
        tt
    paired false i = cond-each Near (is_offer step && false) (λ z. absurd (never (is_offer step) z)) (λ z. tt)
      where
        never : (y : Bool) → (y && false) ≡ true → ⊥
        never true z = true≢false (sym z)
        never false z = true≢false (sym z)
