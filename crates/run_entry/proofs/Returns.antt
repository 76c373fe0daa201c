-- What an entry's functions have done at their returns, from what their callees did and how their tests came out.
use Prim.Native.Nat.{ℕ, ◌+◌, ◌≤◌, ◌<◌}
use mathlib.Core.Path.{◌≡◌, refl, sym, ◌∙◌, ap, ap₂}
use mathlib.Core.Bool.{Bool, true, false, ◌&&◌, true≢false}
use mathlib.Core.List.{List, [], ◌∷◌}
use denote.Enum.Declared.{tag_of}
use lib.ListN.{get_or}
use lib.Dec.{leb, ltb}
use borrow.Author.Tests.{ltb-true, lt-ltb, le-ltb, le-leb, lt-leb}
use Rattle.table.specs.Table.{params_of}
use Rattle.run_store.specs.declared.values.Val.{Val}
use Rattle.lists.proofs.Tests.{took, passed-by}
use Rattle.run_parts.specs.PartsCode.{part_of}
use Rattle.run_transfer.specs.ForkLinesCode.{Gifts, gifts, things_in}
use Rattle.run_transfer.specs.TransferCode.{forked_words, met_words}
use Rattle.run_ability.specs.ReadsCode.{argument_in, empty_in}
use Rattle.run_ability.specs.declared.pairing.Pairing.{Pairing}
use Rattle.run_ability.specs.PairingCode.{pairing_op}
use Rattle.run_single.specs.declared.result.Count.{Count}
use Rattle.run_single.specs.declared.result.EntryResult.{EntryResult}
use Rattle.run_single.specs.ResultCode.{after_entry}
use Rattle.run_single.specs.declared.result.EntryResult.TheVariants.{Unable, Taken, Full}
use Rattle.run_single.proofs.Returns.{entry-same}
use Rattle.run_single.specs.SingleCode.{single_op}
use Rattle.run_transfer.specs.ForkLinesCode.{fork_written}
use Rattle.run_transfer.specs.MeetingLinesCode.{met_written}
use Rattle.run_values.specs.ValuesCode.{not_running, is_offer}
use Rattle.run_values.specs.declared.steps.StepResult.{StepResult}
use Rattle.run_events.specs.declared.conclude.Single.{Single}
use Rattle.run_events.specs.declared.conclude.Single.TheVariants.{Fault}
use Rattle.run_ability.specs.declared.pairing.Meeting.{Meeting}
use Rattle.run_ability.specs.declared.pairing.Pairing.TheVariants.{NoOffer, Waits, Meets, PartnerGone}
use Rattle.run_entry.specs.declared.entry.Rest.{Rest}
use Rattle.run_entry.specs.declared.entry.Rest.TheVariants.{Nothing, Fork, Offer, Line}
use Rattle.run_entry.specs.contracts.entry.Rest.{the_type}
use Rattle.run_entry.specs.ForkCode.{fork_done, start_op, try_op, fork_op}
use Rattle.run_entry.specs.MeetingCode.{exchange_op, meet_by}
use Rattle.run_entry.specs.EntryCode.{rest_of, offer_at, rest_op, entry_op, is_line, one_line}

-- an entry at FORK

module _ (p trace work : List ℕ) (room : ℕ) (g : Count) (n child method args : ℕ) {things : ℕ}
    (count : things ≡ things_in work n args args) where
  pub fork-full : {m : EntryResult} → room < g.lines + 1 + things → m ≡ Full
      → after_entry m trace work ≡ start_op p trace work room g n child method args
  unfolding start_op
  fork-full h e =
      took _ _ _ (ap (λ (i : ℕ). ltb room (g.lines + 1 + i)) count) (lt-ltb room (g.lines + 1 + things) h)
      (entry-same e refl refl)

  pub fork-starts : {next : ℕ} {ts w : List ℕ} {m : EntryResult} → g.lines + 1 + things ≤ room
      → gifts next ts ≡ fork_written trace work g.lines g.entry n child method args
      → w ≡ forked_words p work n child method args → m ≡ Taken next g.used
      → after_entry m ts w ≡ start_op p trace work room g n child method args
  unfolding start_op fork_done
  fork-starts h written forked moved =
      passed-by _ _ _ (ap (λ (i : ℕ). ltb room (g.lines + 1 + i)) count) (le-ltb room (g.lines + 1 + things) h)
      (entry-same moved refl forked ∙ ap (λ (ls : Gifts). fork_done p work g ls n child method args) written)

module _ (p outcomes trace work : List ℕ) (room : ℕ) (g : Count) (n method args : ℕ) {b : Bool} {x : EntryResult}
    {ts ws : List ℕ} (e : b ≡ empty_in (part_of work n) args) where
  pub fork-lacks : b ≡ true → after_entry x ts ws ≡ single_op p outcomes trace work room g n (Fault 20)
      → after_entry x ts ws ≡ try_op p outcomes trace work room g n method args
  unfolding try_op
  fork-lacks h q = took _ _ _ e h q

  pub fork-beyond : {made : ℕ} → b ≡ false → made ≡ get_or work 0 0 → 8 ≤ made
      → after_entry x ts ws ≡ single_op p outcomes trace work room g n (Fault 23)
      → after_entry x ts ws ≡ try_op p outcomes trace work room g n method args
  unfolding try_op
  fork-beyond {made} h f k q = passed-by _ _ _ e h (took _ _ _ (ap (leb 8) f) (le-leb 8 made k) q)

  pub fork-tried : {made : ℕ} → b ≡ false → made ≡ get_or work 0 0 → made < 8
      → after_entry x ts ws ≡ start_op p trace work room g n made method args
      → after_entry x ts ws ≡ try_op p outcomes trace work room g n method args
  unfolding try_op
  fork-tried {made} h f k q =
      passed-by _ _ _ e h
      (passed-by _ _ _ (ap (leb 8) f) (lt-leb 8 made k)
      (q ∙ ap (λ (i : ℕ). start_op p trace work room g n i method args) f))

pub fork-read : (p outcomes trace work : List ℕ) (room : ℕ) (g : Count) (n : ℕ) {method args : ℕ} {x : EntryResult}
    {ts ws : List ℕ} → method ≡ argument_in p (part_of work n) → args ≡ params_of p method
    → after_entry x ts ws ≡ try_op p outcomes trace work room g n method args
    → after_entry x ts ws ≡ fork_op p outcomes trace work room g n
unfolding fork_op
fork-read p outcomes trace work room g n e f q =
    q ∙ ap₂ (try_op p outcomes trace work room g n) e (f ∙ ap (params_of p) e)

-- an entry at SEND or RECV

module _ (trace work : List ℕ) (room : ℕ) (g : Count) (sender receiver : ℕ) (e v : Val) where
  pub exchange-full : {m : EntryResult} → room < g.lines + 2 → m ≡ Full
      → after_entry m trace work ≡ exchange_op trace work room g sender receiver e v
  unfolding exchange_op
  exchange-full h q = took _ _ _ refl (lt-ltb room (g.lines + 2) h) (entry-same q refl refl)

  pub exchanged : {ts w : List ℕ} {m : EntryResult} → g.lines + 2 ≤ room
      → ts ≡ met_written trace g.lines g.entry sender receiver e v → w ≡ met_words work sender receiver v
      → m ≡ Taken (g.lines + 2) g.used → after_entry m ts w ≡ exchange_op trace work room g sender receiver e v
  unfolding exchange_op
  exchanged h written met moved =
      passed-by _ _ _ refl (le-ltb room (g.lines + 2) h) (entry-same moved written met)

module _ (p outcomes trace work : List ℕ) (room : ℕ) (g : Count) (n : ℕ) (m : Pairing) {x : EntryResult}
    {ts ws : List ℕ} where
  of-kind : (k : Pairing) → m ≡ k → after_entry x ts ws ≡ meet_by p outcomes trace work room g n k
      → after_entry x ts ws ≡ meet_by p outcomes trace work room g n m
  of-kind k e q = q ∙ ap (meet_by p outcomes trace work room g n) (sym e)

  pub meet-faults : m ≡ NoOffer → after_entry x ts ws ≡ single_op p outcomes trace work room g n (Fault 20)
      → after_entry x ts ws ≡ meet_by p outcomes trace work room g n m
  unfolding meet_by
  meet-faults e q = of-kind NoOffer e q

  pub meet-waits : m ≡ Waits → after_entry x ts ws ≡ after_entry Unable trace work
      → after_entry x ts ws ≡ meet_by p outcomes trace work room g n m
  unfolding meet_by
  meet-waits e q = of-kind Waits e q

  pub meet-gone : m ≡ PartnerGone → after_entry x ts ws ≡ single_op p outcomes trace work room g n (Fault 33)
      → after_entry x ts ws ≡ meet_by p outcomes trace work room g n m
  unfolding meet_by
  meet-gone e q = of-kind PartnerGone e q

  pub meet-meets : (k : Meeting) → m ≡ Meets k
      → after_entry x ts ws ≡ exchange_op trace work room g k.sender.0 k.receiver.0 k.end k.value
      → after_entry x ts ws ≡ meet_by p outcomes trace work room g n m
  unfolding meet_by
  meet-meets k e q = of-kind (Meets k) e q

-- what the offer of the process comes to

pub offer-low : (n : ℕ) (b : Bool) → (b && ltb n 8) ≡ true → n < 8
offer-low n b h = ltb-true n 8 (second b (ltb n 8) h)
  where
    second : (x y : Bool) → (x && y) ≡ true → y ≡ true
    second true y e = e
    second false y e = absurd (true≢false (sym e))

module _ (p work : List ℕ) (t : List (List ℕ)) (n : ℕ) (step : StepResult) {m : Pairing} {over : Bool}
    (ran : over ≡ not_running step) where
  pub offer-over : over ≡ true → m ≡ Waits → m ≡ offer_at p work t n step
  unfolding offer_at
  offer-over h e = took _ _ _ ran h e

  module _ (runs : over ≡ false) {b : Bool} (tested : b ≡ is_offer step) where
    pub offer-paired : (b && ltb n 8) ≡ true → m ≡ pairing_op p work t n step → m ≡ offer_at p work t n step
    unfolding offer_at
    offer-paired h e = passed-by _ _ _ ran runs (took _ _ _ (ap (λ (x : Bool). x && ltb n 8) tested) h e)

    pub offer-none : (b && ltb n 8) ≡ false → m ≡ NoOffer → m ≡ offer_at p work t n step
    unfolding offer_at
    offer-none h e = passed-by _ _ _ ran runs (passed-by _ _ _ (ap (λ (x : Bool). x && ltb n 8) tested) h e)

-- an entry by what its step left of it
module _ (p outcomes trace work : List ℕ) (room : ℕ) (g : Count) (n : ℕ) (step : StepResult) (m : Pairing) {r : Rest}
    (left : r ≡ rest_of step) {x : EntryResult} {ts ws : List ℕ} where
  in-case : (k : Rest) → r ≡ k → after_entry x ts ws ≡ rest_op p outcomes trace work room g n k m
      → after_entry x ts ws ≡ entry_op p outcomes trace work room g n step m
  unfolding entry_op
  in-case k e q = q ∙ ap (λ (y : Rest). rest_op p outcomes trace work room g n y m) (sym e ∙ left)

  pub entry-stays : r ≡ Nothing → after_entry x ts ws ≡ after_entry Unable trace work
      → after_entry x ts ws ≡ entry_op p outcomes trace work room g n step m
  unfolding rest_op
  entry-stays e q = in-case Nothing e q

  pub entry-forks : r ≡ Fork → after_entry x ts ws ≡ fork_op p outcomes trace work room g n
      → after_entry x ts ws ≡ entry_op p outcomes trace work room g n step m
  unfolding rest_op
  entry-forks e q = in-case Fork e q

  pub entry-offers : r ≡ Offer → after_entry x ts ws ≡ meet_by p outcomes trace work room g n m
      → after_entry x ts ws ≡ entry_op p outcomes trace work room g n step m
  unfolding rest_op
  entry-offers e q = in-case Offer e q

  pub entry-single : (does : Single) → r ≡ Line does → after_entry x ts ws ≡ single_op p outcomes trace work room g n does
      → after_entry x ts ws ≡ entry_op p outcomes trace work room g n step m
  unfolding rest_op
  entry-single does e q = in-case (Line does) e q

-- the entry has one line, or not

module _ (step : StepResult) {r : Rest} (left : r ≡ rest_of step) where
  pub line-left : (does : Single) → r ≡ Line does → true ≡ one_line step
  unfolding one_line is_line
  line-left does k = sym (ap is_line k) ∙ ap is_line left

  pub no_line : ((does : Single) → r ≡ Line does → ⊥) → false ≡ one_line step
  unfolding one_line is_line
  no_line k = none r k ∙ ap is_line left
    where
      none : (x : Rest) → ((does : Single) → x ≡ Line does → ⊥) → false ≡ is_line x
      none Nothing k = refl
      none Fork k = refl
      none Offer k = refl
      none (Line does) k = absurd (k does refl)
