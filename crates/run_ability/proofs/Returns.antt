-- What a function has found at its returns, from what its callees found and how its tests came out.
use Prim.Native.Nat.{ℕ, ◌+◌, ◌*◌, ◌%◌, ◌<◌}
use mathlib.Core.Path.{◌≡◌, refl, sym, ◌∙◌, ap, ap₂}
use mathlib.Core.Logic.{◌⊎◌, ⊎_elim}
use mathlib.Core.Bool.{Bool, true, false, cond, ◌||◌, true≢false}
use mathlib.Core.List.{List}
use native.Mathlib.Omega.{arith}
use lib.Dec.{eqb, leb}
use borrow.Author.Tests.{leb-false}
use Rattle.table.specs.Table.{arg_at}
use Rattle.run_store.specs.declared.head.Head.{Head}
use Rattle.run_store.specs.declared.values.Val.{Val}
use Rattle.run_store.specs.StoreCode.{head_of}
use Rattle.lists.proofs.Tests.{took, passed-by}
use Rattle.run_parts.specs.declared.readiness.Readiness.{Readiness}
use Rattle.run_parts.specs.declared.readiness.Readiness.TheVariants.{Idle, Moves, Sends, Receives}
use Rattle.run_parts.specs.ReadinessCode.{over_kind, end_offered, readiness_op, offer_of, meets_op}
use Rattle.run_parts.specs.PartsCode.{part_of}
use Rattle.run_holders.specs.HoldersCode.{holder_in}
use Rattle.run_values.specs.declared.steps.StepResult.{StepResult}
use Rattle.run_ability.specs.ReadsCode.{argument_in}
use Rattle.run_ability.specs.PartnerCode.{opposite_of, Partner, waits, gone, ready, is_no_other, ready_op, is_moving, partner_op}
use Rattle.run_ability.specs.declared.pairing.Pairing.{Pairing}
use Rattle.run_ability.specs.declared.pairing.Pairing.TheVariants.{NoOffer, Waits, PartnerGone}
use Rattle.run_ability.specs.PairingCode.{received_of, paired_of, pair_with, pairing_of, pairing_op}
use Rattle.run_ability.specs.EndingCode.{ability_by, ability_of, ability_op}

-- the word after the op at the frame's place
pub argument-read : (p w : List ℕ) {h : Head} {a : ℕ} → h ≡ head_of w → a ≡ arg_at p h.place → a ≡ argument_in p w
unfolding argument_in
argument-read p w e q = q ∙ ap (λ (g : Head). arg_at p g.place) e

-- another holder is one that can be a process
pub other-low : (n q : ℕ) {b : Bool} → b ≡ is_no_other n q → b ≡ false → q < 8
unfolding is_no_other
other-low n q e h = leb-false 8 q (second (eqb q n) (leb 8 q) (sym e ∙ h))
  where
    second : (x y : Bool) → (x || y) ≡ false → y ≡ false
    second true y i = absurd (true≢false i)
    second false y i = i

not-over : (s : Readiness) → (s ≡ Idle → ⊥) → over_kind s ≡ false
unfolding over_kind
not-over Idle h = absurd (h refl)
not-over Moves h = refl
not-over (Sends e v) h = refl
not-over (Receives e) h = refl

module _ (p work : List ℕ) (t : List (List ℕ)) (n : ℕ) where
  -- the holder q of the opposite end was asked
  pub partner-asked : (a : Readiness) {c d q : ℕ} {r : Partner} → c ≡ (end_offered a).number % 65536
      → d ≡ opposite_of (end_offered a).tag → q ≡ holder_in t c d
      → r ≡ ready_op p work n a q → r ≡ partner_op p work t n a
  unfolding partner_op
  partner-asked a e f h g = g ∙ ap (ready_op p work n a) (h ∙ ap₂ (holder_in t) e f)

  -- whether the offer moves its process

  module _ (a : Readiness) {c d q : ℕ} (channel : c ≡ (end_offered a).number % 65536) (side : d ≡ opposite_of (end_offered a).tag)
      (held : q ≡ holder_in t c d)
      {x : Bool} (other : x ≡ is_no_other n q) where
    asked : {b : Bool} {r : Partner} → b ≡ is_moving r → r ≡ ready_op p work n a q → b ≡ is_moving (partner_op p work t n a)
    asked e g = e ∙ ap is_moving (partner-asked a channel side held g)

    pub itself-asked : x ≡ true → true ≡ is_moving (partner_op p work t n a)
    unfolding ready_op is_moving
    itself-asked h = asked {r = gone} refl (took _ _ _ other h refl)

    module _ (no : x ≡ false) {s : Readiness} (stands : s ≡ readiness_op p (part_of work q)) where
      pub over-asked : s ≡ Idle → true ≡ is_moving (partner_op p work t n a)
      unfolding ready_op is_moving over_kind
      over-asked k =
          asked {r = gone} refl (passed-by _ _ _ other no (took _ _ _ (ap over_kind stands) (ap over_kind k) refl))

      pub other-asked : (s ≡ Idle → ⊥) → {b : Bool} → b ≡ meets_op a s → b ≡ is_moving (partner_op p work t n a)
      unfolding ready_op is_moving
      other-asked k {b} m =
          asked {r = cond (meets_op a (readiness_op p (part_of work q))) (ready q) waits}
          (m ∙ ap (meets_op a) stands ∙ found (meets_op a (readiness_op p (part_of work q))))
          (passed-by _ _ _ other no (passed-by _ _ _ (ap over_kind stands) (not-over s k) refl))
        where
          found : (y : Bool) → y ≡ is_moving (cond y (ready q) waits)
          found true = refl
          found false = refl

  -- a process that is over, one that moves by itself, one whose offer has no partner, and one whose offer has

  module _ {a : Readiness} (stands : a ≡ readiness_op p (part_of work n)) where
    pub no-process : a ≡ Idle → 0 ≡ ability_op p work t n
    unfolding ability_op ability_of ability_by
    no-process e = ap (ability_of p work t n) (sym e ∙ stands)

    pub no-offer : a ≡ Moves → 1 ≡ ability_op p work t n
    unfolding ability_op ability_of ability_by
    no-offer e = ap (ability_of p work t n) (sym e ∙ stands)

    module _ (there : a ≡ Idle → ⊥) (offer : a ≡ Moves → ⊥) {b : Bool} (tested : b ≡ is_moving (partner_op p work t n a)) where
      offers-so : cond {A = ℕ} b 1 2 ≡ ability_op p work t n
      unfolding ability_op ability_of ability_by
      offers-so =
          ap (λ (y : Bool). cond {A = ℕ} y 1 2) tested
          ∙ go a there offer
          ∙ ap (ability_of p work t n) stands
        where
          go : (r : Readiness) → (r ≡ Idle → ⊥) → (r ≡ Moves → ⊥)
              → cond {A = ℕ} (is_moving (partner_op p work t n r)) 1 2 ≡ ability_of p work t n r
          go Idle i m = absurd (i refl)
          go Moves i m = absurd (m refl)
          go (Sends e v) i m = refl
          go (Receives e) i m = refl

      pub met : b ≡ true → 1 ≡ ability_op p work t n
      met e = sym (ap (λ (x : Bool). cond {A = ℕ} x 1 2) e) ∙ offers-so

      pub unmet : b ≡ false → 2 ≡ ability_op p work t n
      unmet e = sym (ap (λ (x : Bool). cond {A = ℕ} x 1 2) e) ∙ offers-so

-- what an offer comes to

pub receives : (n : ℕ) (a : Readiness) (q : ℕ) (b : Readiness) → ((e v : Val) → a ≡ Sends e v → ⊥)
    → received_of n q b ≡ paired_of n a q b
unfolding paired_of
receives n Idle q b h = refl
receives n Moves q b h = refl
receives n (Sends e v) q b h = absurd (h e v refl)
receives n (Receives e) q b h = refl

pub receives-none : (n q : ℕ) (b : Readiness) → ((e v : Val) → b ≡ Sends e v → ⊥) → Waits ≡ received_of n q b
unfolding received_of
receives-none n q Idle h = refl
receives-none n q Moves h = refl
receives-none n q (Sends e v) h = absurd (h e v refl)
receives-none n q (Receives e) h = refl

module _ (p work : List ℕ) (n : ℕ) (a : Readiness) (q : ℕ) where
  module _ {x : Bool} (other : x ≡ is_no_other n q) where
    pub pairs-itself : x ≡ true → PartnerGone ≡ pair_with p work n a q
    unfolding pair_with
    pairs-itself h = took _ _ _ other h refl

    module _ (no : x ≡ false) {b : Readiness} (stands : b ≡ readiness_op p (part_of work q)) where
      pub pairs-over : b ≡ Idle → PartnerGone ≡ pair_with p work n a q
      unfolding pair_with over_kind
      pairs-over k = passed-by _ _ _ other no (took _ _ _ (ap over_kind stands) (ap over_kind k) refl)

      module _ (going : b ≡ Idle → ⊥) {m : Bool} (tested : m ≡ meets_op a b) where
        pub pairs-with : m ≡ true → {r : Pairing} → r ≡ paired_of n a q b → r ≡ pair_with p work n a q
        unfolding pair_with
        pairs-with h e =
            passed-by _ _ _ other no
            (passed-by _ _ _ (ap over_kind stands) (not-over b going)
            (took _ _ _ (tested ∙ ap (meets_op a) stands) h (e ∙ ap (paired_of n a q) stands)))

        pub pairs-not : m ≡ false → Waits ≡ pair_with p work n a q
        unfolding pair_with
        pairs-not h =
            passed-by _ _ _ other no
            (passed-by _ _ _ (ap over_kind stands) (not-over b going)
            (passed-by _ _ _ (tested ∙ ap (meets_op a) stands) h refl))

module _ (p work : List ℕ) (t : List (List ℕ)) (n : ℕ) (step : StepResult) {a : Readiness}
    (stands : a ≡ offer_of (part_of work n) step) where
  pub pairs-none : (a ≡ Idle) ⊎ (a ≡ Moves) → NoOffer ≡ pairing_op p work t n step
  unfolding pairing_op pairing_of
  pairs-none h =
      ⊎_elim (λ e. ap (pairing_of p work t n) (sym e ∙ stands)) (λ e. ap (pairing_of p work t n) (sym e ∙ stands)) h

  pub pairs-asked : (a ≡ Idle → ⊥) → (a ≡ Moves → ⊥) → {c d q : ℕ} → c ≡ (end_offered a).number % 65536
      → d ≡ opposite_of (end_offered a).tag → q ≡ holder_in t c d → {r : Pairing}
      → r ≡ pair_with p work n a q → r ≡ pairing_op p work t n step
  unfolding pairing_op pairing_of end_offered
  pairs-asked i m f g k e =
      e ∙ ap (pair_with p work n a) (k ∙ ap₂ (holder_in t) f g) ∙ go a i m ∙ ap (pairing_of p work t n) stands
    where
      go : (s : Readiness) → (s ≡ Idle → ⊥) → (s ≡ Moves → ⊥)
          → pair_with p work n s (holder_in t ((end_offered s).number % 65536) (opposite_of (end_offered s).tag))
          ≡ pairing_of p work t n s
      go Idle i m = absurd (i refl)
      go Moves i m = absurd (m refl)
      go (Sends e v) i m = refl
      go (Receives e) i m = refl
