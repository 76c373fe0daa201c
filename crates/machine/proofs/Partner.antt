-- The partner of an offer is the holder of the opposite end: whoever offers on an end reaches it, and the lines name
-- whoever reaches it.
use Prim.Native.Nat.{ℕ, zero, suc, ◌≤◌, ◌<◌}
use mathlib.Core.Path.{◌≡◌, refl, sym, ◌∙◌, ap, ap₂, subst}
use mathlib.Core.Logic.{◌≢◌, ⊎_elim}
use mathlib.Core.Bool.{Bool, true, false, cond, not, ◌&&◌, beq}
use mathlib.Core.List.{List}
use mathlib.Core.Option.{Option, none, some, or_else, none-ne-some}
use native.Mathlib.Omega.{arith}
use lib.ListN.{length}
use lib.Dec.{eqb, ltb}
use borrow.Author.Tests.{eqb-true, eqb-false, ltb-true, ltb-false}
use Rattle.lists.specs.Lists.{first_some}
use Rattle.lists.proofs.Tests.{decide}
use Rattle.machine.specs.Value.{Thing, end}
use Rattle.machine.specs.State.{Config, State, process_at}
use Rattle.machine.specs.Act.{Offer, sends, receives, Act, idle, act_of}
use Rattle.machine.specs.Entry.{Meeting, opposite_end, joins, offered, meets_with, meeting_of, meeting_in}
use Rattle.machine.specs.Owner.{values_of, reaches, holder}
use Rattle.machine.proofs.Within.{InReach, OfferWithin, ActWithin, act-within}
use Rattle.machine.proofs.Unmade.{unmade-idle}
use Rattle.machine.proofs.Ownership.{Kept, cond-some, opposite, meets-offer}

-- whoever meets the offer reaches that end
partner-reaches : (c : Config) (n q : ℕ) (o r : Offer) (e : Meeting) → OfferWithin (values_of (process_at c q).frames) r
    → joins n o q r ≡ some e
    → InReach (values_of (process_at c q).frames) (opposite_end o)
unfolding joins
partner-reaches c n q (sends a d v fs) (sends a' d' w gs) e hr h = absurd (none-ne-some e h)
partner-reaches c n q (sends a d v fs) (receives a' d' gs) e hr h =
    subst (InReach (values_of (process_at c q).frames))
    (sym (opposite a a' d d' (cond-some (eqb a a' && beq d (not d')) _ e h).0)) hr.0
partner-reaches c n q (receives a d fs) (sends a' d' w gs) e hr h =
    subst (InReach (values_of (process_at c q).frames))
    (sym (opposite a a' d d' (cond-some (eqb a a' && beq d (not d')) _ e h).0)) hr.0
partner-reaches c n q (receives a d fs) (receives a' d' gs) e hr h = absurd (none-ne-some e h)

-- an answer given at no index, and at one alone
first-none : {A : Type 0} (f : ℕ → Option A) (n : ℕ) → ((q : ℕ) → q < n → f q ≡ none) → first_some f n ≡ none
unfolding first_some or_else
first-none f zero h = refl
first-none f (suc n) h = ap₂ or_else (first-none f n (λ q l. h q (omega arith))) (h n (omega arith))

else-none : {A : Type 0} (x : Option A) → or_else x none ≡ x
unfolding or_else
else-none none = refl
else-none (some a) = refl

first-only : {A : Type 0} (f : ℕ → Option A) (n h : ℕ) → ((q : ℕ) → q < n → q ≢ h → f q ≡ none) → (n ≤ h → f h ≡ none)
    → first_some f n ≡ f h
unfolding first_some or_else
first-only f zero h others out = sym (out (omega arith))
first-only f (suc n) h others out =
    ⊎_elim (λ t. here (eqb-true h n t))
    (λ t. elsewhere (eqb-false h n t) (first-only f n h (λ q l. others q (omega arith)))) (decide (eqb h n))
  where
    here : h ≡ n → or_else (first_some f n) (f n) ≡ f h
    here e =
        ap (λ x. or_else x (f n)) (first-none f n (λ q l. others q (omega arith) (λ i. absurd (omega (arith, l, i, e)))))
        ∙ ap f (sym e)

    elsewhere : h ≢ n → ((n ≤ h → f h ≡ none) → first_some f n ≡ f h) → or_else (first_some f n) (f n) ≡ f h
    elsewhere ne below =
        ap (or_else (first_some f n)) (others n (omega arith) (λ i. ne (sym i)))
        ∙ else-none (first_some f n)
        ∙ below (λ l. out (past l))
      where
        past : n ≤ h → suc n ≤ h
        past l = ⊎_elim (λ t. ltb-true n h t) (λ t. absurd (ne (omega (arith, l, ltb-false n h t)))) (decide (ltb n h))

module _ (p outcomes : List ℕ) (s : State) (kept : Kept s.config s.lines) (n : ℕ) (o : Offer) (h : ℕ)
    (held : (q : ℕ) → holder s.lines (opposite_end o) ≡ some q → h ≡ q) where
  abbrev tried : ℕ → Option Meeting
  tried q = cond (eqb q n) none (meets_with n o q (offered (act_of p outcomes s q)))

  meets-held : (q : ℕ) (e : Meeting) → meets_with n o q (offered (act_of p outcomes s q)) ≡ some e → h ≡ q
  unfolding reaches
  meets-held q e m =
      let w = meets-offer n q o (act_of p outcomes s q) e m in
      held q (kept.named (opposite_end o) q
      (partner-reaches s.config n q o w.0 e
      (subst (ActWithin (values_of (process_at s.config q).frames) s.config.qubits s.config.channels) w.1
      (act-within p outcomes s q))
      w.2))

  others-none : (q : ℕ) → q ≢ h → tried q ≡ none
  others-none q ne = tested (eqb q n)
    where
      met : (x : Option Meeting) → meets_with n o q (offered (act_of p outcomes s q)) ≡ x → x ≡ none
      met none e = refl
      met (some m) e = absurd (ne (sym (meets-held q m e)))

      tested : (b : Bool) → cond b none (meets_with n o q (offered (act_of p outcomes s q))) ≡ none
      tested true = refl
      tested false = met (meets_with n o q (offered (act_of p outcomes s q))) refl

  unmade-none : length s.config.processes ≤ h → tried h ≡ none
  unfolding meets_with offered
  unmade-none l =
      ap (λ (a : Act). cond (eqb h n) none (meets_with n o h (offered a))) (unmade-idle p outcomes s h l)
      ∙ both (eqb h n)
    where
      both : (b : Bool) → cond {A = Option Meeting} b none none ≡ none
      both true = refl
      both false = refl

  -- only the holder of the opposite end can be the partner
  pub partner-is : meeting_of p outcomes s n o ≡ cond (eqb h n) none (meets_with n o h (offered (act_of p outcomes s h)))
  unfolding meeting_in
  partner-is = first-only tried (length s.config.processes) h (λ q l. others-none q) unmade-none
