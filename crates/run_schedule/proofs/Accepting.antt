-- What is known of inputs to which no question says no.
use Prim.Native.Nat.{ℕ, zero, suc, ◌≤◌, ◌<◌}
use mathlib.Core.Path.{◌≡◌, refl, sym, ◌∙◌, ap, subst}
use mathlib.Core.Bool.{Bool, true, false, cond}
use mathlib.Core.List.{List, [], ◌∷◌}
use native.Mathlib.Omega.{arith}
use lib.ListN.{get_or, take, length}
use lib.Dec.{leb, ltb}
use borrow.Author.Tests.{le-leb, leb-true, ltb-false}
use Rattle.lists.specs.Lists.{All, first_false}
use Rattle.lists.proofs.First.{first_false-all}
use Rattle.table.specs.Questions.{Verdict, accepted, refused, and_then, whole, first_of, question6, question7, question8, table_questions, questions, Accepted}

-- a refusal is no acceptance
not-refused : (n i : ℕ) → refused n i ≡ accepted → ⊥
not-refused n i e = subst Refused e tt
  where
    Refused : Verdict → Type 0
    Refused accepted = ⊥
    Refused (refused n i) = Unit {0}

and_first : (u v : Verdict) → and_then u v ≡ accepted → u ≡ accepted
unfolding and_then
and_first accepted v e = refl
and_first (refused n i) v e = absurd (not-refused n i e)

and_second : (u v : Verdict) → and_then u v ≡ accepted → v ≡ accepted
unfolding and_then
and_second accepted v e = e
and_second (refused n i) v e = absurd (not-refused n i e)

whole-kept : (n i : ℕ) (b : Bool) → whole n b i ≡ accepted → b ≡ true
unfolding whole
whole-kept n i true e = refl
whole-kept n i false e = absurd (not-refused n i e)

none_first : (n : ℕ) (test : ℕ → Bool) (m : ℕ) → first_of n test m ≡ accepted → (i : ℕ) → i < m → test i ≡ true
unfolding first_of
none_first n test m e = first_false-all test m (go (ltb (first_false test m) m) refl e)
  where
    go : (b : Bool) → ltb (first_false test m) m ≡ b → cond b (refused n (first_false test m)) accepted ≡ accepted
        → m ≤ first_false test m
    go true h e = absurd (not-refused n (first_false test m) e)
    go false h e = ltb-false (first_false test m) m h

all_from : (P : ℕ → Type 0) (xs : List ℕ) → ((i : ℕ) → i < length xs → P (get_or xs i 0)) → All P xs
all_from P [] h = tt
all_from P (x ∷ xs) h = (h 0 (omega arith), all_from P xs (λ i l. h (suc i) (omega (arith, l))))

module _ (p schedule outcomes : List ℕ) (words : ℕ) (ok : questions p schedule outcomes words ≡ accepted) where
  pub table_kept : Accepted p
  unfolding questions
  table_kept = and_first (table_questions p) _ ok

  inputs : and_then (question6 outcomes) (and_then (question7 schedule) (question8 words)) ≡ accepted
  unfolding questions
  inputs = and_second (table_questions p) _ ok

  pub outcomes-small : All (λ o. o ≤ 2) outcomes
  unfolding question6
  outcomes-small =
      all_from (λ o. o ≤ 2) outcomes (λ i l.
      omega (
        arith,
        leb-true (get_or outcomes i 0) 2
            (none_first 6 (λ j. leb (get_or outcomes j 0) 2) (length outcomes) (and_first (question6 outcomes) _ inputs)
            i l),
      ))

  pub schedule-short : length schedule ≤ 65535
  unfolding question7
  schedule-short =
      leb-true (length schedule) 65535
      (whole-kept 7 0 (leb (length schedule) 65535)
      (and_first (question7 schedule) (question8 words) (and_second (question6 outcomes) _ inputs)))

  pub store_long : 8256 ≤ words
  unfolding question8
  store_long =
      leb-true 8256 words
      (whole-kept 8 0 (leb 8256 words)
      (and_second (question7 schedule) (question8 words) (and_second (question6 outcomes) _ inputs)))

-- the schedule's first entries are as little refused as the whole
take_short : (k : ℕ) (xs : List ℕ) → length (take k xs) ≤ length xs
take_short zero xs = omega arith
take_short (suc k) [] = omega arith
take_short (suc k) (x ∷ xs) = omega (arith, take_short k xs)

pub shorter-accepted : (p schedule outcomes : List ℕ) (words k : ℕ) → questions p schedule outcomes words ≡ accepted
    → questions p (take k schedule) outcomes words ≡ accepted
unfolding questions question7 whole
shorter-accepted p schedule outcomes words k ok =
    ap
    (λ (b : Bool). and_then (table_questions p)
    (and_then (question6 outcomes) (and_then (cond b accepted (refused 7 0)) (question8 words))))
    (le-leb (length (take k schedule)) 65535
    (omega (arith, take_short k schedule, schedule-short p schedule outcomes words ok))
    ∙ sym (le-leb (length schedule) 65535 (schedule-short p schedule outcomes words ok)))
    ∙ ok
