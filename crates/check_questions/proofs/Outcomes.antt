-- The position of the first outcome above 2 is the first place at which question 6's test fails.
use Prim.Native.Nat.{ℕ}
use mathlib.Core.Path.{◌≡◌, ap}
use mathlib.Core.Bool.{cond}
use mathlib.Core.List.{List}
use lib.Dec.{ltb}
use lib.ListN.{length, get_or}
use borrow.Author.Tests.{leb-true, leb-false, lt-ltb, le-ltb}
use Rattle.std.specs.Prelude.{Option, Some, None, position}
use Rattle.std.specs.List.{position_or_len}
use Rattle.std.proofs.lemmas.List.Sums.{position_or_len_is}
use Rattle.lists.specs.Lists.{first_false, first_place}
use Rattle.lists.proofs.First.{first_false-first}
use Rattle.check_questions.specs.AskCode.{outcome_kept}

pub first_outcome : (xs : List ℕ) → position (λ (x : ℕ). ltb 2 x) xs ≡ first_place (outcome_kept xs) (length xs)
unfolding first_place
first_outcome xs = ap (λ (i : ℕ). cond {A = Option ℕ} (ltb i (length xs)) (Some i) None) same
  where
    same : position_or_len (λ (x : ℕ). ltb 2 x) xs ≡ first_false (outcome_kept xs) (length xs)
    same =
        let h = first_false-first (outcome_kept xs) (length xs) in
        position_or_len_is (λ (x : ℕ). ltb 2 x) xs (first_false (outcome_kept xs) (length xs)) 0 h.within
        (λ k l. le-ltb 2 (get_or xs k 0) (leb-true (get_or xs k 0) 2 (h.passes k l)))
        (λ l. let i = first_false (outcome_kept xs) (length xs) in
        lt-ltb 2 (get_or xs i 0) (leb-false (get_or xs i 0) 2 (h.fails l)))
