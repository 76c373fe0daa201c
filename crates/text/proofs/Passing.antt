-- From the tests of questions 1 to 5 to the verdict that a table is accepted.
use Prim.Native.Nat.{ℕ, zero, suc, ◌-◌, ◌<◌}
use native.Mathlib.Omega.{arith}
use mathlib.Core.Path.{◌≡◌, ap, ◌∙◌}
use mathlib.Core.Bool.{Bool, cond}
use mathlib.Core.List.{List}
use lib.Dec.{T, eqb, ltb}
use mir.Facts.{yes_and, ltb_yes}
use Rattle.lists.specs.Lists.{first_false, all_below}
use Rattle.lists.proofs.Tests.{passed, failed, clash}
use Rattle.lists.proofs.First.{first_false-first}
use Rattle.table.specs.Table.{methods, instructions}
use Rattle.table.specs.Reading.{reads}
use Rattle.table.specs.Questions.{Verdict, accepted, refused, and_then, whole, first_of, sizes_kept, question1, start_of, pair_kept, question2, row_kept, question3, instruction_kept, question4, question5, table_questions, Accepted}

-- a test that holds at every index below n
pub all-all_below : (f : ℕ → Bool) (n : ℕ) → ((i : ℕ) → i < n → T (f i)) → T (all_below f n)
unfolding all_below
all-all_below f zero h = tt
all-all_below f (suc n) h =
    yes_and (all_below f n) (f n) (all-all_below f n (λ i l. h i (omega arith))) (h n (omega arith))

-- a question about the whole accepts where its test is passed
whole-passes : (number : ℕ) (b : Bool) (place : ℕ) → T b → whole number b place ≡ accepted
unfolding whole
whole-passes number b place t = ap (λ b. cond b accepted (refused number place)) (passed b t)

-- a question about each index accepts where every test is passed
first_of-passes : (number : ℕ) (ok : ℕ → Bool) (n : ℕ) → ((i : ℕ) → i < n → T (ok i)) → first_of number ok n ≡ accepted
unfolding first_of
first_of-passes number ok n h =
    ap (λ b. cond b (refused number (first_false ok n)) accepted)
    (failed (ltb (first_false ok n) n)
    (λ t. clash ((first_false-first ok n).fails (ltb_yes t)) (h (first_false ok n) (ltb_yes t))))

-- two questions accept where each does
and_then-passes : (v w : Verdict) → v ≡ accepted → w ≡ accepted → and_then v w ≡ accepted
unfolding and_then
and_then-passes v w e f = ap (λ v. and_then v w) e ∙ f

-- the tests of the five questions
pub record Passes (p : List ℕ) : Type 0 where
  pub sizes : T (sizes_kept p)
  pub pairs : (m : ℕ) → m < methods p → T (pair_kept p m)
  pub sum : T (eqb (start_of p (methods p)) (instructions p))
  pub rows : (m : ℕ) → m < methods p → T (row_kept p m)
  pub code : (i : ℕ) → i < instructions p → T (instruction_kept p i)
  pub types : (i : ℕ) → i < instructions p → T (reads p i)

-- a table that passes them all is accepted
pub passes-accepted : (p : List ℕ) → Passes p → Accepted p
unfolding table_questions question1 question2 question3 question4 question5
passes-accepted p t =
    let q2 = and_then-passes (first_of 2 (pair_kept p) (methods p)) _
    (first_of-passes 2 (pair_kept p) (methods p) t.pairs)
    (whole-passes 2 (eqb (start_of p (methods p)) (instructions p)) (methods p - 1) t.sum) in
    and_then-passes (question1 p) _ (whole-passes 1 (sizes_kept p) 0 t.sizes)
    (and_then-passes (question2 p) _ q2
    (and_then-passes (question3 p) _ (first_of-passes 3 (row_kept p) (methods p) t.rows)
    (and_then-passes (question4 p) (question5 p) (first_of-passes 4 (instruction_kept p) (instructions p) t.code)
    (first_of-passes 5 (reads p) (instructions p) t.types))))
