-- The marks at the targets of a method's jumps.
use Prim.Native.Nat.{ℕ, zero, suc, ◌+◌, ◌≤◌, ◌<◌}
use native.Mathlib.Omega.{arith}
use native.Mathlib.Numerals.{add-one}
use mathlib.Core.Bool.{Bool, true, false, cond, ◌&&◌, ◌||◌}
use mathlib.Core.Path.{◌≡◌, refl, sym, ap, ◌∙◌}
use mathlib.Core.List.{List}
use lib.ListN.{get_or, length, set}
use lib.Seq.{set_out}
use lib.Dec.{eqb, ltb}
use borrow.Author.Tests.{ltb-true, ltb-false}
use Rattle.lists.specs.Lists.{below}
use Rattle.lists.proofs.Tests.{never}
use Rattle.table.specs.Ops.{op_of}
use Rattle.table.proofs.Ops.{jumps-op}
use Rattle.check_arguments.specs.MarksCode.{marks}
use Rattle.check_arguments.proofs.Marks.{marks-length, mark-at, any_last}
use Rattle.text_judge.specs.RowsCode.{op_in, arg_in, jumps_onto, is_onto, marked_in}

-- one mark

module _ (op at : ℕ) (ts : List ℕ) where
  pub mark_set : ((eqb op 17 || eqb op 18) && ltb at (length ts)) ≡ true → set ts at 1 ≡ marks op at ts
  unfolding marks
  mark_set e = rw (jumps-op op) (by (eqb op 17 || eqb op 18) e)
    where
      by : (b : Bool) → (b && ltb at (length ts)) ≡ true → set ts at 1 ≡ cond b (set ts at 1) ts
      by true q = refl
      by false q = absurd (never q)

  pub mark-none : ((eqb op 17 || eqb op 18) && ltb at (length ts)) ≡ false → ts ≡ marks op at ts
  unfolding marks
  mark-none e = rw (jumps-op op) (by (eqb op 17 || eqb op 18) e)
    where
      by : (b : Bool) → (b && ltb at (length ts)) ≡ false → ts ≡ cond b (set ts at 1) ts
      by true q = sym (set_out ts at 1 (ltb-false at (length ts) q))
      by false q = refl

-- it is written within the list
pub mark-inside : (op at n : ℕ) → ((eqb op 17 || eqb op 18) && ltb at n) ≡ true → at < n
mark-inside op at n e = by (eqb op 17 || eqb op 18) e
  where
    by : (b : Bool) → (b && ltb at n) ≡ true → at < n
    by true e = ltb-true at n e
    by false e = absurd (never e)

-- those of the first instructions

pub marked-none : (code ts : List ℕ) → ts ≡ marked_in code 0 ts
unfolding marked_in
marked-none code ts = refl

pub marked_more : (code ts us : List ℕ) (i : ℕ) → us ≡ marked_in code i ts
    → marks (op_in code i) (arg_in code i) us ≡ marked_in code (i + 1) ts
unfolding marked_in
marked_more code ts us i e = rw (add-one i) (ap (marks (op_in code i) (arg_in code i)) e)

pub marked-long : (code : List ℕ) (k : ℕ) (ts : List ℕ) → length (marked_in code k ts) ≡ length ts
unfolding marked_in
marked-long code zero ts = refl
marked-long code (suc k) ts = marks-length _ _ (marked_in code k ts) ∙ marked-long code k ts

pub marked-ends : (code ts us : List ℕ) (i k : ℕ) → us ≡ marked_in code i ts → i ≤ k → k ≤ i → us ≡ marked_in code k ts
marked-ends code ts us i k e l m =
    let same : i ≡ k = omega arith in
    e ∙ ap (λ n. marked_in code n ts) same

-- exactly the targets are marked, in a list of zeros
pub marked-onto : (code ts : List ℕ) (i : ℕ) → i < length ts → get_or ts i 0 ≡ 0
    → (k : ℕ) → ltb 0 (get_or (marked_in code k ts) i 0) ≡ is_onto code k i
unfolding marked_in marks below is_onto jumps_onto
marked-onto code ts i h z zero = ap (ltb 0) z
marked-onto code ts i h z (suc k) =
    mark-at (op_of (op_in code k)).jumps (arg_in code k) (marked_in code k ts) i (rw (marked-long code k ts) h)
    ∙ ap (λ b. b || jumps_onto code i k) (marked-onto code ts i h z k)
    ∙ sym (any_last (jumps_onto code i) (below k) k)
