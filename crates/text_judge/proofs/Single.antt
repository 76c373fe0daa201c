-- One instruction: both questions in the whole table say what the judgement by rows says.
use Prim.Native.Nat.{ℕ, suc, ◌+◌}
use native.Mathlib.Omega.{arith}
use native.Mathlib.Decide.{ℕ_discrete}
use native.Mathlib.Numerals.{add-one}
use mathlib.Core.Bool.{Bool, true, false, cond, ◌&&◌, ◌||◌, not}
use mathlib.Core.Path.{◌≡◌, refl, sym, ap, ap₂, ◌∙◌}
use mathlib.Core.List.{List}
use mathlib.Core.Option.{Option, none, some}
use lib.Dec.{eqb}
use borrow.Author.Tests.{eq-eqb, ne_eqb}
use Rattle.lists.proofs.Tests.{passes}
use Rattle.table.specs.Table.{offset_of, length_of, end_of, op_at, arg_at, owner_of}
use Rattle.table.specs.Ops.{op_of}
use Rattle.table.specs.Reading.{after, before, is_target, is_last, is_nil, reads}
use Rattle.table.specs.Questions.{instruction_kept}
use Rattle.check_types.specs.RulesCode.{stepped}
use Rattle.check_types.specs.ReadOnCode.{read_on}
use Rattle.check_types.proofs.Readings.{free, read-on}
use Rattle.text_judge.specs.RowsCode.{Subject, op_in, arg_in, is_onto, callee_row, judged_at, judged_on}
use Rattle.text_judge.proofs.ByRows.{ByRows, table_for, argument_for, argument-same, step_same}

-- two numbers counted from elsewhere
eqb-from : (k x y : ℕ) → eqb (suc (k + x)) (k + y) ≡ eqb (suc x) y
eqb-from k x y = by (ℕ_discrete (suc x) y)
  where
    by : Dec (suc x ≡ y) → eqb (suc (k + x)) (k + y) ≡ eqb (suc x) y
    by (yes e) = eq-eqb (suc (k + x)) (k + y) (omega arith) ∙ sym (eq-eqb (suc x) y e)
    by (no f) = ne_eqb (suc (k + x)) (k + y) (λ e. f (omega arith)) ∙ sym (ne_eqb (suc x) y f)

-- a test of two, one after the other
cond-two : (a b : Bool) (x : Option (List ℕ)) → cond (a && b) x none ≡ cond a (cond b x none) none
cond-two true b x = refl
cond-two false b x = refl

-- Instruction i of method n stands in the table as it does in the code by itself.
pub record Stands (p : List ℕ) (n : ℕ) (s : Subject) (i : ℕ) : Type 0 where
  pub op : op_at p (offset_of p n + i) ≡ op_in s.code i
  pub argument : arg_at p (offset_of p n + i) ≡ arg_in s.code i
  pub owner : owner_of p (offset_of p n + i) ≡ n
  pub target : is_target p (offset_of p n + i) ≡ is_onto s.code s.long i

module _ (p : List ℕ) (n : ℕ) (s : Subject) (h : ByRows p n s) (i : ℕ) (g : Stands p n s i) where
  abbrev place : ℕ
  place = offset_of p n + i

  abbrev op : ℕ
  op = op_in s.code i

  abbrev a : ℕ
  a = arg_in s.code i

  abbrev ts : List ℕ
  ts = before p place

  -- the tests that the operands do not decide
  abbrev others : Bool
  others =
      (not (is_onto s.code s.long i) || is_nil ts)
      && (not (eqb (i + 1) s.long) || (op_of op).closes)

  kept_here : instruction_kept p place ≡ (op_of op).argument p n a
  unfolding instruction_kept
  kept_here =
      ap (λ o. (op_of o).argument p (owner_of p place) (arg_at p place)) g.op
      ∙ ap₂ (λ m b. (op_of op).argument p m b) g.owner g.argument

  last-here : is_last p place ≡ eqb (i + 1) s.long
  unfolding is_last end_of
  last-here =
      ap (λ m. eqb (suc place) (offset_of p m + length_of p m)) g.owner
      ∙ eqb-from (offset_of p n) i (length_of p n)
      ∙ ap₂ eqb (sym (add-one i)) h.long

  others-here : free p place ≡ others
  others-here =
      ap₂ (λ t l. (not t || is_nil ts) && (not l || (op_of (op_at p place)).closes)) g.target last-here
      ∙ ap (λ o. (not (is_onto s.code s.long i) || is_nil ts) && (not (eqb (i + 1) s.long) || (op_of o).closes))
      g.op

  step-here : stepped p (owner_of p place) (op_at p place) (arg_at p place) ts ≡ stepped p n op a ts
  step-here = rw (g.op, g.argument, g.owner)

  -- the rule of types counts only where the argument is in range
  with-argument : (b : Bool) → (op_of op).argument p n a ≡ b
      → cond (b && others) (stepped (table_for p n s h a op) 0 op (argument_for p n s h a op) ts) none
      ≡ cond b (cond others (stepped p n op a ts) none) none
  with-argument true e = ap (λ o. cond others o none) (sym (step_same p n s h a ts op (passes e)))
  with-argument false e = refl

  pub judged-here : judged_on s i (some ts)
      ≡ cond (instruction_kept p place && reads p place) (some (after p place ts)) none
  unfolding judged_on judged_at callee_row read_on
  judged-here =
      let arg = (op_of op).argument (table_for p n s h a op) 0 (argument_for p n s h a op) in
      let here = stepped (table_for p n s h a op) 0 op (argument_for p n s h a op) ts in
      let there = stepped p n op a ts in
      ap (λ b. cond (b && others) here none) (sym (argument-same p n s h a op))
      ∙ with-argument ((op_of op).argument p n a) refl
      ∙ ap₂ (λ b c. cond b (cond c there none) none) (sym kept_here) (sym others-here)
      ∙ ap (λ o. cond (instruction_kept p place) (cond (free p place) o none) none) (sym step-here)
      ∙ ap (λ o. cond (instruction_kept p place) o none) (sym (read-on p place))
      ∙ sym (cond-two (instruction_kept p place) (reads p place) (some (after p place ts)))
