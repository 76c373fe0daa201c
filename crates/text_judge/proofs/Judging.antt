-- The tests of one instruction as the code puts them.
use Prim.Native.Nat.{ℕ, ◌+◌, ◌*◌, ◌≤◌, ◌<◌}
use native.Mathlib.Omega.{arith}
use mathlib.Core.Logic.{⊎_elim}
use mathlib.Core.Bool.{Bool, true, false, cond, ◌&&◌, ◌||◌, not, and-false, not-not}
use mathlib.Core.Path.{◌≡◌, refl, sym, ap, ap₂, subst, ◌∙◌}
use mathlib.Core.List.{List, ◌∷◌}
use mathlib.Core.Option.{Option, none}
use lib.ListN.{get_or, length, replicate}
use lib.Seq.{take_all}
use lib.Dec.{T, eqb, ltb}
use mir.Facts.{eqb_yes}
use borrow.Author.Tests.{lt-leb, ltb-true}
use Rattle.lists.proofs.Tests.{decide, passes, or_cases, off, on}
use Rattle.table.specs.Table.{word, methods, offset_of, length_of, end_of, row, params_of}
use Rattle.table.specs.Ops.{op_of}
use Rattle.table.specs.Reading.{is_nil}
use Rattle.table.proofs.Ops.{ops-opened}
use Rattle.check_arguments.specs.LimitsCode.{limits_for}
use Rattle.check_instructions.specs.OwnersCode.{owner_in}
use Rattle.check_instructions.specs.declared.owner.Owner.{Owner}
use Rattle.check_types.specs.PendingCode.{types_of}
use Rattle.check_types.specs.RulesCode.{rule_result, step_of, stepped, Ready}
use Rattle.check_types.specs.declared.pending.Pending.{Pending}
use Rattle.check_types.proofs.Packed.{types-length}
use Rattle.check_types.proofs.Readings.{none_in, not-both}
use Rattle.text_judge.specs.RowsCode.{copied, two_rows, calls, judged_at}
use Rattle.text_judge.specs.JudgeCode.{TwoMethods, MayCall}
use Rattle.text_judge.specs.declared.instruction.Instruction.{Instruction}
use Rattle.text_judge.proofs.TwoRows.{two-sizes, two-methods, two-length, two-kept, callee-params}

-- The table

-- as it is built
pub two-built : (own callee : List ℕ) (long : ℕ) → length own ≡ 18 → length callee ≡ 18
    → copied (copied (2 ∷ 1 ∷ 0 ∷ long ∷ replicate 40 0) 24 callee 18) 6 own 18 ≡ two_rows own callee long
unfolding two_rows copied
two-built own callee long o c =
    rw (take_all 18 own (omega arith), take_all 18 callee (omega arith))

two-begins : (own callee : List ℕ) (long : ℕ) → offset_of (two_rows own callee long) 0 ≡ 0
unfolding offset_of word two_rows
two-begins own callee long = refl

-- with rows that keep their rule
pub two-rows-kept : (own callee : List ℕ) (long : ℕ) (s : Instruction) (p : List ℕ) → MayCall own callee long s
    → get_or callee 1 0 ≤ 8 → p ≡ two_rows own callee long → TwoMethods p long
two-rows-kept own callee long s p h few e = subst (λ t. TwoMethods t long) (sym e) (record {
  sizes = two-sizes own callee long h.own_row.words h.callee-row.words;
  rows = two-kept own callee long h.own_row h.callee-row h.few few;
  two = two-methods own callee long;
  begin = two-begins own callee long;
  instructions = two-length own callee long;
})

-- method 0 as the owner of the instruction
module _ (p : List ℕ) (long : ℕ) (h : TwoMethods p long) where
  pub two-owner : record { method = 0; row = 6; start = 0; end = long } ≡ owner_in p 0
  unfolding owner_in row end_of
  two-owner =
      let at : 6 ≡ 2 + 2 * methods p + 18 * 0 = omega (arith, h.two) in
      let end : long ≡ offset_of p 0 + length_of p 0 = omega (arith, h.begin, h.instructions) in
      ap₂ (λ k e. record { method = 0; row = k; start = 0; end = e }) at end
      ∙ ap (λ k. record { method = 0; row = row p 0; start = k; end = end_of p 0 }) (sym h.begin)

  pub two-some : 0 < methods p
  two-some = omega (arith, h.two)

  pub two-limits : {ls : List ℕ} → ls ≡ limits_for 2 → ls ≡ limits_for (methods p)
  two-limits e = e ∙ ap limits_for (sym h.two)

-- The tests

module _ (p : List ℕ) (op a : ℕ) (target last : Bool) (q : Pending) where
  -- as the questions put them, and as the code does
  target-test : (not target || is_nil (types_of q)) ≡ not (target && not (eqb q.count 0))
  target-test =
      ap (λ b. not target || b) (none_in q.count q.types ∙ sym (not-not (eqb q.count 0)))
      ∙ not-both target (not (eqb q.count 0))

  last-test : (c : Bool) → c ≡ (op_of op).closes → (not last || (op_of op).closes) ≡ not (last && not c)
  last-test c e = ap (λ b. not last || b) (sym e ∙ sym (not-not c)) ∙ not-both last (not c)

  -- an argument out of range
  pub no-argument : (b : Bool) → b ≡ (op_of op).argument p 0 a → not b ≡ true
      → none ≡ judged_at p op a target last (types_of q)
  unfolding judged_at
  no-argument b e f = rw (sym e ∙ off b f)

  -- a target with values pending
  pub no_target : (target && not (eqb q.count 0)) ≡ true → none ≡ judged_at p op a target last (types_of q)
  unfolding judged_at
  no_target e = rw (target-test, e, and-false)

  -- a last instruction that does not close its method
  pub no_end : (c : Bool) → c ≡ (op_of op).closes → (last && not c) ≡ true
      → none ≡ judged_at p op a target last (types_of q)
  unfolding judged_at
  no_end c e f = rw (last-test c e, f, and-false, and-false)

  -- any other
  pub all-kept : (b c : Bool) → b ≡ (op_of op).argument p 0 a → not b ≡ false
      → (target && not (eqb q.count 0)) ≡ false → c ≡ (op_of op).closes → (last && not c) ≡ false
      → stepped p 0 op a (types_of q) ≡ judged_at p op a target last (types_of q)
  unfolding judged_at
  all-kept b c d e f g h = rw (sym d ∙ on b e, target-test, f, last-test c g, h)

-- what `step` asks for
pub two_ready : (p : List ℕ) (long : ℕ) (o : Owner) (op a : ℕ) (b : Bool) → TwoMethods p long
    → o ≡ owner_in p 0 → o.method ≡ 0 → b ≡ (op_of op).argument p 0 a → not b ≡ false
    → Ready p 2 o op a
two_ready p long o op a b h e m d f = record {
  sizes = h.sizes;
  rows = h.rows;
  methods-count = sym h.two;
  owner = e ∙ ap (owner_in p) (sym m);
  method = subst (λ k. k < methods p) (sym m) (two-some p long h);
  argument = subst (λ k. T ((op_of op).argument p k a)) (sym m) (passes (sym d ∙ on b f));
}

-- A call of a method with more than 8 parameters

-- more than can be pending are taken
many-taken : (n : ℕ) (rule : List ℕ → Option (List ℕ)) (bare : Bool) (ts : List ℕ) → length ts < n
    → step_of n rule bare ts ≡ none
unfolding step_of rule_result
many-taken n rule bare ts l = rw (lt-leb n (length ts) l)

cond-none : (b : Bool) → ◌≡◌ {A = Option (List ℕ)} none (cond b none none)
cond-none true = refl
cond-none false = refl

module _ (p : List ℕ) (a : ℕ) (target last : Bool) (ts : List ℕ) (two : methods p ≡ 2) (many : length ts < params_of p 1)
    (some-a : 1 ≤ a) where
  -- its number is 1, or there is no such method
  abbrev None : ℕ → Type 0
  None op = none ≡ judged_at p op a target last ts

  by-callee : (op : ℕ) → (op_of op).argument p 0 a ≡ ltb a (methods p)
      → (a ≡ 1 → stepped p 0 op a ts ≡ none) → None op
  unfolding judged_at
  by-callee op e f = ⊎_elim one more (decide (ltb a 2))
    where
      one : ltb a 2 ≡ true → None op
      one q =
          rw (f (omega (arith, ltb-true a 2 q)))
          (cond-none ((op_of op).argument p 0 a && ((not target || is_nil ts) && (not last || (op_of op).closes))))

      more : ltb a 2 ≡ false → None op
      more q = rw (e, two, q)

  call_none : None 12
  unfolding ops-opened stepped
  call_none = by-callee 12 refl (λ e. rw e (many-taken (params_of p 1) _ false ts many))

  fork-none : None 14
  unfolding ops-opened stepped
  fork-none = by-callee 14 refl (λ e. rw e (many-taken (params_of p 1) _ true ts many))

  calls-none : (op : ℕ) → T (calls op) → None op
  unfolding calls
  calls-none op t =
      ⊎_elim (λ u. subst None (sym (eqb_yes {a = op} {b = 12} u)) call_none)
      (λ u. subst None (sym (eqb_yes {a = op} {b = 14} u)) fork-none) (or_cases (eqb op 12) (eqb op 14) t)

pub many-none : (own callee : List ℕ) (long : ℕ) (s : Instruction) (q : Pending) → MayCall own callee long s
    → 8 < get_or callee 1 0
    → none ≡ judged_at (two_rows own callee long) s.op s.argument s.target s.last (types_of q)
many-none own callee long s q h many =
    let (call, some-a) = h.many many in
    let params = callee-params own callee long h.own_row.words h.callee-row.words in
    calls-none (two_rows own callee long) s.argument s.target s.last (types_of q)
    (two-methods own callee long) (omega (arith, types-length q.count q.types, q.few, params)) some-a s.op call
