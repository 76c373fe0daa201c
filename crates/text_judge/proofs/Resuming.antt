-- A method judged from one instruction to the next.
use Prim.Native.Nat.{ℕ, zero, suc, ◌+◌, ◌-◌, ◌*◌, ◌≤◌, ◌<◌}
use native.Mathlib.Omega.{arith}
use native.Mathlib.Numerals.{add-one}
use mathlib.Core.Logic.{⊎_elim}
use mathlib.Core.Bool.{Bool, true, false, cond, ◌&&◌}
use mathlib.Core.Path.{◌≡◌, refl, sym, ap, ap₂, subst, ◌∙◌}
use mathlib.Core.List.{List, []}
use mathlib.Core.Option.{Option, none, some}
use lib.ListN.{get_or, length, take, drop}
use lib.Dec.{T, eqb, leb, ltb}
use mir.Facts.{and_yes, eqb_yes, leb_yes, ltb_yes}
use borrow.Author.Tests.{ltb-true, ltb-false, le-leb}
use Rattle.lists.proofs.Tests.{passes, never, or_cases, cond_both}
use Rattle.std.specs.Prelude.{Some, None}
use Rattle.std.specs.Prelude as prelude
use Rattle.std.specs.Option.{is_some}
use Rattle.table.specs.Table.{methods}
use Rattle.table.specs.Ops.{op_of}
use Rattle.table.proofs.Ops.{ops-opened}
use Rattle.check_types.specs.PendingCode.{result_in}
use Rattle.check_types.specs.declared.pending.Pending.{Pending}
use Rattle.text_judge.specs.RowsCode.{Subject, IsRow, no_row, two_rows, calls, argument_in, judged_at, op_in, arg_in, is_onto, callee_row, marked_in, judged_on, judged_to, is_kept, judged}
use Rattle.text_judge.specs.JudgeCode.{instruction_at, InCode, row_at, subject_in, wanted, MayCall}
use Rattle.text_judge.specs.ResumeCode.{IsMethod, InMethod}
use Rattle.text_judge.specs.declared.instruction.Counts.{Counts}
use Rattle.text_judge.specs.declared.instruction.Instruction.{Instruction}
use Rattle.text_judge.proofs.TwoRows.{no-row, two-methods}
use Rattle.text_judge.proofs.Marking.{marked-long, marked-onto}

-- A method that is not there

-- its number is 2 in the table of two
no-method : (p : List ℕ) (op : ℕ) (target last : Bool) (ts : List ℕ) → methods p ≡ 2 → T (calls op)
    → judged_at p op 2 target last ts ≡ none
unfolding calls judged_at ops-opened
no-method p op target last ts two t =
    ⊎_elim (λ u. subst None (sym (eqb_yes {a = op} {b = 12} u)) (by 12 refl))
    (λ u. subst None (sym (eqb_yes {a = op} {b = 14} u)) (by 14 refl)) (or_cases (eqb op 12) (eqb op 14) t)
  where
    None : ℕ → Type 0
    None op = judged_at p op 2 target last ts ≡ none

    by : (op : ℕ) → (op_of op).argument p 0 2 ≡ ltb 2 (methods p) → None op
    by op e = rw (e, two)

absent : (p : List ℕ) (op a count : ℕ) (target last : Bool) (ts : List ℕ) → methods p ≡ 2 → calls op ≡ true
    → ltb a count ≡ false → judged_at p op (argument_in count op a) target last ts ≡ none
unfolding argument_in
absent p op a count target last ts two c e = rw (c, e) (no-method p op target last ts two (passes c))

-- The row of a method at hand

pub row-taken : (rows : List ℕ) (a : ℕ) → take (18 * a + 18 - 18 * a) (drop (18 * a) rows) ≡ row_at rows a
unfolding row_at
row-taken rows a = ap (λ k. take k (drop (18 * a) rows)) {x = 18 * a + 18 - 18 * a} {y = 18} (omega arith)

-- The tests of the loop

-- a call of a method whose row is at hand
pub known-call : (op a k : ℕ) (b : Bool) → b ≡ calls op → (b && ltb a k) ≡ true → (calls op ≡ true) × (a < k)
known-call op a k true e t = (sym e, ltb-true a k t)
known-call op a k false e t = absurd (never t)

wanted-calls : (code : List ℕ) (n : Counts) (i : ℕ) → wanted code n i ≡ true → calls (op_in code i) ≡ true
unfolding wanted
wanted-calls code n i e = by (calls (op_in code i)) e
  where
    by : (b : Bool) → ((b && leb n.known (arg_in code i)) && ltb (arg_in code i) n.methods) ≡ true → b ≡ true
    by true q = refl
    by false q = absurd (never q)

-- not wanted and not known: there is no such method
not_there : (k a m : ℕ) (b : Bool) → b ≡ true → (b && ltb a k) ≡ false → ((b && leb k a) && ltb a m) ≡ false
    → ltb a m ≡ false
not_there k a m true c e f = rw (le-leb k a (ltb-false a k e)) at f
not_there k a m false c e f = absurd (never c)

-- where the rows of all methods are at hand, none is wanted
pub none-wanted : (code : List ℕ) (n : Counts) (i : ℕ) → n.methods ≤ n.known → ¬ (wanted code n i ≡ true)
unfolding wanted
none-wanted code n i l e =
    let a = arg_in code i in
    let (known, there) = and_yes (calls (op_in code i) && leb n.known a) (ltb a n.methods) (passes e) in
    let above : n.known ≤ a = leb_yes (and_yes (calls (op_in code i)) (leb n.known a) known).1 in
    let below : a < n.methods = ltb_yes there in
    omega arith

-- the marks are made in a list of zeros
pub in-method : (code own ts us : List ℕ) (n : Counts) → IsMethod code own n → n.long ≤ length ts
    → ((i : ℕ) → i < n.long → get_or ts i 0 ≡ 0) → us ≡ marked_in code n.long ts → InMethod code own us n
in-method code own ts us n h l z e =
    let long = ap length e ∙ marked-long code n.long ts in
    let short = h.short in
    record {
      words = h.words;
      short = short;
      own_row = h.own_row;
      few = h.few;
      marks = omega arith;
      marked = λ i k. ap (λ vs. ltb 0 (get_or vs i 0)) e
          ∙ marked-onto code ts i (omega arith) (z i k) n.long;
    }

-- One instruction

module _ (code own targets : List ℕ) (n : Counts) (h : InMethod code own targets n) (i : ℕ) (l : i < n.long) where
  pub in_code : InCode code targets n i
  in_code = record { words = h.words; short = h.short; marks = h.marks; within = l }

  abbrev here : Instruction
  here = instruction_at code targets n i

  pub wanted-so : (s : Instruction) → s ≡ here → wanted code n i ≡ true → calls s.op ≡ true
  unfolding instruction_at
  wanted-so s e w = ap (λ (s : Instruction). calls s.op) e ∙ wanted-calls code n i w

  -- the instruction judged in a table is the one that the judgement by rows means
  judged-so : (f : ℕ → List ℕ) (ts : List ℕ) (r : List ℕ) → r ≡ callee_row (subject_in code own n f) i
      → judged_at (two_rows own r n.long) here.op here.argument here.target here.last ts
      ≡ judged_on (subject_in code own n f) i (some ts)
  unfolding judged_on instruction_at
  judged-so f ts r e =
      ap₂ (λ c t. judged_at (two_rows own c n.long) here.op here.argument t here.last ts) e (h.marked i l)

  -- a call
  pub call-so : (f : ℕ → List ℕ) (ts : List ℕ) (r : List ℕ) (s : Instruction) → s ≡ here → calls s.op ≡ true
      → f (arg_in code i) ≡ r
      → judged_at (two_rows own r n.long) s.op s.argument s.target s.last ts
      ≡ judged_on (subject_in code own n f) i (some ts)
  unfolding callee_row instruction_at
  call-so f ts r s e c g =
      let calling : calls (op_in code i) ≡ true = ap (λ (s : Instruction). calls s.op) (sym e) ∙ c in
      ap (λ (s : Instruction). judged_at (two_rows own r n.long) s.op s.argument s.target s.last ts) e
      ∙ judged-so f ts r (sym g ∙ ap (λ b. cond b (f (arg_in code i)) no_row) (sym calling))

  -- any other, or a call of a method that is not there
  pub other-so : (f : ℕ → List ℕ) (ts : List ℕ) (s : Instruction) (b : Bool) → s ≡ here → b ≡ calls s.op
      → (b && ltb (arg_in code i) n.known) ≡ false → wanted code n i ≡ false
      → judged_at (two_rows own no_row n.long) s.op s.argument s.target s.last ts
      ≡ judged_on (subject_in code own n f) i (some ts)
  unfolding callee_row instruction_at wanted judged_on
  other-so f ts s b e c k w =
      ap (λ (s : Instruction). judged_at (two_rows own no_row n.long) s.op s.argument s.target s.last ts) e
      ∙ by (calls (op_in code i)) refl
    where
      same : b ≡ calls (op_in code i)
      same = c ∙ ap (λ (s : Instruction). calls s.op) e

      by : (t : Bool) → calls (op_in code i) ≡ t
          → judged_at (two_rows own no_row n.long) here.op here.argument here.target here.last ts
          ≡ judged_on (subject_in code own n f) i (some ts)
      by false q = judged-so f ts no_row (ap (λ b. cond b (f (arg_in code i)) no_row) (sym q))
      by true q =
          let far = not_there n.known (arg_in code i) n.methods (calls (op_in code i)) q
          (rw same at k) w in
          absent _ (op_in code i) (arg_in code i) n.methods here.target here.last ts
          (two-methods own no_row n.long) q far
          ∙ sym (absent _ (op_in code i) (arg_in code i) n.methods (is_onto code n.long i) here.last ts
          (two-methods own (callee_row (subject_in code own n f) i) n.long) q far)

  -- the rows by which it is judged
  pub may-call : (r : List ℕ) (s : Instruction) → s ≡ here → s.argument < 65536 → IsRow r → calls s.op ≡ true
      → MayCall own r n.long s
  unfolding instruction_at argument_in
  may-call r s e w row c = record {
    own_row = h.own_row;
    few = h.few;
    callee-row = row;
    many = λ k. (passes c, subst (λ (s : Instruction). 1 ≤ s.argument) (sym e) (named (calls (op_in code i)) calling));
    short = h.short;
    word = w;
  }
    where
      calling : calls (op_in code i) ≡ true
      calling = ap (λ (s : Instruction). calls s.op) (sym e) ∙ c

      there : Bool
      there = ltb (arg_in code i) n.methods

      named : (b : Bool) → b ≡ true → 1 ≤ cond b (cond there 1 2) (arg_in code i)
      named true q = cond_both (λ k. 1 ≤ k) there {x = 1} {y = 2} (omega arith) (omega arith)
      named false q = absurd (never q)

  pub calls-none : (s : Instruction) → s.argument < 65536 → MayCall own no_row n.long s
  unfolding no_row
  calls-none s w = record {
    own_row = h.own_row;
    few = h.few;
    callee-row = no-row;
    many = λ k. absurd (omega arith);
    short = h.short;
    word = w;
  }

-- From one instruction to the next

pub next-right : (s : Subject) (i : ℕ) (o : Option (List ℕ)) → o ≡ judged_to s i → judged_on s i o ≡ judged_to s (i + 1)
unfolding judged_to
next-right s i o e = rw (add-one i) (ap (judged_on s i) e)

-- nothing is judged yet
pub begins-right : (s : Subject) → some [] ≡ judged_to s 0
unfolding judged_to
begins-right s = refl

-- The answer

-- after a fault nothing is right again
fault-stays : (s : Subject) (i k : ℕ) → judged_to s i ≡ none → judged_to s (k + i) ≡ none
unfolding judged_to judged_on
fault-stays s i zero e = ap (judged_to s) {x = 0 + i} {y = i} (omega arith) ∙ e
fault-stays s i (suc k) e =
    ap (judged_to s) {x = suc k + i} {y = suc (k + i)} (omega arith) ∙ ap (judged_on s (k + i)) (fault-stays s i k e)

-- all is judged, or an instruction is at fault
pub answer-right : (s : Subject) (i : ℕ) (o : prelude.Option Pending) → i ≤ s.long → (i < s.long → is_some o ≡ true → ⊥)
    → result_in o ≡ judged_to s i → is_some o ≡ judged s
unfolding judged
answer-right s i None l end e =
    let back : s.long - i + i ≡ s.long = omega arith in
    sym (ap is_kept (ap (judged_to s) (sym back) ∙ fault-stays s i (s.long - i) (sym e)))
answer-right s i (Some q) l end e =
    let last : ¬ (i < s.long) = λ k. end k refl in
    let all : i ≡ s.long = omega arith in
    sym (ap is_kept (ap (judged_to s) (sym all) ∙ sym e))
