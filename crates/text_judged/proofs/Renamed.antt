-- A method is judged alike however the methods that it calls are named.
use Prim.Native.Nat.{ℕ, zero, suc, ◌+◌, ◌≤◌, ◌<◌}
use native.Mathlib.Omega.{arith}
use mathlib.Core.Logic.{⊎_elim}
use mathlib.Core.Path.{◌≡◌, refl, sym, ap, ap₂, ◌∙◌}
use mathlib.Core.Bool.{Bool, true, false, ◌&&◌, ◌||◌, not}
use mathlib.Core.List.{List}
use mathlib.Core.Option.{Option, none, some}
use lib.ListN.{length}
use lib.Dec.{eqb, ltb}
use borrow.Author.Tests.{lt-ltb}
use mir.Facts.{eqb_yes}
use Rattle.lists.specs.Lists.{any, below}
use Rattle.lists.proofs.Tests.{never, or_cases, passes}
use Rattle.table.specs.Ops.{op_of}
use Rattle.table.proofs.Ops.{ops-opened}
use Rattle.check_arguments.proofs.Marks.{any_last}
use Rattle.text.specs.Tree.{Method}
use Rattle.text.specs.Translation.{row_words}
use Rattle.text_judge.specs.RowsCode.{Subject, no_row, two_rows, calls, argument_in, judged_at, op_in, arg_in, jumps_onto, is_onto, callee_row, judged_on, judged_to, is_kept, judged}
use Rattle.text_judge.proofs.TwoRows.{two-length}
use Rattle.text_rows.specs.Header.{as_word, header_words}
use Rattle.text_judged.specs.JudgedCode.{plain_op}
use Rattle.text_judged.proofs.Capped.{word-judged, word-onto}
use Rattle.text_judged.proofs.Headers.{call-judged}

-- Instruction i, as two codes have it: the same argument as far as a word says it, or a call of the same method.
pub data Renamed (f g : ℕ → List ℕ) (k l : ℕ) (code words : List ℕ) (i : ℕ) : Type 0 where
  same_op : (op a : ℕ) → plain_op op ≡ true → op_in code i ≡ op → arg_in code i ≡ a → op_in words i ≡ op
      → arg_in words i ≡ as_word a → Renamed f g k l code words i
  same-call : (op : ℕ) (m : Method) → calls op ≡ true → op_in code i ≡ op → op_in words i ≡ op
      → arg_in code i < k → arg_in words i < l → f (arg_in code i) ≡ row_words m → g (arg_in words i) ≡ header_words m
      → Renamed f g k l code words i

pub plain-calls : (op : ℕ) → plain_op op ≡ true → calls op ≡ false
unfolding plain_op
plain-calls op e = by (ltb op 24) (calls op) e
  where
    by : (a b : Bool) → (a && not b) ≡ true → b ≡ false
    by true true q = never q
    by true false q = refl
    by false b q = never q

calls-no-jump : (op : ℕ) → calls op ≡ true → (op_of op).jumps ≡ false
unfolding calls ops-opened
calls-no-jump op e =
    ⊎_elim (λ u. ap (λ o. (op_of o).jumps) (eqb_yes {a = op} {b = 12} u))
    (λ u. ap (λ o. (op_of o).jumps) (eqb_yes {a = op} {b = 14} u)) (or_cases (eqb op 12) (eqb op 14) (passes e))

any_same : (f g : ℕ → Bool) (n : ℕ) → ((j : ℕ) → j < n → f j ≡ g j) → any f (below n) ≡ any g (below n)
unfolding below
any_same f g zero h = refl
any_same f g (suc n) h =
    any_last f (below n) n
    ∙ ap₂ (λ a b. a || b) (any_same f g n (λ j l. h j (omega arith))) (h n (omega arith))
    ∙ sym (any_last g (below n) n)

-- an instruction as it is judged: one that calls no method, and a call
plain-view : (s : Subject) (i op : ℕ) (ts : List ℕ) → op_in s.code i ≡ op → calls op ≡ false
    → judged_on s i (some ts)
    ≡ judged_at (two_rows s.own no_row s.long) op (arg_in s.code i) (is_onto s.code s.long i)
    (eqb (i + 1) s.long) ts
unfolding judged_on callee_row argument_in
plain-view s i op ts e c = rw (e, c) refl

call-view : (s : Subject) (i op : ℕ) (r ts : List ℕ) → op_in s.code i ≡ op → calls op ≡ true
    → arg_in s.code i < s.methods → s.row_of (arg_in s.code i) ≡ r
    → judged_on s i (some ts)
    ≡ judged_at (two_rows s.own r s.long) op 1 (is_onto s.code s.long i) (eqb (i + 1) s.long) ts
unfolding judged_on callee_row argument_in
call-view s i op r ts e c l q = rw (e, c, lt-ltb (arg_in s.code i) s.methods l, q) refl

module _ (own : List ℕ) (o : length own ≡ 18) (long : ℕ) (short : long ≤ 4096) (f g : ℕ → List ℕ) (k l : ℕ)
    (code words : List ℕ) (all : (i : ℕ) → i < long → Renamed f g k l code words i) where
  abbrev s : Subject
  s = record { own = own; row_of = f; methods = k; long = long; code = code }

  abbrev t : Subject
  t = record { own = own; row_of = g; methods = l; long = long; code = words }

  jump-same : (i j : ℕ) → i < 4096 → Renamed f g k l code words j → jumps_onto code i j ≡ jumps_onto words i j
  unfolding jumps_onto
  jump-same i j h (same_op op a p e q e' q') =
      ap₂ (λ o b. (op_of o).jumps && eqb b i) e q ∙ ap (λ b. (op_of op).jumps && b) (sym (word-onto a i h))
      ∙ sym (ap₂ (λ o b. (op_of o).jumps && eqb b i) e' q')
  jump-same i j h (same-call op m c e e' x y u v) =
      ap (λ o. (op_of o).jumps && eqb (arg_in code j) i) e ∙ ap (λ b. b && eqb (arg_in code j) i) (calls-no-jump op c)
      ∙ sym (ap (λ o. (op_of o).jumps && eqb (arg_in words j) i) e'
      ∙ ap (λ b. b && eqb (arg_in words j) i) (calls-no-jump op c))

  onto_same : (i : ℕ) → i < long → is_onto code long i ≡ is_onto words long i
  unfolding is_onto
  onto_same i h = any_same (jumps_onto code i) (jumps_onto words i) long (λ j n. jump-same i j (omega arith) (all j n))

  on_same : (i : ℕ) → i < long → (ts : List ℕ) → Renamed f g k l code words i
      → judged_on s i (some ts) ≡ judged_on t i (some ts)
  on_same i h ts (same_op op a p e q e' q') =
      let c = plain-calls op p in
      let last = eqb (i + 1) long in
      plain-view s i op ts e c
      ∙ ap₂ (λ b u. judged_at (two_rows own no_row long) op b u last ts) q (onto_same i h)
      ∙ sym (word-judged (two_rows own no_row long) op a (is_onto words long i) last ts
      (omega (arith, two-length own no_row long)) p)
      ∙ ap (λ b. judged_at (two_rows own no_row long) op b (is_onto words long i) last ts) (sym q')
      ∙ sym (plain-view t i op ts e' c)
  on_same i h ts (same-call op m c e e' x y u v) =
      let last = eqb (i + 1) long in
      call-view s i op (row_words m) ts e c x u
      ∙ ap (λ b. judged_at (two_rows own (row_words m) long) op 1 b last ts) (onto_same i h)
      ∙ call-judged own long m o (is_onto words long i) last ts op c
      ∙ sym (call-view t i op (header_words m) ts e' c y v)

  to_same : (i : ℕ) → i ≤ long → judged_to s i ≡ judged_to t i
  unfolding judged_to judged_on
  to_same zero h = refl
  to_same (suc i) h = ap (judged_on s i) (to_same i (omega arith)) ∙ by (judged_to t i)
    where
      by : (r : Option (List ℕ)) → judged_on s i r ≡ judged_on t i r
      by none = refl
      by (some ts) = on_same i (omega arith) ts (all i (omega arith))

  pub judged-same : judged s ≡ judged t
  unfolding judged
  judged-same = ap is_kept (to_same long (omega arith))
