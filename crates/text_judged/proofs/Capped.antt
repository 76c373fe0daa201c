-- An argument above 65,534 is out of every op's range, or does not count: so 65,535 may stand for it.
use Prim.Native.Nat.{ℕ, ◌≤◌, ◌<◌}
use native.Mathlib.Omega.{arith}
use mathlib.Core.Path.{◌≡◌, refl, sym, ◌∙◌}
use mathlib.Core.Bool.{Bool, true, false, cond, ◌&&◌, not}
use mathlib.Core.List.{List}
use mathlib.Core.Option.{Option, none}
use lib.Dec.{eqb, leb, ltb}
use borrow.Author.Tests.{ne_eqb, ltb-false, le-ltb, lt-leb}
use Rattle.lists.proofs.Tests.{never}
use Rattle.lists.proofs.Numbers.{by_number, ◌▹◌}
use Rattle.table.specs.Table.{length_of, slot_type, is_carried}
use Rattle.table.proofs.Ops.{ops-opened}
use Rattle.check_types.specs.RulesCode.{stepped}
use Rattle.text_judge.specs.RowsCode.{calls, judged_at}
use Rattle.text_rows.specs.Header.{as_word}
use Rattle.text_judged.specs.JudgedCode.{plain_op}

and-off : (a b : Bool) → b ≡ false → (a && b) ≡ false
and-off true b e = e
and-off false b e = refl

off-and : (a b : Bool) → a ≡ false → (a && b) ≡ false
off-and true b e = absurd (never (sym e))
off-and false b e = refl

-- an argument that is out of range
out : (x o : Bool) (u : Option (List ℕ)) → x ≡ false → cond (x && o) u none ≡ none
out true o u e = absurd (never (sym e))
out false o u e = refl

far : (a k : ℕ) → k < a → leb a k ≡ false
far a k l = lt-leb a k l

module _ (p : List ℕ) (a : ℕ) (target last : Bool) (ts : List ℕ) (short : length_of p 0 ≤ 4096) (large : 65535 ≤ a) where
  abbrev Same : ℕ → Type 0
  Same op = plain_op op ≡ true → judged_at p op 65535 target last ts ≡ judged_at p op a target last ts

  zero-out : eqb a 0 ≡ false
  zero-out = ne_eqb a 0 (λ e. omega arith)

  one_out : leb a 1 ≡ false
  one_out = far a 1 (omega arith)

  slot-out : (ltb a 16 && not (eqb (slot_type p 0 a) 0)) ≡ false
  slot-out = off-and (ltb a 16) (not (eqb (slot_type p 0 a) 0)) (le-ltb a 16 (omega arith))

  carried-out : is_carried a ≡ false
  carried-out = and-off (leb 1 a) (leb a 3) (far a 3 (omega arith))

  gate-out : (leb 1 a && leb a 8) ≡ false
  gate-out = and-off (leb 1 a) (leb a 8) (far a 8 (omega arith))

  target-out : ltb a (length_of p 0) ≡ false
  target-out = le-ltb a (length_of p 0) (omega arith)

  target-far : ltb 65535 (length_of p 0) ≡ false
  target-far = le-ltb 65535 (length_of p 0) (omega arith)

  same_out : (op : ℕ) → Same op
  unfolding ops-opened calls plain_op judged_at stepped
  same_out =
      by_number Same 24
      ((λ t. refl) ▹ (λ t. refl) ▹ (λ t. sym (out _ _ _ one_out))
      ▹ (λ t. sym (out _ _ _ slot-out)) ▹ (λ t. sym (out _ _ _ slot-out))
      ▹ (λ t. sym (out _ _ _ zero-out)) ▹ (λ t. sym (out _ _ _ slot-out))
      ▹ (λ t. sym (out _ _ _ zero-out)) ▹ (λ t. sym (out _ _ _ carried-out))
      ▹ (λ t. sym (out _ _ _ one_out)) ▹ (λ t. sym (out _ _ _ gate-out))
      ▹ (λ t. sym (out _ _ _ zero-out))
      ▹ (λ t. never t) ▹ (λ t. sym (out _ _ _ zero-out)) ▹ (λ t. never t)
      ▹ (λ t. sym (out _ _ _ zero-out)) ▹ (λ t. sym (out _ _ _ zero-out))
      ▹ (λ t. out _ _ _ target-far ∙ sym (out _ _ _ target-out)) ▹ (λ t. out _ _ _ target-far ∙ sym (out _ _ _
      target-out))
      ▹ (λ t. sym (out _ _ _ zero-out)) ▹ (λ t. sym (out _ _ _ zero-out))
      ▹ (λ t. sym (out _ _ _ zero-out)) ▹ (λ t. sym (out _ _ _ zero-out))
      ▹ (λ t. sym (out _ _ _ zero-out))
      ▹ (λ k t. refl))

pub word-judged : (p : List ℕ) (op a : ℕ) (target last : Bool) (ts : List ℕ) → length_of p 0 ≤ 4096 → plain_op op ≡ true
    → judged_at p op (as_word a) target last ts ≡ judged_at p op a target last ts
unfolding as_word
word-judged p op a target last ts short e = by (ltb a 65535) refl
  where
    by : (b : Bool) → ltb a 65535 ≡ b
        → judged_at p op (cond b a 65535) target last ts ≡ judged_at p op a target last ts
    by true q = refl
    by false q = same_out p a target last ts short (ltb-false a 65535 q) op e

-- it is no jump's target
pub word-onto : (a i : ℕ) → i < 4096 → eqb (as_word a) i ≡ eqb a i
unfolding as_word
word-onto a i l = by (ltb a 65535) refl
  where
    by : (b : Bool) → ltb a 65535 ≡ b → eqb (cond b a 65535) i ≡ eqb a i
    by true q = refl
    by false q =
        let large = ltb-false a 65535 q in
        ne_eqb 65535 i (λ e. omega arith) ∙ sym (ne_eqb a i (λ e. omega arith))
