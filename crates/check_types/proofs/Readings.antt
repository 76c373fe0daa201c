-- Question 5 at one instruction: its tests as the code puts them, and the types pending before the next.
use Prim.Native.Nat.{ℕ, zero, suc, ◌+◌, ◌<◌}
use native.Mathlib.Omega.{arith}
use native.Mathlib.Numerals.{add-one}
use mathlib.Core.Logic.{⊎_elim}
use mathlib.Core.Bool.{Bool, true, false, cond, ◌&&◌, ◌||◌, not, and-false, not-not}
use mathlib.Core.Path.{◌≡◌, refl, sym, ap, ap₂, ◌∙◌}
use mathlib.Core.List.{List, [], ◌++◌}
use mathlib.Core.Option
use mathlib.Core.Option.{Option, none, some, none-ne-some}
use lib.ListN.{get_or, length, drop}
use lib.Dec.{eqb, leb, ltb, leb-zero, leb-suc-suc, eqb-suc-zero}
use borrow.Author.Tests.{eqb-false}
use Rattle.lists.proofs.Tests.{decide, passes, cond_both}
use Rattle.table.specs.Table.{instructions, end_of, op_at, arg_at, owner_of}
use Rattle.table.specs.Ops.{op_of}
use Rattle.table.specs.Reading.{op_there, taken_at, given_at, after, opens, is_last, before, is_target, is_none, is_nil, reads}
use Rattle.table.specs.Questions.{instruction_kept}
use Rattle.table.proofs.Accepted.{Sizes, Pairs, ReadAt, read_kept}
use Rattle.table.proofs.Owners.{owner-inside}
use Rattle.table.proofs.Before.{before-within}
use Rattle.check_instructions.specs.OwnersCode.{owner_at}
use Rattle.check_types.specs.PendingCode.{types_in, types_of}
use Rattle.check_types.specs.RulesCode.{rule_result, step_of, stepped, Ready}
use Rattle.check_types.specs.ReadOnCode.{read_on, FirstFour, ReadingPoint}
use Rattle.check_instructions.specs.declared.owner.Owner.{Owner}
use Rattle.check_types.specs.declared.pending.Pending.{Pending}
use Rattle.table.proofs.Ops.{closes-bare}
use Rattle.check_instructions.proofs.Owners.{owner-method, owner-end, owner-known, owner-listed}

-- The tests of question 5, the operands' first

both-pass : (x y b : Bool) (o : Option (List ℕ)) → cond (x && (y && b)) o none ≡ cond b (cond (x && y) o none) none
both-pass true true b o = refl
both-pass true false true o = refl
both-pass true false false o = refl
both-pass false y true o = refl
both-pass false y false o = refl

result-passes : (g : Option (List ℕ)) (rest : List ℕ) (bare b : Bool)
    → cond
    (not (is_none g) &&
    (leb (length (Option.get_or g [] ++ rest)) 8 && ((not bare || is_nil (Option.get_or g [] ++ rest)) && b)))
    (some (Option.get_or g [] ++ rest)) none
    ≡ cond b (rule_result bare rest g) none
unfolding rule_result
result-passes none rest bare true = refl
result-passes none rest bare false = refl
result-passes (some gs) rest bare b =
    both-pass (leb (length (gs ++ rest)) 8) (not bare || is_nil (gs ++ rest)) b (some (gs ++ rest))

-- those that the operands do not decide
abbrev pub free : List ℕ → ℕ → Bool
free p i = (not (is_target p i) || is_nil (before p i)) && (not (is_last p i) || (op_there p i).closes)

pub read-on : (p : List ℕ) (i : ℕ)
    → read_on p i ≡ cond (free p i) (stepped p (owner_of p i) (op_at p i) (arg_at p i) (before p i)) none
unfolding read_on reads after stepped step_of given_at taken_at
read-on p i = result-passes (given_at p i (before p i)) (drop (taken_at p i) (before p i)) (op_there p i).bare (free p i)

-- The same tests as the code puts them

above_zero : (t : ℕ) → ltb 0 t ≡ not (eqb t 0)
above_zero zero = refl
above_zero (suc t) = rw (leb-suc-suc 0 t, leb-zero t, eqb-suc-zero t)

pub none_in : (n w : ℕ) → is_nil (types_in n w) ≡ eqb n 0
unfolding types_in
none_in zero w = refl
none_in (suc n) w = sym (eqb-suc-zero n)

pub not-both : (a b : Bool) → (not a || not b) ≡ not (a && b)
not-both true b = refl
not-both false b = refl

module _ (p : List ℕ) (count : ℕ) (o : Owner) (i target : ℕ) (q : Pending) (h : ReadingPoint p count o i target q) where
  target_free : (not (is_target p i) || is_nil (before p i)) ≡ not (not (eqb target 0) && not (eqb q.count 0))
  target_free =
      ap₂ (λ t b. not t || b) (sym h.mark ∙ above_zero target)
      (ap is_nil (sym h.types) ∙ none_in q.count q.types ∙ sym (not-not (eqb q.count 0)))
      ∙ not-both (not (eqb target 0)) (not (eqb q.count 0))

  -- a target with values pending
  pub read-target : (not (eqb target 0) && not (eqb q.count 0)) ≡ true → none ≡ read_on p i
  read-target t = sym (read-on p i ∙ rw (target_free, t))

  module _ (op a : ℕ) (c : Bool) (k : op ≡ op_at p i) (l : a ≡ arg_at p i) (e : c ≡ (op_of op).closes) where
    last-free : (not (is_last p i) || (op_there p i).closes) ≡ not (eqb (i + 1) o.end && not c)
    unfolding is_last
    last-free =
        ap₂ (λ t b. not t || b) (ap₂ eqb (sym (add-one i)) (sym (owner-end p (owner_of p i) o h.owner)))
        (ap (λ n. (op_of n).closes) (sym k) ∙ sym e ∙ sym (not-not c))
        ∙ not-both (eqb (i + 1) o.end) (not c)

    pub ready : Ready p count o op a
    unfolding instruction_kept
    ready =
        let method = owner-method p (owner_of p i) o h.owner in
        record {
          sizes = h.sizes;
          rows = h.rows;
          methods-count = h.methods-count;
          owner = owner-known p (owner_of p i) o h.owner;
          method = owner-listed p h.sizes h.pairs i o h.owner h.within;
          argument = rw (k, l, method) h.kept;
        }

    -- a last instruction that does not close its method
    pub read-last : (eqb (i + 1) o.end && not c) ≡ true → none ≡ read_on p i
    read-last t = sym (read-on p i ∙ rw (last-free, t, and-false))

    -- any other
    pub read-steps : (not (eqb target 0) && not (eqb q.count 0)) ≡ false → (eqb (i + 1) o.end && not c) ≡ false
        → stepped p o.method op a (types_of q) ≡ read_on p i
    read-steps t u =
        let method = owner-method p (owner_of p i) o h.owner in
        rw (k, l, method, h.types) (sym (read-on p i ∙ rw (target_free, last-free, t, u)))

-- From one instruction to the next

pub read-begins : (p : List ℕ) → [] ≡ before p 0
unfolding before
read-begins p = refl

-- where instruction i is the last of its method it leaves nothing, and elsewhere the next belongs to the same method
before-step : (p : List ℕ) → Sizes p → Pairs p → (i : ℕ) → i < instructions p → reads p i ≡ true
    → before p (suc i) ≡ after p i (before p i)
unfolding before is_last
before-step p s k i h e = ⊎_elim last more (decide (is_last p i))
  where
    here : ReadAt p i
    here = read_kept p i (passes e)

    last : is_last p i ≡ true → before p (suc i) ≡ after p i (before p i)
    last q =
        let bare = here.bare (closes-bare (op_at p i) (here.closes (passes q))) in
        rw bare (cond_both (λ (ts : List ℕ). ts ≡ []) (opens p (suc i)) refl refl)

    more : is_last p i ≡ false → before p (suc i) ≡ after p i (before p i)
    more q =
        let inside = owner-inside p s k i h in
        let ahead = eqb-false (suc i) (end_of p (owner_of p i)) q in
        before-within p s k inside (record { method = inside.method; from-offset = omega arith; ahead = omega arith })

pub read-halts : (p : List ℕ) (i : ℕ) → none ≡ read_on p i → reads p i ≡ false
unfolding read_on
read-halts p i e = by (reads p i) e
  where
    by : (b : Bool) → none ≡ cond b (some (after p i (before p i))) none → b ≡ false
    by true r = absurd (none-ne-some _ r)
    by false r = refl

pub read-goes-on : (p : List ℕ) (i : ℕ) (ts : List ℕ) → some ts ≡ read_on p i → Sizes p → Pairs p → i < instructions p
    → (reads p i ≡ true) × (ts ≡ before p (i + 1))
unfolding read_on
read-goes-on p i ts e s k h = by (reads p i) refl e
  where
    by : (b : Bool) → reads p i ≡ b → some ts ≡ cond b (some (after p i (before p i))) none
        → (reads p i ≡ true) × (ts ≡ before p (i + 1))
    by true t r = (t, rw (add-one i) (cc (before-step p s k i h t)))
    by false t r = absurd (none-ne-some _ (sym r))

-- an instruction of a table that has passed questions 1 to 4
pub to_read : (p : List ℕ) (count n : ℕ) (targets : List ℕ) → FirstFour p count n targets
    → (o : Owner) (i : ℕ) (q : Pending)
    → i < n → o ≡ owner_at p i → types_of q ≡ before p i
    → ReadingPoint p count o i (get_or targets i 0) q
to_read p count n targets h o i q l e types =
    let within : i < instructions p = omega (arith, h.instructions-count) in
    record {
      sizes = h.sizes;
      pairs = h.pairs;
      rows = h.rows;
      methods-count = h.methods-count;
      within = within;
      kept = h.code i within;
      owner = e;
      mark = h.marks i l;
      types = types;
    }
