-- What a table that passes questions 1 to 5 is known to keep: one record of plain facts, `Kept`, derived from the
-- questions' tests. Whoever runs or reads an accepted table starts from here.
use Prim.Native.Nat.{ℕ, suc, ◌+◌, ◌*◌, ◌-◌, ◌≤◌, ◌<◌}
use native.Mathlib.Omega.{arith}
use mathlib.Core.Logic.{◌≢◌}
use mathlib.Core.Bool.{Bool, true, false, cond, ◌&&◌, ◌||◌, not}
use mathlib.Core.Path.{◌≡◌, refl, sym, subst}
use mathlib.Core.List.{List, [], ◌∷◌}
use mathlib.Core.Option.{Option, none, some}
use lib.ListN.{length}
use lib.Dec.{T, eqb, leb, ltb}
use mir.Facts.{and_yes, leb_yes, eqb_yes, eqb_no, yes_ltb}
use borrow.Author.Tests.{ltb-false}
use Rattle.lists.specs.Lists.{first_false, all_below}
use Rattle.lists.proofs.Tests.{passes}
use Rattle.lists.proofs.First.{first_false-all, all_below-all}
use Rattle.table.specs.Table.{methods, instructions, offset_of, length_of, end_of, return_of, params_of, slot_type, arg_at, owner_of, is_type}
use Rattle.table.specs.Reading.{op_there, given_at, after, before, is_target, is_last, is_none, is_nil, reads}
use Rattle.table.specs.Questions.{Verdict, accepted, refused, and_then, whole, first_of, sizes_kept, question1, start_of, pair_kept, question2, slot_kept, row_kept, question3, instruction_kept, question4, question5, table_questions, Accepted}

-- A verdict that accepts

refused≢accepted : (n i : ℕ) → refused n i ≡ accepted → ⊥
refused≢accepted n i e = let z : ◌≡◌ {A = ℕ} 0 1 = cc in omega arith

and_then-accepted : (v w : Verdict) → and_then v w ≡ accepted → (v ≡ accepted) × (w ≡ accepted)
unfolding and_then
and_then-accepted accepted w e = (refl, e)
and_then-accepted (refused n i) w e = absurd (refused≢accepted n i e)

choice-accepted : (b : Bool) (n i : ℕ) → cond b accepted (refused n i) ≡ accepted → T b
choice-accepted true n i e = tt
choice-accepted false n i e = refused≢accepted n i e

whole-accepted : (n : ℕ) (b : Bool) (i : ℕ) → whole n b i ≡ accepted → T b
unfolding whole
whole-accepted n b i e = choice-accepted b n i e

first_of-accepted : (n : ℕ) (ok : ℕ → Bool) (k : ℕ) → first_of n ok k ≡ accepted → (i : ℕ) → i < k → T (ok i)
unfolding first_of
first_of-accepted n ok k e i h =
    let past = ltb-false (first_false ok k) k (none_found (ltb (first_false ok k) k) e) in
    passes (first_false-all ok k past i h)
  where
    none_found : (b : Bool) → cond b (refused n (first_false ok k)) accepted ≡ accepted → b ≡ false
    none_found true q = absurd (refused≢accepted n (first_false ok k) q)
    none_found false q = refl

-- The five questions' tests

record Passed (p : List ℕ) : Type 0 where
  sizes : T (sizes_kept p)
  pairs : (m : ℕ) → m < methods p → T (pair_kept p m)
  sum : T (eqb (start_of p (methods p)) (instructions p))
  rows : (m : ℕ) → m < methods p → T (row_kept p m)
  code : (i : ℕ) → i < instructions p → T (instruction_kept p i)
  types : (i : ℕ) → i < instructions p → T (reads p i)

questions-passed : (p : List ℕ) → Accepted p → Passed p
unfolding table_questions question1 question2 question3 question4 question5
questions-passed p e =
    let q1 = and_then-accepted (question1 p) _ e in
    let q2 = and_then-accepted (question2 p) _ q1.1 in
    let q3 = and_then-accepted (question3 p) _ q2.1 in
    let q4 = and_then-accepted (question4 p) (question5 p) q3.1 in
    let pairs = and_then-accepted (first_of 2 (pair_kept p) (methods p)) _ q2.0 in
    record {
      sizes = whole-accepted 1 (sizes_kept p) 0 q1.0;
      pairs = first_of-accepted 2 (pair_kept p) (methods p) pairs.0;
      sum = whole-accepted 2 (eqb (start_of p (methods p)) (instructions p)) (methods p - 1) pairs.1;
      rows = first_of-accepted 3 (row_kept p) (methods p) q3.0;
      code = first_of-accepted 4 (instruction_kept p) (instructions p) q4.0;
      types = first_of-accepted 5 (reads p) (instructions p) q4.1;
    }

-- The facts

pub record Sizes (p : List ℕ) : Type 0 where
  pub methods-some : 1 ≤ methods p
  pub methods-most : methods p ≤ 32
  pub instructions-some : 1 ≤ instructions p
  pub instructions-most : instructions p ≤ 4096
  pub words : length p ≡ 2 + 20 * methods p + 2 * instructions p

-- Methods lie one after the other, from the first instruction to the last.
pub record Pairs (p : List ℕ) : Type 0 where
  pub first : offset_of p 0 ≡ 0
  pub next : (m : ℕ) → suc m < methods p → offset_of p (suc m) ≡ end_of p m
  pub filled : (m : ℕ) → m < methods p → 1 ≤ length_of p m
  pub last : (m : ℕ) → suc m ≡ methods p → end_of p m ≡ instructions p

-- Method m's row.
pub record Row (p : List ℕ) (m : ℕ) : Type 0 where
  pub returns : T (is_type (return_of p m))
  pub params : params_of p m ≤ 8
  pub slots : (s : ℕ) → s < 16 → T (is_type (slot_type p m s))
  pub parameters : (s : ℕ) → s < params_of p m → slot_type p m s ≢ 0

-- Instruction i as question 5 reads it: the types that it gives, and the rules.
pub record ReadAt (p : List ℕ) (i : ℕ) : Type 0 where
  pub given : List ℕ
  pub finds : given_at p i (before p i) ≡ some given
  pub height : length (after p i (before p i)) ≤ 8
  pub bare : T (op_there p i).bare → after p i (before p i) ≡ []
  pub target : T (is_target p i) → before p i ≡ []
  pub closes : T (is_last p i) → T (op_there p i).closes

pub record Kept (p : List ℕ) : Type 0 where
  pub sizes : Sizes p
  pub pairs : Pairs p
  pub rows : (m : ℕ) → m < methods p → Row p m
  pub main-params : params_of p 0 ≡ 0
  pub main_returns : return_of p 0 ≡ 0
  pub argument : (i : ℕ) → i < instructions p → T ((op_there p i).argument p (owner_of p i) (arg_at p i))
  pub reading : (i : ℕ) → i < instructions p → ReadAt p i

-- From the tests to the facts

pub sizes-kept : (p : List ℕ) → T (sizes_kept p) → Sizes p
unfolding sizes_kept
sizes-kept p t =
    let m = and_yes (leb 1 (methods p) && leb (methods p) 32) _ t in
    let n = and_yes (leb 1 (instructions p) && leb (instructions p) 4096) _ m.1 in
    let ms = and_yes (leb 1 (methods p)) _ m.0 in
    let ns = and_yes (leb 1 (instructions p)) _ n.0 in
    record {
      methods-some = leb_yes ms.0;
      methods-most = leb_yes ms.1;
      instructions-some = leb_yes ns.0;
      instructions-most = leb_yes ns.1;
      words = eqb_yes n.1;
    }

pair-kept : (p : List ℕ) (m : ℕ) → T (pair_kept p m) → (offset_of p m ≡ start_of p m) × (1 ≤ length_of p m)
unfolding pair_kept
pair-kept p m t = let h = and_yes (eqb (offset_of p m) (start_of p m)) _ t in (eqb_yes h.0, leb_yes h.1)

pub pairs-kept : (p : List ℕ) → Sizes p → ((m : ℕ) → m < methods p → T (pair_kept p m))
    → T (eqb (start_of p (methods p)) (instructions p)) → Pairs p
unfolding start_of
pairs-kept p sizes pairs sum = record {
  first = (pair-kept p 0 (pairs 0 sizes.methods-some)).0;
  next = λ m h. (pair-kept p (suc m) (pairs (suc m) h)).0;
  filled = λ m h. (pair-kept p m (pairs m h)).1;
  last = λ m e. eqb_yes (subst (λ n. T (eqb (start_of p n) (instructions p))) (sym e) sum);
}

-- of two tests, the second fails where both do not pass and the first does
other-fails : (a b : Bool) → T (not (a && b)) → T a → T (not b)
other-fails true b t s = t
other-fails false b t s = absurd s

slot-kept : (p : List ℕ) (m : ℕ) → T (all_below (slot_kept p m) 16)
    → (s : ℕ) → s < 16 → T (is_type (slot_type p m s)) × (s < params_of p m → slot_type p m s ≢ 0)
unfolding slot_kept
slot-kept p m t s l =
    let h = and_yes (is_type (slot_type p m s)) _ (all_below-all (slot_kept p m) 16 t s l) in
    (h.0, λ k. eqb_no (other-fails (ltb s (params_of p m)) _ h.1 (yes_ltb k)))

pub row-kept : (p : List ℕ) (m : ℕ) → T (row_kept p m) → Row p m
unfolding row_kept
row-kept p m t =
    let returns = and_yes (is_type (return_of p m)) _ t in
    let params = and_yes (leb (params_of p m) 8) _ returns.1 in
    let slot = slot-kept p m (and_yes (all_below (slot_kept p m) 16) _ params.1).0 in
    let few : params_of p m ≤ 8 = leb_yes params.0 in
    record {
      returns = returns.0;
      params = few;
      slots = λ s l. (slot s l).0;
      parameters = λ s l. (slot s (omega arith)).1 l;
    }

main-kept : (p : List ℕ) → T (row_kept p 0) → (params_of p 0 ≡ 0) × (return_of p 0 ≡ 0)
unfolding row_kept
main-kept p t =
    let returns = and_yes (is_type (return_of p 0)) _ t in
    let params = and_yes (leb (params_of p 0) 8) _ returns.1 in
    let slots = and_yes (all_below (slot_kept p 0) 16) _ params.1 in
    let main = and_yes (eqb (params_of p 0) 0) _ slots.1 in
    (eqb_yes main.0, eqb_yes main.1)

some_of : (o : Option (List ℕ)) → T (not (is_none o)) → (ts : List ℕ) × (o ≡ some ts)
some_of none t = absurd t
some_of (some ts) t = (ts, refl)

nil-of : (ts : List ℕ) → T (is_nil ts) → ts ≡ []
nil-of [] t = refl
nil-of (x ∷ ts) t = absurd t

-- a test that is asked only where another one is passed
implied : (a b : Bool) → T (not a || b) → T a → T b
implied true b t s = t
implied false b t s = absurd s

pub read_kept : (p : List ℕ) (i : ℕ) → T (reads p i) → ReadAt p i
unfolding reads
read_kept p i t =
    let finds = and_yes (not (is_none (given_at p i (before p i)))) _ t in
    let height = and_yes (leb (length (after p i (before p i))) 8) _ finds.1 in
    let bare = and_yes (not (op_there p i).bare || is_nil (after p i (before p i))) _ height.1 in
    let target = and_yes (not (is_target p i) || is_nil (before p i)) _ bare.1 in
    let found = some_of (given_at p i (before p i)) finds.0 in
    record {
      given = found.0;
      finds = found.1;
      height = leb_yes height.0;
      bare = λ b. nil-of (after p i (before p i)) (implied (op_there p i).bare _ bare.0 b);
      target = λ b. nil-of (before p i) (implied (is_target p i) _ target.0 b);
      closes = implied (is_last p i) (op_there p i).closes target.1;
    }

tests-kept : (p : List ℕ) → Passed p → Kept p
unfolding instruction_kept
tests-kept p t =
    let sizes = sizes-kept p t.sizes in
    let main = main-kept p (t.rows 0 sizes.methods-some) in
    record {
      sizes = sizes;
      pairs = pairs-kept p sizes t.pairs t.sum;
      rows = λ m h. row-kept p m (t.rows m h);
      main-params = main.0;
      main_returns = main.1;
      argument = t.code;
      reading = λ i h. read_kept p i (t.types i h);
    }

pub kept : (p : List ℕ) → Accepted p → Kept p
kept p e = tests-kept p (questions-passed p e)
