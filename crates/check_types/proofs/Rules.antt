-- The rules of types as the code follows them are the table's.
use Prim.Native.Nat.{ℕ, suc, ◌+◌, ◌-◌, ◌≤◌, ◌<◌}
use native.Mathlib.Omega.{arith}
use native.Mathlib.Decide.{ℕ_discrete}
use mathlib.Core.Logic.{⊎_elim}
use mathlib.Core.Bool.{Bool, true, false, cond, ◌&&◌, not, and-true, and-false}
use mathlib.Core.Path.{◌≡◌, refl, sym, ap, ◌∙◌}
use mathlib.Core.List.{List, [], ◌∷◌, reverse, reverse-append}
use mathlib.Core.Option.{Option, none, some}
use lib.ListN.{get_or, length, take, drop, length-reverse}
use lib.Seq.{take-suc, length-take-le}
use lib.Dec.{T, eqb, leb, ltb, leb-zero, leb-suc-zero, leb-suc-suc}
use mir.Facts.{and_yes, ltb_yes, leb_yes, eqb_yes, eqb_no, yes_leb}
use borrow.Author.Tests.{le-leb, eq-eqb, ne_eqb}
use Rattle.lists.specs.Lists.{same}
use Rattle.lists.proofs.Tests.{passes, failed, clash, or_cases, and_both, cond_both}
use Rattle.table.specs.Table.{word, methods, row, return_of, params_of, slot_type, slot_types, param_types, is_type, is_carried, is_end, carried_by}
use Rattle.table.specs.Ops.{returned, gate_qubits}
use Rattle.table.proofs.Slots.{slot_types-length, slot_types-at}
use Rattle.check_types.specs.PendingCode.{types_of, top_of, take_off, put_on, bared, dropped_one}
use Rattle.check_types.specs.RulesCode.{rule_result, step_of, take_offs, gated, sent, passed_to, called, returned_from, RowAt, SlotOf, Ready}
use Rattle.check_instructions.specs.declared.owner.Owner.{Owner}
use Rattle.check_types.specs.declared.pending.Pending.{Pending}
use Rattle.check_instructions.proofs.Owners.{owner-row}
use Rattle.check_types.proofs.Packed.{types-length}

-- Numbers that are types

pub between : (a t b : ℕ) → (leb a t && leb t b) ≡ true → (a ≤ t) × (t ≤ b)
between a t b e = let h = and_yes (leb a t) (leb t b) (passes e) in (leb_yes h.0, leb_yes h.1)

pub type-small : (t : ℕ) → T (is_type t) → t < 256
unfolding is_type
type-small t h =
    ⊎_elim (λ l. omega (arith, leb_yes {a = t} l))
    (λ h. ⊎_elim (λ l. omega (arith, leb_yes {a = t} (and_yes (leb 17 t) _ l).1))
    (λ l. omega (arith, leb_yes {a = t} (and_yes (leb 33 t) _ l).1)) (or_cases (leb 17 t && leb t 19) _ h))
    (or_cases (leb t 3) _ h)

pub carried-small : (t : ℕ) → T (is_carried t) → t < 4
carried-small t h = omega (arith, leb_yes {a = t} (and_yes (leb 1 t) (leb t 3) h).1)

-- The arguments of a method

module _ (p : List ℕ) (m at : ℕ) (h : RowAt p m at) where
  pub row-low : at < 1024
  unfolding row
  row-low = omega (arith, h.place, h.method, h.sizes.methods-most)

  pub return-word : {w : ℕ} → w ≡ word p at → (w ≡ return_of p m) × (w < 256)
  unfolding return_of
  return-word e =
      let same = e ∙ ap (word p) h.place in
      (same, omega (arith, same, type-small (return_of p m) h.kept.returns))

  pub params-word : {w : ℕ} → w ≡ word p (at + 1) → w ≡ params_of p m
  unfolding params_of
  params-word e = e ∙ ap (λ k. word p (k + 1)) h.place

  pub pass-begins : {n : ℕ} (o : Option (List ℕ)) → n ≡ params_of p m
      → take_offs (reverse (take n (slot_types p m))) o ≡ passed_to p m o
  unfolding passed_to param_types
  pass-begins o e = ap (λ n. take_offs (reverse (take n (slot_types p m))) o) e

  slot-word : (j w : ℕ) → w ≡ word p (at + 2 + j) → w ≡ slot_type p m j
  unfolding slot_type
  slot-word j w e = e ∙ ap (λ k. word p (k + 2 + j)) h.place

  pub argument-some : (j w : ℕ) → w ≡ word p (at + 2 + j) → j < params_of p m → 1 ≤ w
  argument-some j w e l = omega (arith, slot-word j w e, h.kept.parameters j l)

  -- one argument more
  one_more : (j : ℕ) (o : Option (List ℕ)) → j < 16
      → take_offs (reverse (take (suc j) (slot_types p m))) o ≡ take_offs (reverse (take j (slot_types p m)))
      (take_off (slot_type p m j) o)
  unfolding take_offs
  one_more j o l =
      let long = slot_types-length p h.sizes m h.method in
      rw (
        take-suc (slot_types p m) j 0 (omega arith),
        slot_types-at p m j l,
        reverse-append (take j (slot_types p m))
            (slot_type p m j ∷ []),
      )

  pub pass-goes-on : (n w : ℕ) (o o' x : Option (List ℕ)) → 1 ≤ n → n ≤ params_of p m → w ≡ word p (at + 2 + (n - 1))
      → o' ≡ take_off w o → take_offs (reverse (take n (slot_types p m))) o ≡ x
      → take_offs (reverse (take (n - 1) (slot_types p m))) o' ≡ x
  pass-goes-on n w o o' x l k e q r =
      let few = h.kept.params in
      let next : suc (n - 1) ≡ n = omega arith in
      ap (take_offs (reverse (take (n - 1) (slot_types p m)))) (q ∙ ap (λ t. take_off t o) (slot-word (n - 1) w e))
      ∙ sym (one_more (n - 1) o (omega arith))
      ∙ ap (λ n. take_offs (reverse (take n (slot_types p m))) o) next
      ∙ r

  pub pass-ends : (n : ℕ) (o x : Option (List ℕ)) → n ≤ 0 → take_offs (reverse (take n (slot_types p m))) o ≡ x → o ≡ x
  unfolding take_offs
  pass-ends n o x l r =
      let end : 0 ≡ n = omega arith in
      ap (λ n. take_offs (reverse (take n (slot_types p m))) o) end ∙ r

-- a fault stays one where a value would be put on
pub call-missing : (t : ℕ) (o : Option (List ℕ)) → none ≡ o → none ≡ cond (eqb t 0) o (put_on t o)
unfolding put_on
call-missing t o e = cond_both (λ (o : Option (List ℕ)). none ≡ o) (eqb t 0) e (ap (put_on t) e)

-- A rule that wants the types ws and gives the types gs

abbrev wants : List ℕ → List ℕ → List ℕ → Option (List ℕ)
wants ws gs xs = cond (same xs ws) (some gs) none

pub offs-none : (ws : List ℕ) → take_offs ws none ≡ none
unfolding take_offs take_off
offs-none [] = refl
offs-none (w ∷ ws) = offs-none ws

cond-none : (b : Bool) → ◌≡◌ {A = Option (List ℕ)} (cond b none none) none
cond-none true = refl
cond-none false = refl

offs-found : (ws ts : List ℕ) → take_offs ws (some ts)
    ≡ cond (leb (length ws) (length ts)) (cond (same (take (length ws) ts) ws) (some (drop (length ws) ts)) none) none
unfolding take_offs take_off
offs-found [] ts = rw (leb-zero (length ts))
offs-found (w ∷ ws) [] = rw (leb-suc-zero (length ws)) (offs-none ws)
offs-found (w ∷ ws) (x ∷ xs) = rw (leb-suc-suc (length ws) (length xs)) (on (eqb x w) (offs-found ws xs))
  where
    enough : Bool
    enough = leb (length ws) (length xs)

    rest : Option (List ℕ)
    rest = some (drop (length ws) xs)

    on : (b : Bool) → take_offs ws (some xs) ≡ cond enough (cond (same (take (length ws) xs) ws) rest none) none
        → take_offs ws (cond b (some xs) none) ≡ cond enough (cond (b && same (take (length ws) xs) ws) rest none) none
    on true ih = ih
    on false ih = offs-none ws ∙ sym (cond-none enough)

-- what stands once the operands are off
result_from : Bool → List ℕ → Option (List ℕ) → Option (List ℕ)
result_from bare gs none = none
result_from bare gs (some rest) = rule_result bare rest (some gs)

result-taken : (bare : Bool) (gs rest : List ℕ) (b c : Bool)
    → rule_result bare rest (cond b (cond c (some gs) none) none) ≡ result_from bare gs
    (cond b (cond c (some rest) none) none)
unfolding rule_result result_from
result-taken bare gs rest true true = refl
result-taken bare gs rest true false = refl
result-taken bare gs rest false c = refl

step-wants : (ws gs : List ℕ) (bare : Bool) (ts : List ℕ)
    → step_of (length ws) (wants ws gs) bare ts ≡ result_from bare gs (take_offs ws (some ts))
unfolding step_of
step-wants ws gs bare ts =
    result-taken bare gs (drop (length ws) ts) (leb (length ws) (length ts)) (same (take (length ws) ts) ws)
    ∙ ap (result_from bare gs) (sym (offs-found ws ts))

result_value : (g : ℕ) (o : Option (List ℕ)) → result_from false (g ∷ []) o ≡ put_on g o
unfolding rule_result result_from put_on
result_value g none = refl
result_value g (some rest) = rw and-true

result-bare : (o : Option (List ℕ)) → result_from true [] o ≡ bared o
unfolding rule_result result_from bared
result-bare none = refl
result-bare (some []) = refl
result-bare (some (x ∷ xs)) = rw and-false

-- at most eight values
abbrev Few : Option (List ℕ) → Type 0
Few none = Unit {0}
Few (some ts) = length ts ≤ 8

few-off : (t : ℕ) (o : Option (List ℕ)) → Few o → Few (take_off t o)
unfolding take_off
few-off t none h = tt
few-off t (some []) h = tt
few-off t (some (x ∷ xs)) h = cond_both Few (eqb x t) {x = some xs} (omega arith) tt

few-offs : (ws : List ℕ) (o : Option (List ℕ)) → Few o → Few (take_offs ws o)
unfolding take_offs
few-offs [] o h = h
few-offs (w ∷ ws) o h = few-offs ws (take_off w o) (few-off w o h)

result-plain : (o : Option (List ℕ)) → Few o → result_from false [] o ≡ o
unfolding rule_result result_from
result-plain none h = refl
result-plain (some rest) h = rw (le-leb (length rest) 8 h)

-- The rules of their own kind

drop-rule : (ts : List ℕ) → dropped_one (some ts) ≡ step_of 1 (λ xs. some []) true ts
unfolding dropped_one step_of rule_result result_from
drop-rule [] = refl
drop-rule (x ∷ xs) = rw (leb-suc-suc 0 (length xs), leb-zero (length xs)) (sym (result-bare (some xs)))

top-rule : (test : ℕ → Bool) (f : ℕ → ℕ) → test 0 ≡ false → (ts : List ℕ)
    → cond (test (top_of (some ts))) (put_on (f (top_of (some ts))) (take_off (top_of (some ts)) (some ts))) none
    ≡ step_of 1 (λ xs. cond (test (get_or xs 0 0)) (some (f (get_or xs 0 0) ∷ [])) none) false ts
unfolding top_of take_off step_of rule_result result_from
top-rule test f e [] = rw e
top-rule test f e (x ∷ xs) =
    rw (eq-eqb x x refl, leb-suc-suc 0 (length xs), leb-zero (length xs)) (by (test x))
  where
    by : (b : Bool) → cond b (put_on (f x) (some xs)) none ≡ rule_result false xs (cond b (some (f x ∷ [])) none)
    by true = sym (result_value (f x) (some xs))
    by false = refl

-- a value and the end that carries it
end-carries : (x y : ℕ) → T (is_end y && eqb x (carried_by y)) → (33 ≤ y) × (y ≤ 35) × (x ≡ y - 32)
end-carries x y t =
    let (ends, same) = and_yes (is_end y) (eqb x (carried_by y)) t in
    let (low, high) = and_yes (leb 33 y) (leb y 35) ends in
    (leb_yes low, leb_yes high, eqb_yes same)

carried-end : (x y : ℕ) → is_carried x ≡ true → (is_end y && eqb x (carried_by y)) ≡ eqb y (x + 32)
carried-end x y e = by (ℕ_discrete y (x + 32))
  where
    small : (1 ≤ x) × (x ≤ 3)
    small = between 1 x 3 e

    by : Dec (y ≡ x + 32) → (is_end y && eqb x (carried_by y)) ≡ eqb y (x + 32)
    by (yes q) =
        let s = small in
        rw (eq-eqb y (x + 32) q, le-leb 33 y (omega arith), le-leb y 35 (omega arith), eq-eqb x (y - 32) (omega arith))
    by (no f) = rw (ne_eqb y (x + 32) f) (failed _ (λ t. f (omega (arith, end-carries x y t))))

none-carried : (x y : ℕ) → is_carried x ≡ false → (is_end y && eqb x (carried_by y)) ≡ false
none-carried x y e =
    failed _ (λ t. let c = end-carries x y t in
    clash e (and_both (leb 1 x) (leb x 3) (yes_leb {a = 1} {b = x} (omega arith))
    (yes_leb {a = x} {b = 3} (omega arith))))

send-rule : (ts : List ℕ) → sent (some ts)
    ≡ step_of 2 (λ xs. cond (is_end (get_or xs 1 0) && eqb (get_or xs 0 0) (carried_by (get_or xs 1 0))) (some []) none) true ts
unfolding sent top_of take_off bared step_of rule_result result_from
send-rule [] = refl
send-rule (x ∷ []) = rw (eq-eqb x x refl) (cond-none (is_carried x))
send-rule (x ∷ y ∷ zs) =
    rw (eq-eqb x x refl, leb-suc-suc 1 (suc (length zs)), leb-suc-suc 0 (length zs), leb-zero (length zs))
    (whether (is_carried x) refl)
  where
    by : (b : Bool) → bared (cond b (some zs) none) ≡ rule_result true zs (cond b (some []) none)
    by true = sym (result-bare (some zs))
    by false = refl

    whether : (b : Bool) → is_carried x ≡ b → cond b (bared (cond (eqb y (x + 32)) (some zs) none)) none
        ≡ rule_result true zs (cond (is_end y && eqb x (carried_by y)) (some []) none)
    whether true e = rw (carried-end x y e) (by (eqb y (x + 32)))
    whether false e = rw (none-carried x y e)

offs-returned : (t : ℕ) (o : Option (List ℕ)) → take_offs (returned t) o ≡ cond (eqb t 0) o (take_off t o)
unfolding returned take_offs
offs-returned t o = by (eqb t 0)
  where
    by : (b : Bool) → take_offs (cond b [] (t ∷ [])) o ≡ cond b o (take_off t o)
    by true = refl
    by false = refl

-- The three kinds of rule: a value given, none, and none left

module _ (q : Pending) where
  pub gives-value : (ws : List ℕ) (g : ℕ)
      → put_on g (take_offs ws (some (types_of q))) ≡ step_of (length ws) (wants ws (g ∷ [])) false (types_of q)
  gives-value ws g =
      sym (step-wants ws (g ∷ []) false (types_of q) ∙ result_value g (take_offs ws (some (types_of q))))

  pub gives_nothing : (ws : List ℕ) → take_offs ws (some (types_of q)) ≡ step_of (length ws) (wants ws []) false (types_of q)
  gives_nothing ws =
      let low : length (types_of q) ≤ 8 = omega (arith, types-length q.count q.types, q.few) in
      sym (step-wants ws [] false (types_of q) ∙ result-plain _ (few-offs ws (some (types_of q)) low))

  pub leaves_nothing : (ws : List ℕ)
      → bared (take_offs ws (some (types_of q))) ≡ step_of (length ws) (wants ws []) true (types_of q)
  leaves_nothing ws =
      sym (step-wants ws [] true (types_of q) ∙ result-bare (take_offs ws (some (types_of q))))

  -- DROP
  pub drops-one : dropped_one (some (types_of q)) ≡ step_of 1 (λ xs. some []) true (types_of q)
  drops-one = drop-rule (types_of q)

  -- END and RECV, by the type on top
  pub top-changes : (test : ℕ → Bool) (f : ℕ → ℕ) → test 0 ≡ false
      → cond (test (top_of (some (types_of q)))) (put_on (f (top_of (some (types_of q)))) (take_off (top_of (some (types_of q))) (some (types_of q))))
      none
      ≡ step_of 1 (λ xs. cond (test (get_or xs 0 0)) (some (f (get_or xs 0 0) ∷ [])) none) false (types_of q)
  top-changes test f e = top-rule test f e (types_of q)

  -- SEND
  pub sends : sent (some (types_of q))
      ≡ step_of 2 (λ xs. cond (is_end (get_or xs 1 0) && eqb (get_or xs 0 0) (carried_by (get_or xs 1 0))) (some []) none) true
      (types_of q)
  sends = send-rule (types_of q)

  -- GATE
  pub gates : (a : ℕ) → gated a (some (types_of q))
      ≡ step_of (gate_qubits a) (cond (leb a 5) (wants (3 ∷ []) []) (wants (3 ∷ 3 ∷ []) [])) false (types_of q)
  unfolding gated gate_qubits take_offs
  gates a = by (leb a 5)
    where
      by : (b : Bool) → cond b (take_off 3 (some (types_of q))) (take_off 3 (take_off 3 (some (types_of q))))
          ≡ step_of (cond b 1 2) (cond b (wants (3 ∷ []) []) (wants (3 ∷ 3 ∷ []) [])) false (types_of q)
      by true = gives_nothing (3 ∷ [])
      by false = gives_nothing (3 ∷ 3 ∷ [])

  -- RET
  pub leaves : (t : ℕ)
      → returned_from t (some (types_of q)) ≡ step_of (length (returned t)) (wants (returned t) []) true (types_of q)
  unfolding returned_from
  leaves t = ap bared (sym (offs-returned t (some (types_of q)))) ∙ leaves_nothing (returned t)

  module _ (p : List ℕ) (m at : ℕ) (h : RowAt p m at) where
    params-length : length (reverse (param_types p m)) ≡ params_of p m
    unfolding param_types
    params-length =
        let long = slot_types-length p h.sizes m h.method in
        let few = h.kept.params in
        length-reverse (param_types p m) ∙ length-take-le (params_of p m) (slot_types p m) (omega arith)

    -- FORK
    pub forks :
        bared (passed_to p m (some (types_of q))) ≡ step_of (params_of p m) (wants (reverse (param_types p m)) []) true (types_of q)
    unfolding passed_to
    forks =
        leaves_nothing (reverse (param_types p m))
        ∙ ap (λ n. step_of n (wants (reverse (param_types p m)) []) true (types_of q)) params-length

    -- CALL
    pub calls : called p m (some (types_of q))
        ≡ step_of (params_of p m) (wants (reverse (param_types p m)) (returned (return_of p m))) false (types_of q)
    unfolding called passed_to returned
    calls = by (eqb (return_of p m) 0)
        ∙ ap (λ n. step_of n (wants (reverse (param_types p m)) (returned (return_of p m))) false (types_of q))
        params-length
      where
        ws : List ℕ
        ws = reverse (param_types p m)

        t : ℕ
        t = return_of p m

        by : (b : Bool) → cond b (take_offs ws (some (types_of q))) (put_on t (take_offs ws (some (types_of q))))
            ≡ step_of (length ws) (wants ws (cond b [] (t ∷ []))) false (types_of q)
        by true = gives_nothing ws
        by false = gives-value ws t

-- What an instruction that keeps question 4's rule stands ready with

module _ (p : List ℕ) (count : ℕ) (o : Owner) (op a : ℕ) (r : Ready p count o op a) where
  pub ready-slot : T (ltb a 16 && not (eqb (slot_type p o.method a) 0)) → SlotOf p o a
  ready-slot t =
      let (below, full) = and_yes (ltb a 16) _ t in
      let slot : a < 16 = ltb_yes below in
      record {
        sizes = r.sizes;
        owner = r.owner;
        method = r.method;
        slot = slot;
        used = omega (arith, eqb_no {a = slot_type p o.method a} {b = 0} full);
        small = type-small (slot_type p o.method a) ((r.rows o.method r.method).slots a slot);
      }

  pub ready-row : RowAt p o.method o.row
  ready-row = record {
    sizes = r.sizes;
    method = r.method;
    place = owner-row p o.method o r.owner;
    kept = r.rows o.method r.method;
  }

  pub ready-callee : {at : ℕ} → T (ltb a (methods p)) → at ≡ row p a → RowAt p a at
  ready-callee t e = record { sizes = r.sizes; method = ltb_yes t; place = e; kept = r.rows a (ltb_yes t) }
