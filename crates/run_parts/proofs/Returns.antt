-- What a process stands at, from its head and the op at its place.
use Prim.Native.Nat.{ℕ, ◌+◌, ◌*◌}
use mathlib.Core.Path.{◌≡◌, refl, sym, ◌∙◌, ap, ap₂}
use mathlib.Core.Bool.{Bool, true, false, cond, not, ◌&&◌, ◌||◌, true≢false}
use mathlib.Core.List.{List}
use native.Mathlib.Omega.{arith}
use lib.ListN.{get_or}
use lib.Dec.{eqb}
use borrow.Author.Tests.{eqb-true, eq-eqb, ne_eqb}
use Rattle.table.specs.Table.{op_at}
use Rattle.run_store.specs.declared.head.Head.{Head}
use Rattle.run_store.specs.declared.values.Val.{Val}
use Rattle.run_store.specs.StoreCode.{head_at, head_of}
use Rattle.lists.proofs.Tests.{took, passed-by}
use Rattle.run_values.specs.ValuesCode.{is_send}
use Rattle.run_values.specs.declared.steps.StepResult.TheVariants.{AtSend, AtRecv}
use Rattle.run_parts.specs.declared.readiness.Readiness.{Readiness}
use Rattle.run_parts.specs.declared.readiness.Readiness.TheVariants.{Idle, Moves}
use Rattle.run_parts.specs.ReadinessCode.{send_of, receive_of, readiness_op, offer_of, offers_nothing, either_way, of_one_channel}

pub stands_at : (p w : List ℕ) {h : Head} {op : ℕ} {r : Readiness} → h ≡ head_of w → h.status ≡ 1
    → op ≡ op_at p h.place
    → r ≡ cond (eqb op 15) (send_of w h) (cond (eqb op 16) (receive_of w h) Moves)
    → r ≡ readiness_op p w
unfolding readiness_op
stands_at p w {h} {op} {r} e t o q =
    took _ _ _ refl (eq-eqb (head_of w).status 1 (ap (λ (g : Head). g.status) (sym e) ∙ t))
    (q
    ∙ ap (λ (n : ℕ). cond (eqb n 15) (send_of w h) (cond (eqb n 16) (receive_of w h) Moves))
    o
    ∙ ap (λ (g : Head). cond (eqb (op_at p g.place) 15) (send_of w g)
    (cond (eqb (op_at p g.place) 16) (receive_of w g) Moves)) e)

-- the frame's place, by words
pub place_read : (w : List ℕ) {frames place : ℕ} → frames ≡ get_or w 2 0 → place ≡ get_or w (5 + 4 * frames) 0
    → place ≡ (head_of w).place
unfolding head_of head_at
place_read w {frames} e q = q ∙ ap (λ (i : ℕ). get_or w i 0) next ∙ ap (λ (i : ℕ). get_or w (4 + 4 * i + 1) 0) e
  where
    next : 5 + 4 * frames ≡ 4 + 4 * frames + 1
    next = omega arith

-- a process that runs, by its op

module _ (p w : List ℕ) (runs : (head_of w).status ≡ 1) where
  at_op : (op : ℕ) → op_at p (head_of w).place ≡ op
      → readiness_op p w ≡ cond (eqb op 15) (send_of w (head_of w))
      (cond (eqb op 16) (receive_of w (head_of w)) Moves)
  unfolding readiness_op
  at_op op e =
      ap
      (λ (b : Bool). cond b
      (cond (eqb (op_at p (head_of w).place) 15) (send_of w (head_of w))
      (cond (eqb (op_at p (head_of w).place) 16) (receive_of w (head_of w)) Moves)) Idle)
      (eq-eqb (head_of w).status 1 runs)
      ∙ ap (λ (n : ℕ). cond (eqb n 15) (send_of w (head_of w))
      (cond (eqb n 16) (receive_of w (head_of w)) Moves)) e

  pub offers-send : op_at p (head_of w).place ≡ 15 → offer_of w AtSend ≡ readiness_op p w
  unfolding offer_of is_send
  offers-send e = sym (at_op 15 e)

  pub offers-receive : op_at p (head_of w).place ≡ 16 → offer_of w AtRecv ≡ readiness_op p w
  unfolding offer_of is_send
  offers-receive e = sym (at_op 16 e)

-- a process that stands at no offer moves by itself
pub nothing-alone : (p w : List ℕ) → offers_nothing p w ≡ true → readiness_op p w ≡ Moves
unfolding offers_nothing readiness_op
nothing-alone p w h =
    go (eqb (head_of w).status 1) (eqb (op_at p (head_of w).place) 15) (eqb (op_at p (head_of w).place) 16) h
  where
    go : (a b c : Bool) → cond a (not b && not c) false ≡ true
        → cond a (cond b (send_of w (head_of w)) (cond c (receive_of w (head_of w)) Moves)) Idle ≡ Moves
    go true true c e = absurd (true≢false (sym e))
    go true false true e = absurd (true≢false (sym e))
    go true false false e = refl
    go false b c e = absurd (true≢false (sym e))

module _ (p w : List ℕ) {s : ℕ} (status : s ≡ get_or w 0 0) where
  pub nothing-over : (s ≡ 1 → ⊥) → false ≡ offers_nothing p w
  unfolding offers_nothing head_of
  nothing-over n = passed-by _ _ false refl (ne_eqb (head_of w).status 1 (λ i. n (status ∙ i))) refl

  pub nothing-at : s ≡ 1 → {place op : ℕ} → place ≡ (head_of w).place → op ≡ op_at p place
      → (not (eqb op 15) && not (eqb op 16)) ≡ offers_nothing p w
  unfolding offers_nothing head_of
  nothing-at r e o =
      took _ _ false refl (eq-eqb (head_of w).status 1 (sym status ∙ r))
      (ap (λ (n : ℕ). not (eqb n 15) && not (eqb n 16)) (o ∙ ap (op_at p) e))

-- two numbers, by how the first test came out

or-false : (x : Bool) → x ≡ (x || false)
or-false true = refl
or-false false = refl

or_same : (x : Bool) → x ≡ (x || x)
or_same true = refl
or_same false = refl

pub way-first : (a b x y : ℕ) → a ≡ x → eqb b y ≡ either_way a b x y
unfolding either_way
way-first a b x y h =
    go (eqb x y) refl
    ∙ sym (ap₂ (λ (u v : Bool). u && eqb b y || v && eqb b x) (eq-eqb a x h) (ap (λ (i : ℕ). eqb i y) h))
  where
    go : (z : Bool) → eqb x y ≡ z → eqb b y ≡ (eqb b y || z && eqb b x)
    go true i = or_same (eqb b y) ∙ ap (λ (j : ℕ). eqb b y || eqb b j) (sym (eqb-true x y i))
    go false i = or-false (eqb b y)

pub way-second : (a b x y : ℕ) → (a ≡ x → ⊥) → (eqb a y && eqb b x) ≡ either_way a b x y
unfolding either_way
way-second a b x y h = sym (ap (λ (u : Bool). u && eqb b y || eqb a y && eqb b x) (ne_eqb a x h))

-- two ends, by how the test of their numbers came out

module _ (e f : Val) where
  pub channels-apart : (e.number ≡ f.number → ⊥) → false ≡ of_one_channel e f
  unfolding of_one_channel
  channels-apart n =
      sym (ap (λ (x : Bool). either_way e.tag f.tag 5 6 && x) (ne_eqb e.number f.number n) ∙ and-false _)
    where
      and-false : (x : Bool) → (x && false) ≡ false
      and-false true = refl
      and-false false = refl

  pub channel-one : e.number ≡ f.number → {s : Bool} → s ≡ either_way e.tag f.tag 5 6 → s ≡ of_one_channel e f
  unfolding of_one_channel
  channel-one n q =
      q
      ∙ sym
      (ap (λ (x : Bool). either_way e.tag f.tag 5 6 && x) (eq-eqb e.number f.number n) ∙ and-true _)
    where
      and-true : (x : Bool) → (x && true) ≡ x
      and-true true = refl
      and-true false = refl
