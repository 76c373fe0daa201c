-- Laws of `covers`: having one thing is having another. Two things that have a third in common are themselves
-- comparable, which is what makes a giving safe: whatever still reaches a given thing is emptied with it.
use Prim.Native.Nat.{ℕ}
use mathlib.Core.Path.{◌≡◌, refl, sym, ◌∙◌, subst}
use mathlib.Core.Logic.{◌⊎◌, inl, inr}
use mathlib.Core.Bool.{Bool, true, false, beq}
use lib.Dec.{T, eqb, eqb→eq, eqb_refl}
use Rattle.lists.proofs.Tests.{and_left, and_right, and_both}
use Rattle.machine.specs.Value.{Thing, qubit, channel, end, covers}

beq-refl : (s : Bool) → T (beq s s)
beq-refl true = tt
beq-refl false = tt

pub beq-eq : (s r : Bool) → T (beq s r) → s ≡ r
beq-eq true true t = refl
beq-eq true false t = absurd t
beq-eq false true t = absurd t
beq-eq false false t = refl

pub covers-refl : (t : Thing) → T (covers t t)
unfolding covers
covers-refl (qubit n) = eqb_refl n
covers-refl (channel n) = eqb_refl n
covers-refl (end n s) = and_both (eqb n n) (beq s s) (eqb_refl n) (beq-refl s)

pub covers-end : (n : ℕ) (s : Bool) → T (covers (channel n) (end n s))
unfolding covers
covers-end n s = eqb_refl n

-- numbers that are tested equal to one number are equal
eqb-common : (m n k : ℕ) → T (eqb m k) → T (eqb n k) → T (eqb m n)
eqb-common m n k a b = subst (λ (j : ℕ). T (eqb m j)) (sym (eqb→eq n k b)) a

-- a thing covered by two others: the two are comparable
pub covers-common : (u w x : Thing) → T (covers u x) → T (covers w x) → T (covers u w) ⊎ T (covers w u)
unfolding covers
covers-common (qubit a) (qubit b) (qubit c) p q = inl (eqb-common a b c p q)
covers-common (qubit a) (qubit b) (channel c) p q = absurd p
covers-common (qubit a) (qubit b) (end c s) p q = absurd p
covers-common (qubit a) (channel b) (qubit c) p q = absurd q
covers-common (qubit a) (channel b) (channel c) p q = absurd p
covers-common (qubit a) (channel b) (end c s) p q = absurd p
covers-common (qubit a) (end b r) (qubit c) p q = absurd q
covers-common (qubit a) (end b r) (channel c) p q = absurd p
covers-common (qubit a) (end b r) (end c s) p q = absurd p
covers-common (channel a) (qubit b) (qubit c) p q = absurd p
covers-common (channel a) (qubit b) (channel c) p q = absurd q
covers-common (channel a) (qubit b) (end c s) p q = absurd q
covers-common (channel a) (channel b) (qubit c) p q = absurd p
covers-common (channel a) (channel b) (channel c) p q = inl (eqb-common a b c p q)
covers-common (channel a) (channel b) (end c s) p q = inl (eqb-common a b c p q)
covers-common (channel a) (end b r) (qubit c) p q = absurd p
covers-common (channel a) (end b r) (channel c) p q = absurd q
covers-common (channel a) (end b r) (end c s) p q = inl (eqb-common a b c p (and_left (eqb b c) (beq r s) q))
covers-common (end a t) (qubit b) (qubit c) p q = absurd p
covers-common (end a t) (qubit b) (channel c) p q = absurd p
covers-common (end a t) (qubit b) (end c s) p q = absurd q
covers-common (end a t) (channel b) (qubit c) p q = absurd p
covers-common (end a t) (channel b) (channel c) p q = absurd p
covers-common (end a t) (channel b) (end c s) p q = inr (eqb-common b a c q (and_left (eqb a c) (beq t s) p))
covers-common (end a t) (end b r) (qubit c) p q = absurd p
covers-common (end a t) (end b r) (channel c) p q = absurd p
covers-common (end a t) (end b r) (end c s) p q =
    inl
    (and_both (eqb a b) (beq t r)
    (eqb-common a b c (and_left (eqb a c) (beq t s) p) (and_left (eqb b c) (beq r s) q))
    (subst (λ (o : Bool). T (beq t o))
    (beq-eq t s (and_right (eqb a c) (beq t s) p) ∙ sym (beq-eq r s (and_right (eqb b c) (beq r s) q)))
    (beq-refl t)))
