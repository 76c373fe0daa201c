-- Packed types: what a test on the word says of the types in it.
use Prim.Native.Nat.{ℕ, zero, suc, ◌+◌, ◌-◌, ◌*◌, ◌/◌, ◌%◌, ◌^◌, ◌≤◌, ◌<◌}
use native.Mathlib.Omega.{arith}
use native.Mathlib.Nat.{pow-zero, pow-suc, pow-le-pow_right, div-lt_iff_lt-mul, lt_of_lt_of_le}
use native.Mathlib.Numerals.{add-one}
use mathlib.Core.Logic.{⊎_elim}
use mathlib.Core.Bool.{true, false}
use mathlib.Core.Path.{◌≡◌, refl, ap, ◌∙◌}
use mathlib.Core.List.{List, []}
use mathlib.Core.Option.{Option, none, some}
use lib.ListN.{length}
use lib.Dec.{eqb}
use lib.Arith.{digits_lt}
use borrow.Author.Tests.{lt-ltb, le-ltb, eq-eqb, ne_eqb, eqb-true, eqb-false}
use Rattle.lists.proofs.Tests.{decide}
use Rattle.check_types.specs.PendingCode.{types_in, top_of, take_off, put_on, bared, dropped_one}

-- A word of n types

pub types-length : (n w : ℕ) → length (types_in n w) ≡ n
unfolding types_in
types-length zero w = refl
types-length (suc n) w = ap suc (types-length n (w / 256))

-- The top type

pub top-of : (n w : ℕ) → w < 256 ^ n → w % 256 ≡ top_of (some (types_in n w))
unfolding top_of types_in
top-of zero w h = omega (arith, rw pow-zero at h)
top-of (suc n) w h = refl

-- An operand off

module _ (n w t : ℕ) (h : w < 256 ^ n) (l : 1 ≤ t) (e : w % 256 ≡ t) where
  pub off-some : 1 ≤ n
  off-some = some-left n h
    where
      some-left : (n : ℕ) → w < 256 ^ n → 1 ≤ n
      some-left zero h = absurd (omega (arith, rw pow-zero at h))
      some-left (suc n) h = omega arith

  pub off-packed : w / 256 < 256 ^ (n - 1)
  off-packed = lower n h off-some
    where
      lower : (n : ℕ) → w < 256 ^ n → 1 ≤ n → w / 256 < 256 ^ (n - 1)
      lower zero h k = absurd (omega arith)
      lower (suc n) h k =
          let less : suc n - 1 ≡ n = omega arith in
          rw less ((div-lt_iff_lt-mul {k = 256} (omega arith)).1 (rw pow-suc at h))

  pub off-found : some (types_in (n - 1) (w / 256)) ≡ take_off t (some (types_in n w))
  unfolding take_off types_in
  off-found = found n off-some
    where
      found : (n : ℕ) → 1 ≤ n → some (types_in (n - 1) (w / 256)) ≡ take_off t (some (types_in n w))
      found zero k = absurd (omega arith)
      found (suc n) k = let less : suc n - 1 ≡ n = omega arith in rw (less, eq-eqb (w % 256) t e)

pub off-missing : (n w t : ℕ) → (w % 256 ≡ t → ⊥) → none ≡ take_off t (some (types_in n w))
unfolding take_off types_in
off-missing zero w t f = refl
off-missing (suc n) w t f = rw (ne_eqb (w % 256) t f)

-- A value on

module _ (n w g : ℕ) (h : w < 256 ^ n) (k : g < 256) where
  pub on_fits : n < 8 → w * 256 + g < 2 ^ 64
  on_fits l =
      let low : w < 72057594037927936 =
      lt_of_lt_of_le h (pow-le-pow_right {n = 256} (omega arith) {i = n} {j = 7} (omega arith))
      in
      omega arith

  pub on-packed : w * 256 + g < 256 ^ (n + 1)
  on-packed = rw (add-one n, pow-suc) (digits_lt h k)

  pub on-found : n < 8 → some (types_in (n + 1) (w * 256 + g)) ≡ put_on g (some (types_in n w))
  unfolding put_on types_in
  on-found l =
      let top : (w * 256 + g) % 256 ≡ g = omega arith in
      let rest : (w * 256 + g) / 256 ≡ w = omega arith in
      rw (add-one n, top, rest, types-length n w, lt-ltb n 8 l)

pub on-full : (n w g : ℕ) → 8 ≤ n → none ≡ put_on g (some (types_in n w))
unfolding put_on
on-full n w g l = rw (types-length n w, le-ltb n 8 l)

-- One operand off and a value on, and two ints off and a value on

put-none : (g : ℕ) {o : Option (List ℕ)} → none ≡ o → none ≡ put_on g o
unfolding put_on
put-none g e = ap (put_on g) e

pub take_none : (t : ℕ) {o : Option (List ℕ)} → none ≡ o → none ≡ take_off t o
unfolding take_off
take_none t e = ap (take_off t) e

module _ (n w t g : ℕ) (few : n ≤ 8) (h : w < 256 ^ n) (k : g < 256) (l : 1 ≤ t) (e : w % 256 ≡ t) where
  back : n - 1 + 1 ≡ n
  back = omega (arith, off-some n w t h l e)

  pub one-packed : w / 256 * 256 + g < 256 ^ n
  one-packed = rw back at (on-packed (n - 1) (w / 256) g (off-packed n w t h l e) k)

  pub one_found : some (types_in n (w / 256 * 256 + g)) ≡ put_on g (take_off t (some (types_in n w)))
  one_found =
      let on = on-found (n - 1) (w / 256) g (off-packed n w t h l e) k (omega (arith, off-some n w t h l e)) in
      rw back at (on ∙ ap (put_on g) (off-found n w t h l e))

pub one-missing : (n w t g : ℕ) → (w % 256 ≡ t → ⊥) → none ≡ put_on g (take_off t (some (types_in n w)))
one-missing n w t g f = put-none g (off-missing n w t f)

module _ (n w g : ℕ) (few : n ≤ 8) (h : w < 256 ^ n) (k : g < 256) where
  module _ (e : w % 65536 ≡ 257) where
    pub two-some : 1 ≤ n
    two-some = off-some n w 1 h (omega arith) (omega arith)

    twice : w / 256 / 256 ≡ w / 65536
    twice = omega arith

    less : w / 256 < 256 ^ (n - 1)
    less = off-packed n w 1 h (omega arith) (omega arith)

    pub two-packed : w / 65536 * 256 + g < 256 ^ (n - 1)
    two-packed = rw twice at (one-packed (n - 1) (w / 256) 1 g (omega arith) less k (omega arith) (omega arith))

    pub two-found :
        some (types_in (n - 1) (w / 65536 * 256 + g)) ≡ put_on g (take_off 1 (take_off 1 (some (types_in n w))))
    two-found =
        let one = one_found (n - 1) (w / 256) 1 g (omega arith) less k (omega arith) (omega arith) in
        let off = off-found n w 1 h (omega arith) (omega arith) in
        rw twice at (one ∙ ap (λ o. put_on g (take_off 1 o)) off)

  pub two-missing : (w % 65536 ≡ 257 → ⊥) → none ≡ put_on g (take_off 1 (take_off 1 (some (types_in n w))))
  two-missing f = ⊎_elim first second (decide (eqb (w % 256) 1))
    where
      first : eqb (w % 256) 1 ≡ true → none ≡ put_on g (take_off 1 (take_off 1 (some (types_in n w))))
      first q =
          let off = off-found n w 1 h (omega arith) (eqb-true (w % 256) 1 q) in
          one-missing (n - 1) (w / 256) 1 g (λ e. f (omega (arith, eqb-true (w % 256) 1 q)))
          ∙ ap (λ o. put_on g (take_off 1 o)) off

      second : eqb (w % 256) 1 ≡ false → none ≡ put_on g (take_off 1 (take_off 1 (some (types_in n w))))
      second q = put-none g (take_none 1 (off-missing n w 1 (eqb-false (w % 256) 1 q)))

-- Nothing pending, or one value

pub bare-found : (n w : ℕ) → n ≡ 0 → some (types_in n w) ≡ bared (some (types_in n w))
unfolding bared types_in
bare-found n w e = rw e

pub bare-missing : (n w : ℕ) → (n ≡ 0 → ⊥) → none ≡ bared (some (types_in n w))
unfolding bared types_in
bare-missing zero w f = absurd (f refl)
bare-missing (suc n) w f = refl

pub dropped-found : (n w : ℕ) → n ≡ 1 → some [] ≡ dropped_one (some (types_in n w))
unfolding dropped_one bared types_in
dropped-found n w e = rw e

pub dropped-missing : (n w : ℕ) → (n ≡ 1 → ⊥) → none ≡ dropped_one (some (types_in n w))
unfolding dropped_one bared types_in
dropped-missing zero w f = refl
dropped-missing (suc zero) w f = absurd (f refl)
dropped-missing (suc (suc n)) w f = refl
