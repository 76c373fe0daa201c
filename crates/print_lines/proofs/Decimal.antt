-- The decimal digits of a number: those of its tenth part, and the last one after them.
use Prim.Native.Nat.{ℕ, zero, suc, ◌+◌, ◌*◌, ◌/◌, ◌%◌, ◌≤◌, ◌<◌}
use mathlib.Core.Path.{◌≡◌, refl, sym, ◌∙◌, ap}
use mathlib.Core.Bool.{Bool, true, false, cond}
use mathlib.Core.List.{List, [], ◌∷◌, ◌++◌, append_assoc}
use native.Mathlib.Omega.{arith}
use borrow.Author.Tests.{ltb-true, ltb-false, lt-ltb, le-ltb}
use lib.Dec.{ltb}
use lib.ListN.{length}
use Rattle.print_format.specs.Format.{digits, decimal}

-- 10 to the power p + 1
bound : ℕ → ℕ
bound zero = 10
bound (suc p) = 10 * bound p

-- one digit, and more than one
digits-one : (p n : ℕ) (rest : List ℕ) → n < 10 → digits (suc p) n rest ≡ (48 + n) ∷ rest
unfolding digits
digits-one p n rest h = rw (lt-ltb n 10 h)

digits_more : (p n : ℕ) (rest : List ℕ) → 10 ≤ n → digits (suc p) n rest ≡ digits p (n / 10) ((48 + n % 10) ∷ rest)
unfolding digits
digits_more p n rest h = rw (le-ltb n 10 h)

-- a place more changes nothing where the places are enough
digits-enough : (p n : ℕ) (rest : List ℕ) → n < bound p → digits (suc p) n rest ≡ digits (suc (suc p)) n rest
unfolding bound
digits-enough zero n rest h = digits-one zero n rest h ∙ sym (digits-one (suc zero) n rest h)
digits-enough (suc p) n rest h = go (ltb n 10) refl (digits-enough p (n / 10) ((48 + n % 10) ∷ rest) (omega arith))
  where
    go : (b : Bool) → ltb n 10 ≡ b
        → digits (suc p) (n / 10) ((48 + n % 10) ∷ rest) ≡ digits (suc (suc p)) (n / 10) ((48 + n % 10) ∷ rest)
        → digits (suc (suc p)) n rest ≡ digits (suc (suc (suc p))) n rest
    go true e less =
        digits-one (suc p) n rest (ltb-true n 10 e) ∙ sym (digits-one (suc (suc p)) n rest (ltb-true n 10 e))
    go false e less =
        digits_more (suc p) n rest (ltb-false n 10 e)
        ∙ less
        ∙ sym (digits_more (suc (suc p)) n rest (ltb-false n 10 e))

-- what follows stands after the digits
digits-rest : (p n : ℕ) (rest : List ℕ) → digits p n rest ≡ digits p n [] ++ rest
unfolding digits
digits-rest zero n rest = refl
digits-rest (suc p) n rest =
    go (ltb n 10) (digits p (n / 10) ((48 + n % 10) ∷ rest)) (digits p (n / 10) ((48 + n % 10) ∷ []))
    (digits-rest p (n / 10) ((48 + n % 10) ∷ rest)
    ∙ sym (append_assoc (digits p (n / 10) []) ((48 + n % 10) ∷ []) rest)
    ∙ ap (λ (l : List ℕ). l ++ rest) (sym (digits-rest p (n / 10) ((48 + n % 10) ∷ []))))
  where
    go : (b : Bool) (xs ys : List ℕ) → xs ≡ ys ++ rest
        → cond b ((48 + n) ∷ rest) xs ≡ cond b ((48 + n) ∷ []) ys ++ rest
    go true xs ys e = refl
    go false xs ys e = e

digits-length : (p n : ℕ) (rest : List ℕ) → length (digits p n rest) ≤ p + length rest
unfolding digits
digits-length zero n rest = omega arith
digits-length (suc p) n rest =
    go (ltb n 10) (digits p (n / 10) ((48 + n % 10) ∷ rest)) (digits-length p (n / 10) ((48 + n % 10) ∷ rest))
  where
    go : (b : Bool) (xs : List ℕ) → length xs ≤ p + suc (length rest)
        → length (cond b ((48 + n) ∷ rest) xs) ≤ suc p + length rest
    go true xs h = omega arith
    go false xs h = omega arith

pub decimal-length : (n : ℕ) → length (decimal n) ≤ 20
unfolding decimal
decimal-length n = digits-length 20 n []

pub decimal-one : (n : ℕ) → n < 10 → decimal n ≡ (48 + n) ∷ []
unfolding decimal
decimal-one n h = digits-one 19 n [] h

pub decimal-more : (n : ℕ) → 10 ≤ n → n < 100000000000000000000 → decimal n ≡ decimal (n / 10) ++ ((48 + n % 10) ∷ [])
unfolding decimal bound
decimal-more n h k =
    digits_more 19 n [] h
    ∙ digits-rest 19 (n / 10) ((48 + n % 10) ∷ [])
    ∙ ap (λ (l : List ℕ). l ++ ((48 + n % 10) ∷ [])) (digits-enough 18 (n / 10) [] (omega arith))
