-- What an op's argument may be, by a table over the op's number. These definitions follow the code.
use Rattle.std.specs.Prelude.{ℕ, ◌*◌, ◌/◌, ◌%◌, Bool, cond, ◌&&◌, ◌||◌, List, [], ◌∷◌, eqb, leb, ltb}

-- For each op four times the first number above its arguments, and 2 where the argument is a slot, and 1 where it is
-- not 0. CALL and FORK name one of `count` methods; the bound of a jump is its method's length, and stands elsewhere.
unfoldable pub limits_for : ℕ → List ℕ
limits_for count =
    0
    ∷ 262144 ∷ 8 ∷ 66 ∷ 66 ∷ 4 ∷ 66
    ∷ 4 ∷ 17 ∷ 8 ∷ 37 ∷ 4
    ∷ 4 * count ∷ 4 ∷ 4 * count ∷ 4 ∷ 4
    ∷ 0 ∷ 0 ∷ 4 ∷ 4 ∷ 4 ∷ 4 ∷ 4
    ∷ []

-- the argument a is within the limits e of the op, where its method has `long` instructions and t is the type of the
-- slot that a would name
unfoldable pub in_limits : ℕ → ℕ → ℕ → ℕ → ℕ → Bool
in_limits op e long a t =
    (leb (e % 2) a && ltb a (cond (eqb op 17 || eqb op 18) long (e / 4))) && leb (e / 2 % 2) t
