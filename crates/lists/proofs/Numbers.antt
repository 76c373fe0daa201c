-- A property of every number, from the first few one by one and one proof for all others: so a table by number, as that
-- of the ops, is gone through in one list.
use Prim.Native.Nat.{ℕ, zero, suc}

-- what is to be said of the numbers 0, 1, .. below n, in turn, and last of all others, counted from n
abbrev pub OneByOne : (ℕ → Type 0) → ℕ → Type 0
OneByOne P zero = (k : ℕ) → P k
OneByOne P (suc n) = P zero × OneByOne (λ k. P (suc k)) n

-- one more in the list
infixr 4 ◌▹◌
pub ◌▹◌ : {A B : Type 0} → A → B → A × B
a ▹ b = (a, b)

pub by_number : (P : ℕ → Type 0) (n : ℕ) → OneByOne P n → (k : ℕ) → P k
by_number P zero h k = h k
by_number P (suc n) h zero = h.0
by_number P (suc n) h (suc k) = by_number (λ (i : ℕ). P (suc i)) n h.1 k
