-- A property of every element of a list together with its index.
use Prim.Native.Nat.{ℕ, zero, suc}
use mathlib.Core.List.{List, [], ◌∷◌}
use lib.ListN.{get_or}

abbrev pub Numbered : {A : Type 0} → (ℕ → A → Type 0) → List A → Type 0
Numbered P [] = Unit {0}
Numbered P (x ∷ xs) = P 0 x × Numbered (λ i. P (suc i)) xs

-- one more in front
abbrev pub also : {A B : Type 0} → A → B → A × B
also a b = (a, b)

-- the element at index n, where the one that stands for a missing element has the property at every index
pub numbered-at : {A : Type 0} (P : ℕ → A → Type 0) (xs : List A) → Numbered P xs → (d : A) → ((i : ℕ) → P i d)
    → (n : ℕ) → P n (get_or xs n d)
numbered-at P [] h d e n = e n
numbered-at P (x ∷ xs) h d e zero = h.0
numbered-at P (x ∷ xs) h d e (suc n) = numbered-at (λ i. P (suc i)) xs h.1 d (λ i. e (suc i)) n
