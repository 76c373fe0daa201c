-- The 64 words of the stored holders, word by word.
use Prim.Native.Nat.{ℕ, zero, suc, ◌+◌, ◌*◌, ◌-◌, ◌/◌, ◌%◌, ◌≤◌, ◌<◌}
use mathlib.Core.Path.{◌≡◌, refl, sym, ◌∙◌, ap, ap₂, subst}
use mathlib.Core.Bool.{Bool, true, false, cond}
use mathlib.Core.List.{List, [], ◌∷◌, ◌++◌, map}
use native.Mathlib.Nat.{not-suc-le-zero}
use native.Mathlib.Omega.{arith}
use lib.ListN.{get_or, length, length-append, length-map, replicate, get_or-append}
use lib.Seq.{get_or-append-add}
use lib.Dec.{eqb, ltb}
use borrow.Author.Tests.{eqb-true, eqb-false, ltb-true, ltb-false, lt-ltb, le-ltb}
use Rattle.lists.specs.Lists.{below}
use Rattle.machine.specs.Value.{Thing, qubit, end, side_no, side_of}
use Rattle.machine.specs.State.{Line}
use Rattle.machine.specs.Owner.{holder}
use Rattle.layout.specs.Holders.{thing_at, holder_no, holder_words}

below_length : (n : ℕ) → length (below n) ≡ n
unfolding below
below_length zero = refl
below_length (suc n) = length-append (below n) (n ∷ []) ∙ omega (arith, below_length n)

below_at : (n i : ℕ) → i < n → get_or (below n) i 0 ≡ i
unfolding below
below_at zero i h = absurd (not-suc-le-zero h)
below_at (suc n) i h = go (below_at n i) (ltb i n) refl
  where
    go : (i < n → get_or (below n) i 0 ≡ i) → (b : Bool) → ltb i n ≡ b → get_or (below n ++ (n ∷ [])) i 0 ≡ i
    go lower true e =
        get_or-append (below n) (n ∷ []) 0 i (omega (arith, below_length n, ltb-true i n e)) ∙ lower (ltb-true i n e)
    go lower false e =
        ap (λ (j : ℕ). get_or (below n ++ (n ∷ [])) j 0) {x = i} {y = length (below n) + 0}
        (omega (arith, h, below_length n, ltb-false i n e))
        ∙ get_or-append-add (below n) (n ∷ []) 0 0
        ∙ omega (arith, h, ltb-false i n e)

mapped_at : (f : ℕ → ℕ) (xs : List ℕ) (i : ℕ) → i < length xs → get_or (map f xs) i 0 ≡ f (get_or xs i 0)
mapped_at f [] i h = absurd (not-suc-le-zero h)
mapped_at f (x ∷ xs) zero h = refl
mapped_at f (x ∷ xs) (suc i) h = mapped_at f xs i (omega (arith, h))

pub words-length : (ls : List Line) → length (holder_words ls) ≡ 64
unfolding holder_words
words-length ls = length-map (below 64) _ ∙ below_length 64

pub words-at : (ls : List Line) (i : ℕ) → i < 64 → get_or (holder_words ls) i 0 ≡ holder_no (holder ls (thing_at i))
unfolding holder_words
words-at ls i h =
    mapped_at (λ j. holder_no (holder ls (thing_at j))) (below 64) i (omega (arith, h, below_length 64))
    ∙ ap (λ (j : ℕ). holder_no (holder ls (thing_at j))) (below_at 64 i h)

-- lists of one length with equal elements
same-list : (xs ys : List ℕ) → length xs ≡ length ys → ((i : ℕ) → i < length xs → get_or xs i 0 ≡ get_or ys i 0) → xs ≡ ys
same-list [] [] e h = refl
same-list [] (y ∷ ys) e h = absurd (omega (arith, e))
same-list (x ∷ xs) [] e h = absurd (omega (arith, e))
same-list (x ∷ xs) (y ∷ ys) e h =
    ap₂ (λ (z : ℕ) (zs : List ℕ). z ∷ zs) (h 0 (omega arith))
    (same-list xs ys (omega (arith, e)) (λ i l. h (suc i) (omega (arith, l))))

-- these words are those of the lines
pub words_are : (ws : List ℕ) (ls : List Line) → length ws ≡ 64
    → ((i : ℕ) → i < 64 → get_or ws i 0 ≡ holder_no (holder ls (thing_at i))) → ws ≡ holder_words ls
words_are ws ls e h =
    same-list ws (holder_words ls) (e ∙ sym (words-length ls))
    (λ i l. h i (omega (arith, e)) ∙ sym (words-at ls i (omega (arith, e))))

pub no-holder-words : replicate 64 255 ≡ holder_words []
unfolding holder_words below holder holder_no
no-holder-words = refl

-- where the things stand

pub qubit-at : (q : ℕ) → q < 32 → thing_at q ≡ qubit q
unfolding thing_at
qubit-at q h = rw (lt-ltb q 32 h)

pub end-at : (c : ℕ) (d : Bool) → c < 16 → thing_at (32 + 2 * c + side_no d) ≡ end c d
unfolding thing_at
end-at c d h =
    ap (λ (b : Bool). cond b (qubit (32 + 2 * c + side_no d))
    (end ((32 + 2 * c + side_no d - 32) / 2) (side_of ((32 + 2 * c + side_no d - 32) % 2))))
    (le-ltb (32 + 2 * c + side_no d) 32 (omega arith)) ∙ side d
  where
    side : (d : Bool) → end ((32 + 2 * c + side_no d - 32) / 2) (side_of ((32 + 2 * c + side_no d - 32) % 2)) ≡ end c d
    side true =
        ap₂ (λ (i : ℕ) (j : ℕ). end i (side_of j)) {x = (32 + 2 * c + 1 - 32) / 2} {y = c}
        {u = (32 + 2 * c + 1 - 32) % 2} {v = 1} (omega arith) (omega arith)
    side false =
        ap₂ (λ (i : ℕ) (j : ℕ). end i (side_of j)) {x = (32 + 2 * c + 0 - 32) / 2} {y = c}
        {u = (32 + 2 * c + 0 - 32) % 2} {v = 0} (omega arith) (omega arith)

-- every index is that of a qubit or of an end
pub data Place : ℕ → Type 0 where
  of-qubit : (q : ℕ) → q < 32 → Place q
  of_end : (c : ℕ) (d : Bool) → c < 16 → Place (32 + 2 * c + side_no d)

pub place-of : (i : ℕ) → i < 64 → Place i
place-of i h = go (ltb i 32) refl
  where
    at-end : 32 ≤ i → (d : Bool) → (i - 32) % 2 ≡ side_no d → Place i
    at-end l d e =
        subst Place {x = 32 + 2 * ((i - 32) / 2) + side_no d} {y = i} (omega (arith, l, e))
        (of_end ((i - 32) / 2) d (omega (arith, h, l)))

    even : 32 ≤ i → (b : Bool) → eqb ((i - 32) % 2) 0 ≡ b → Place i
    even l true e = at-end l false (eqb-true ((i - 32) % 2) 0 e)
    even l false e = at-end l true (let ne = eqb-false ((i - 32) % 2) 0 e in omega (arith, ne))

    go : (b : Bool) → ltb i 32 ≡ b → Place i
    go true e = of-qubit i (ltb-true i 32 e)
    go false e = even (ltb-false i 32 e) (eqb ((i - 32) % 2) 0) refl
