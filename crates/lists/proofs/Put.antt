-- Elements put into a list, one list of them after another.
use Prim.Native.Nat.{ℕ, suc, ◌+◌, ◌≤◌, ◌<◌}
use mathlib.Core.Path.{◌≡◌, refl, sym, ◌∙◌, ap}
use mathlib.Core.List.{List, [], ◌∷◌, ◌++◌, append-nil}
use native.Mathlib.Omega.{arith}
use native.Mathlib.Numerals.{add-one}
use lib.ListN.{length, take, get_or, set, length-append, length-set}
use lib.Seq.{take-suc, take-suc-set, length-take-le, append_snoc}
use Rattle.lists.specs.Lists.{put_from}

-- what a function here ensures: these are put, and the answer is the index after them
abbrev pub Put : List ℕ → ℕ → List ℕ → List ℕ → ℕ → Type 0
Put out at bs out' r = (out' ≡ put_from out at bs) × (r ≡ at + length bs)

pub put_from-append : (out : List ℕ) (at : ℕ) (xs ys : List ℕ)
    → put_from out at (xs ++ ys) ≡ put_from (put_from out at xs) (at + length xs) ys
unfolding put_from
put_from-append out at [] ys = ap (λ (i : ℕ). put_from out i ys) (omega arith)
put_from-append out at (x ∷ xs) ys =
    put_from-append (set out at x) (suc at) xs ys
    ∙ ap (λ (i : ℕ). put_from (put_from (set out at x) (suc at) xs) i ys) (omega arith)

-- one list put, and then another after it
pub put_then : (out : List ℕ) (at : ℕ) (xs ys : List ℕ) {mid end : List ℕ} {i j : ℕ}
    → Put out at xs mid i → Put mid i ys end j → Put out at (xs ++ ys) end j
put_then out at xs ys {mid} {end} {i} {j} (p, q) (s, t) = (
  s ∙ ap (λ (m : List ℕ). put_from m i ys) p ∙ ap (λ (k : ℕ). put_from (put_from out at xs) k ys) q
      ∙ sym (put_from-append out at xs ys),
  omega (arith, length-append xs ys),
)

-- the same elements under another name
pub put_same : (out : List ℕ) (at : ℕ) {xs ys : List ℕ} {end : List ℕ} {j : ℕ} → xs ≡ ys → Put out at xs end j
    → Put out at ys end j
put_same out at e (p, q) = (p ∙ ap (put_from out at) e, q ∙ ap (λ (l : List ℕ). at + length l) e)

-- where they fit, they stand after what was there
pub put_from-take : (out : List ℕ) (at : ℕ) (bs : List ℕ) → at + length bs ≤ length out
    → take (at + length bs) (put_from out at bs) ≡ take at out ++ bs
unfolding put_from
put_from-take out at [] h =
    ap (λ (i : ℕ). take i out) {x = at + 0} {y = at} (omega arith) ∙ sym (append-nil (take at out))
put_from-take out at (b ∷ bs) h =
    ap (λ (i : ℕ). take i (put_from (set out at b) (suc at) bs)) {x = at + suc (length bs)} {y = suc at + length bs}
    (omega arith)
    ∙ put_from-take (set out at b) (suc at) bs (omega (arith, length-set out at b))
    ∙ ap (λ (l : List ℕ). l ++ bs) (take-suc-set out at b (omega arith))
    ∙ append_snoc (take at out) b bs

pub put_from-length : (out : List ℕ) (at : ℕ) (bs : List ℕ) → length (put_from out at bs) ≡ length out
unfolding put_from
put_from-length out at [] = refl
put_from-length out at (b ∷ bs) = put_from-length (set out at b) (suc at) bs ∙ length-set out at b

-- one more element, from the list's start
pub put_from-next : (out bs : List ℕ) (i : ℕ) → i < length bs
    → put_from out 0 (take (i + 1) bs) ≡ set (put_from out 0 (take i bs)) i (get_or bs i 0)
unfolding put_from
put_from-next out bs i h =
    ap (λ (n : ℕ). put_from out 0 (take n bs)) (add-one i)
    ∙ ap (put_from out 0) (take-suc bs i 0 h)
    ∙ put_from-append out 0 (take i bs) (get_or bs i 0 ∷ [])
    ∙ ap (λ (j : ℕ). set (put_from out 0 (take i bs)) j (get_or bs i 0)) {x = 0 + length (take i bs)} {y = i}
    (omega (arith, length-take-le i bs (omega arith)))
