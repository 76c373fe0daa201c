-- Reads and writes in concatenated and padded lists of words.
use Prim.Native.Nat.{ℕ, suc, ◌+◌, ◌-◌, ◌<◌}
use mathlib.Core.Path.{◌≡◌, sym, ◌∙◌, ap, ap₂, subst}
use mathlib.Core.List.{List, [], ◌∷◌, ◌++◌, append_assoc}
use native.Mathlib.Nat.{zero-add, suc-add}
use native.Mathlib.Omega.{arith}
use lib.ListN.{get_or, set, length, replicate, length-append, length-set, get_or-append}
use lib.Seq.{get_or-append-add, set-append_left, set-append_seam}
use Rattle.layout.specs.Layout.{padded}

-- after a prefix

set-append-add : (xs ys : List ℕ) (i x : ℕ) → set (xs ++ ys) (length xs + i) x ≡ xs ++ set ys i x
set-append-add [] ys i x = ap (λ (k : ℕ). set ys k x) (zero-add i)
set-append-add (y ∷ xs) ys i x =
    ap (λ (k : ℕ). set (y ∷ (xs ++ ys)) k x) (suc-add (length xs) i)
    ∙ ap {B = List ℕ} (λ r. y ∷ r) (set-append-add xs ys i x)

pub set_after : (xs ys : List ℕ) (n i x : ℕ) → length xs ≡ n → set (xs ++ ys) (n + i) x ≡ xs ++ set ys i x
set_after xs ys n i x e = ap (λ (k : ℕ). set (xs ++ ys) (k + i) x) (sym e) ∙ set-append-add xs ys i x

pub get_after : (xs ys : List ℕ) (n i : ℕ) → length xs ≡ n → get_or (xs ++ ys) (n + i) 0 ≡ get_or ys i 0
get_after xs ys n i e = ap (λ (k : ℕ). get_or (xs ++ ys) (k + i) 0) (sym e) ∙ get_or-append-add xs ys i 0

-- padded lists

pub padded-get : (n : ℕ) (ws : List ℕ) (i : ℕ) → i < length ws → get_or (padded n ws) i 0 ≡ get_or ws i 0
unfolding padded
padded-get n ws i h = get_or-append ws (replicate (n - length ws) 0) 0 i h

pub padded-set : (n : ℕ) (ws : List ℕ) (i x : ℕ) → i < length ws → set (padded n ws) i x ≡ padded n (set ws i x)
unfolding padded
padded-set n ws i x h =
    set-append_left ws (replicate (n - length ws) 0) i x h
    ∙ ap (λ (k : ℕ). set ws i x ++ replicate (n - k) 0) (sym (length-set ws i x))

-- the padding of a list shorter than n starts with a 0
padding-cons : (n k : ℕ) → k < n → ◌≡◌ {A = List ℕ} (replicate (n - k) 0) (0 ∷ replicate (n - suc k) 0)
padding-cons n k h = ap (λ (j : ℕ). replicate {A = ℕ} j 0) less
  where
    less : n - k ≡ suc (n - suc k)
    less = omega arith

padded-short : (n : ℕ) (ws : List ℕ) → length ws < n → padded n ws ≡ ws ++ (0 ∷ replicate (n - suc (length ws)) 0)
unfolding padded
padded-short n ws h = ap (λ (r : List ℕ). ws ++ r) (padding-cons n (length ws) h)

padded-longer : (n : ℕ) (ws : List ℕ) (x : ℕ)
    → padded n (ws ++ (x ∷ [])) ≡ ws ++ (x ∷ replicate (n - suc (length ws)) 0)
unfolding padded
padded-longer n ws x =
    append_assoc ws (x ∷ []) (replicate (n - length (ws ++ (x ∷ []))) 0)
    ∙ ap (λ (k : ℕ). ws ++ (x ∷ replicate (n - k) 0)) longer
  where
    longer : length (ws ++ (x ∷ [])) ≡ suc (length ws)
    longer = omega (arith, length-append ws (x ∷ []))

-- the first padding word written: the list is one longer
pub padded-next : (n : ℕ) (ws : List ℕ) (i x : ℕ) → i ≡ length ws → i < n
    → set (padded n ws) i x ≡ padded n (ws ++ (x ∷ []))
padded-next n ws i x e h =
    ap₂ (λ (l : List ℕ) (k : ℕ). set l k x) (padded-short n ws (subst (λ (k : ℕ). k < n) e h)) e
    ∙ set-append_seam ws 0 (replicate (n - suc (length ws)) 0) x
    ∙ sym (padded-longer n ws x)

-- the last word made 0: the list is one shorter
pub padded-last : (n : ℕ) (ws : List ℕ) (x i : ℕ) → i ≡ length ws → i < n
    → set (padded n (ws ++ (x ∷ []))) i 0 ≡ padded n ws
padded-last n ws x i e h =
    ap₂ (λ (l : List ℕ) (k : ℕ). set l k 0) (padded-longer n ws x) e
    ∙ set-append_seam ws x (replicate (n - suc (length ws)) 0) 0
    ∙ sym (padded-short n ws (subst (λ (k : ℕ). k < n) e h))
