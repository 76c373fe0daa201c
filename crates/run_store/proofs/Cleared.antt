-- Words cleared at the end of the heads or of the values of a process.
use Prim.Native.Nat.{ℕ, zero, suc, ◌+◌, ◌≤◌, ◌<◌}
use mathlib.Core.Path.{◌≡◌, ◌∙◌, ap, ap₂}
use mathlib.Core.List.{List, ◌++◌, append-nil}
use native.Mathlib.Nat.{le_of_suc-le}
use native.Mathlib.Numerals.{add-one}
use native.Mathlib.Omega.{arith}
use lib.ListN.{set, drop, length, replicate, length-append, length-drop, length-replicate, drop_of_length-le}
use borrow.Author.Fill.{fill_none, fill_more}
use Rattle.layout.proofs.Whole.{whole, last-head-set, last-value-set}
use Rattle.run_store.specs.StoreCode.{cleared_from}

-- the first j words of a list made 0
unfoldable pub blank : ℕ → List ℕ → List ℕ
blank j ws = replicate j 0 ++ drop j ws

blank-length : (j : ℕ) (ws : List ℕ) → j ≤ length ws → length (blank j ws) ≡ length ws
unfolding blank
blank-length j ws h =
    length-append (replicate j 0) (drop j ws)
    ∙ ap₂ ◌+◌ (length-replicate j 0) (length-drop j ws)
    ∙ omega arith

blank_none : (ws : List ℕ) → ws ≡ blank 0 ws
unfolding blank
blank_none ws = fill_none ws 0

blank-more : (j : ℕ) (ws : List ℕ) → j < length ws → set (blank j ws) j 0 ≡ blank (suc j) ws
unfolding blank
blank-more j ws h = fill_more j 0 ws h ∙ ap (λ (i : ℕ). replicate i 0 ++ drop i ws) (add-one j)

pub blank-all : (ws : List ℕ) (n : ℕ) → length ws ≡ n → blank n ws ≡ replicate n 0
unfolding blank
blank-all ws n e =
    ap (λ (l : List ℕ). replicate n 0 ++ l) (drop_of_length-le ws {i = n} (omega (arith, e)))
    ∙ append-nil (replicate n 0)

-- all the words of a list cleared
pub all-cleared : (ws : List ℕ) (n : ℕ) → length ws ≡ n → cleared_from ws 0 n ≡ replicate n 0
unfolding cleared_from
all-cleared ws n e = go n (omega (arith, e)) ∙ blank-all ws n e
  where
    go : (j : ℕ) → j ≤ length ws → cleared_from ws 0 j ≡ blank j ws
    go zero h = blank_none ws
    go (suc j) h =
        ap (λ (i : ℕ). set (cleared_from ws 0 j) i 0) {x = 0 + j} {y = j} (omega arith)
        ∙ ap (λ (l : List ℕ). set l j 0) (go j (le_of_suc-le h))
        ∙ blank-more j ws h

pub values-cleared : (n : ℕ) (heads values vs : List ℕ) (from j : ℕ) → length heads ≤ 56 → length (values ++ vs) ≤ 448
    → j ≤ length vs
    → from ≡ 64 + length values
    → cleared_from (whole n heads (values ++ vs)) from j ≡ whole n heads (values ++ blank j vs)
unfolding cleared_from
values-cleared n heads values vs from zero hs vl h e = ap (λ (l : List ℕ). whole n heads (values ++ l)) start
  where
    start : vs ≡ blank 0 vs
    start = blank_none vs
values-cleared n heads values vs from (suc j) hs vl h e =
    ap (λ (l : List ℕ). set l (from + j) 0) (values-cleared n heads values vs from j hs vl (le_of_suc-le h) e)
    ∙ last-value-set n heads values (blank j vs) (from + j) j 0 hs
    (omega (arith, vl, length-append values vs, length-append values (blank j vs), blank-length j vs (le_of_suc-le h)))
    (omega (arith, blank-length j vs (le_of_suc-le h), h)) (omega (arith, e))
    ∙ ap (λ (l : List ℕ). whole n heads (values ++ l)) (blank-more j vs h)

pub heads-cleared : (n : ℕ) (heads head values : List ℕ) (from j : ℕ) → length (heads ++ head) ≤ 56
    → length values ≤ 448 → j ≤ length head
    → from ≡ 8 + length heads
    → cleared_from (whole n (heads ++ head) values) from j ≡ whole n (heads ++ blank j head) values
unfolding cleared_from
heads-cleared n heads head values from zero hs vl h e = ap (λ (l : List ℕ). whole n (heads ++ l) values) start
  where
    start : head ≡ blank 0 head
    start = blank_none head
heads-cleared n heads head values from (suc j) hs vl h e =
    ap (λ (l : List ℕ). set l (from + j) 0) (heads-cleared n heads head values from j hs vl (le_of_suc-le h) e)
    ∙ last-head-set n heads (blank j head) values (from + j) j 0
    (omega
    (arith, hs, length-append heads head, length-append heads (blank j head), blank-length j head (le_of_suc-le h))) vl
    (omega (arith, blank-length j head (le_of_suc-le h), h)) (omega (arith, e))
    ∙ ap (λ (l : List ℕ). whole n (heads ++ l) values) (blank-more j head h)
