-- Words copied one by one.
use Prim.Native.Nat.{ℕ, ◌+◌, ◌≤◌, ◌<◌}
use native.Mathlib.Omega.{arith}
use native.Mathlib.Numerals.{add-one}
use mathlib.Core.Path.{◌≡◌, ap, ◌∙◌}
use mathlib.Core.List.{List}
use lib.ListN.{get_or, length, set}
use lib.Seq.{paste-zero, paste-suc, length-paste}
use Rattle.text_judge.specs.RowsCode.{copied}

module _ (d : List ℕ) (at : ℕ) (s : List ℕ) where
  pub copied_none : d ≡ copied d at s 0
  unfolding copied
  copied_none = paste-zero d at s

  pub copied_more : (ts : List ℕ) (i : ℕ) → ts ≡ copied d at s i → at + i < length d → i < length s
      → set ts (at + i) (get_or s i 0) ≡ copied d at s (i + 1)
  unfolding copied
  copied_more ts i e l m = ap (λ t. set t (at + i) (get_or s i 0)) e ∙ rw (add-one i) (paste-suc d at s i 0 l m)

  pub copied-long : (ts : List ℕ) (i : ℕ) → ts ≡ copied d at s i → at + i ≤ length d → i ≤ length s
      → length ts ≡ length d
  unfolding copied
  copied-long ts i e l m = ap length e ∙ length-paste d at s i l m

  pub copied-ends : (ts : List ℕ) (i k : ℕ) → ts ≡ copied d at s i → i ≤ k → k ≤ i → ts ≡ copied d at s k
  copied-ends ts i k e l m =
      let same : i ≡ k = omega arith in
      e ∙ ap (copied d at s) same
