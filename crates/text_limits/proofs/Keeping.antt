-- The code of the methods, kept one after the other.
use Prim.Native.Nat.{ℕ, zero, suc, ◌+◌, ◌*◌, ◌≤◌, ◌<◌}
use native.Mathlib.Omega.{arith}
use native.Mathlib.Nat.{eq-or-lt_of_le}
use native.Mathlib.Numerals.{add-one}
use mathlib.Core.Logic.{◌⊎◌, inl, inr}
use mathlib.Core.Path.{◌≡◌, refl, sym, ap, ap₂, subst, ◌∙◌}
use mathlib.Core.List.{List, ◌++◌, append_assoc}
use mathlib.Core.Option.{some}
use lib.ListN.{get_or, length, set, take, drop}
use lib.Seq.{length-take-le, take_at, drop_at, take-paste, get_or-take, get_or-drop, get_or-set_same, get_or-set_other}
use Rattle.text.specs.Tree.{Method, Program, main_first, method_at}
use Rattle.text_judge.specs.RowsCode.{copied}
use Rattle.text_code.specs.KeptCode.{CodeOf, offset_in, CodeKept}

-- words that stand before those that are replaced, and these words themselves
module _ (d : List ℕ) (at : ℕ) (s : List ℕ) (n : ℕ) (l : at + n ≤ length d) (m : n ≤ length s) where
  pub word-before : (j : ℕ) → j < at → get_or (copied d at s n) j 0 ≡ get_or d j 0
  unfolding copied
  word-before j h =
      sym (get_or-take at (copied d at s n) j 0 h)
      ∙ ap (λ xs. get_or xs j 0) (ap (take at) (append_assoc (take at d) (take n s) (drop (at + n) d))
      ∙ take_at (take at d) (take n s ++ drop (at + n) d) at (length-take-le at d (omega arith)))
      ∙ get_or-take at d j 0 h

  pub word-here : (j : ℕ) → j < n → get_or (copied d at s n) (at + j) 0 ≡ get_or s j 0
  unfolding copied
  word-here j h =
      sym (get_or-take (at + n) (copied d at s n) (at + j) 0 (omega arith))
      ∙ ap (λ xs. get_or xs (at + j) 0) (take-paste d at s n (omega arith) m)
      ∙ sym (get_or-drop at (take at d ++ take n s) j 0)
      ∙ ap (λ xs. get_or xs j 0) (drop_at (take at d) (take n s) at (length-take-le at d (omega arith)))
      ∙ get_or-take n s j 0 h

-- Where a method's code begins

offset-next : (lengths : List ℕ) (k : ℕ) → offset_in lengths (k + 1) ≡ offset_in lengths k + get_or lengths k 0
unfolding offset_in
offset-next lengths k = ap (offset_in lengths) (add-one k)

-- it does not depend on its own length or a later one
offset-set : (lengths : List ℕ) (k long i : ℕ) → i ≤ k → offset_in (set lengths k long) i ≡ offset_in lengths i
unfolding offset_in
offset-set lengths k long zero h = refl
offset-set lengths k long (suc i) h =
    ap₂ ◌+◌ (offset-set lengths k long i (omega arith))
    (get_or-set_other lengths k i long 0 (λ o. absurd (omega (arith, o))))

abbrev Before : List ℕ → ℕ → ℕ → Type 0
Before lengths i k = offset_in lengths i + get_or lengths i 0 ≤ offset_in lengths k

before-next : (lengths : List ℕ) (i k : ℕ) → (i < k → Before lengths i k) → (i ≡ k) ⊎ (i < k)
    → Before lengths i (suc k)
unfolding offset_in
before-next lengths i k f (inl e) = omega (arith, ap (λ x. offset_in lengths x + get_or lengths x 0) e)
before-next lengths i k f (inr q) = omega (arith, f q)

-- the code of a method ends before that of a later one
offset-before : (lengths : List ℕ) (i k : ℕ) → i < k → Before lengths i k
offset-before lengths i zero h = absurd (omega arith)
offset-before lengths i (suc k) h =
    before-next lengths i k (λ q. offset-before lengths i k q) (eq-or-lt_of_le (omega arith))

-- Kept code

-- code that stands where nothing is replaced
code_stays : (ms : Program) (m : Method) (kept kept' : List ℕ) (o n total : ℕ) → CodeOf ms m (drop (2 * o) kept) n
    → o + n ≤ total → ((j : ℕ) → j < 2 * total → get_or kept' j 0 ≡ get_or kept j 0)
    → CodeOf ms m (drop (2 * o) kept') n
code_stays ms m kept kept' o n total c l s j q =
    get_or-drop (2 * o) kept' j 0 ∙ s (2 * o + j) (omega arith) ∙ sym (get_or-drop (2 * o) kept j 0) ∙ c j q

code_at : (ms : Program) (m : Method) (kept : List ℕ) (o o' n n' : ℕ) → o ≡ o' → n ≡ n'
    → CodeOf ms m (drop (2 * o') kept) n' → CodeOf ms m (drop (2 * o) kept) n
code_at ms m kept o o' n n' e f c =
    subst (λ x. CodeOf ms m (drop (2 * o) kept) x) (sym f)
    (subst (λ x. CodeOf ms m (drop (2 * x) kept) n') (sym e) c)

-- The code of the next method is kept after that of the first k
module _ (ns : Program) (k total long : ℕ) (lengths kept kept' : List ℕ) (codes : CodeKept ns k lengths kept)
    (offset : total ≡ offset_in lengths k) (small : k < length lengths)
    (earlier : (j : ℕ) → j < 2 * total → get_or kept' j 0 ≡ get_or kept j 0) where
  pub offset-on : total + long ≡ offset_in (set lengths k long) (k + 1)
  offset-on =
      omega (
        arith,
        offset,
        offset-next (set lengths k long) k,
        offset-set lengths k long k (omega arith),
        get_or-set_same lengths k long 0 small,
      )

  pub codes-on : ((m : Method) → method_at ns k ≡ some m → CodeOf (main_first ns) m (drop (2 * total) kept') long)
      → CodeKept ns (k + 1) (set lengths k long) kept'
  codes-on own i m q e = by (eq-or-lt_of_le (omega arith))
    where
      by : (i ≡ k) ⊎ (i < k)
          → CodeOf (main_first ns) m (drop (2 * offset_in (set lengths k long) i) kept') (get_or (set lengths k long) i 0)
      by (inl s) =
          code_at (main_first ns) m kept' (offset_in (set lengths k long) i) total (get_or (set lengths k long) i 0) long
          (ap (offset_in (set lengths k long)) s ∙ offset-set lengths k long k (omega arith) ∙ sym offset)
          (ap (λ x. get_or (set lengths k long) x 0) s ∙ get_or-set_same lengths k long 0 small)
          (own m (ap (method_at ns) (sym s) ∙ e))
      by (inr l) =
          code_at (main_first ns) m kept' (offset_in (set lengths k long) i) (offset_in lengths i)
          (get_or (set lengths k long) i 0) (get_or lengths i 0) (offset-set lengths k long i (omega arith))
          (get_or-set_other lengths k i long 0 (λ o. absurd (omega (arith, o))))
          (code_stays (main_first ns) m kept kept' (offset_in lengths i) (get_or lengths i 0) total (codes i m l e)
          (omega (arith, offset, offset-before lengths i k l)) earlier)
