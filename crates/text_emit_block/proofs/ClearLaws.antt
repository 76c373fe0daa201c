-- CLEAR for slots one after the other.
use Prim.Native.Nat.{ℕ, zero, suc, ◌+◌, ◌-◌, ◌≤◌, ◌<◌}
use native.Mathlib.Omega.{arith}
use mathlib.Core.Path.{◌≡◌, refl, sym, ap, ◌∙◌, subst}
use mathlib.Core.List.{List, [], ◌∷◌, ◌++◌, append-nil, append_assoc}
use lib.ListN.{length}
use Rattle.text.specs.Tree.{Declared}
use Rattle.text.specs.Translation.{Instruction, CLEAR, clear_code}
use Rattle.text_numbering.specs.CodeBy.{number_fits}
use Rattle.text_code.proofs.Forms.{outcome-same}
use Rattle.text_emit.specs.Reached.{EmitState}
use Rattle.text_emit.proofs.EmitLaws.{lost, one-stuck}
use Rattle.text_emit.specs.EmitCode.{Puts, PutsOne}
use Rattle.text_emit_block.specs.BlockCode.{Clears}

-- CLEAR for the k slots from i on
unfoldable pub emptied : ℕ → ℕ → List Instruction
emptied i zero = []
emptied i (suc k) = emptied i k ++ (CLEAR (i + k) ∷ [])

emptied-first : (k i : ℕ) → emptied i (suc k) ≡ CLEAR i ∷ emptied (suc i) k
unfolding emptied
emptied-first zero i =
    let none : i + 0 ≡ i = omega arith in ap (λ (j : ℕ). CLEAR j ∷ []) none
emptied-first (suc k) i =
    let one : i + suc k ≡ suc i + k = omega arith in
    ap (λ (l : List Instruction). l ++ (CLEAR (i + suc k) ∷ [])) (emptied-first k i)
    ∙ ap (λ (j : ℕ). CLEAR i ∷ emptied (suc i) k ++ (CLEAR j ∷ [])) one

emptied-none : (i : ℕ) → emptied i 0 ≡ []
unfolding emptied
emptied-none i = refl

emptied-is : (ds : List Declared) (i : ℕ) → emptied i (length ds) ≡ clear_code ds i
unfolding clear_code
emptied-is [] i = emptied-none i
emptied-is (d ∷ ds) i =
    emptied-first (length ds) i ∙ ap (λ (l : List Instruction). CLEAR i ∷ l) (emptied-is ds (suc i))

-- up to slot i
abbrev pub UpTo : ℕ → ℕ → EmitState → List ℕ → EmitState → List ℕ → Type 0
UpTo from i e code r code' = (k : ℕ) → i ≡ from + k → Puts (emptied from k) e code r code'

pub clears-begin : (from : ℕ) (e : EmitState) (code : List ℕ) → UpTo from from e code e code
unfolding emptied
clears-begin from e code zero q text us n scope row low b es σ h = outcome-same text (sym (append-nil b)) refl h
clears-begin from e code (suc k) q text us n scope row low b es σ h = absurd (omega arith)

pub clears-on : (from i : ℕ) (e m r : EmitState) (code₀ code₁ code₂ : List ℕ) → from ≤ i → UpTo from i e code₀ m code₁
    → PutsOne 6 i m code₁ r code₂ → UpTo from (i + 1) e code₀ r code₂
unfolding emptied number_fits
clears-on from i e m r code₀ code₁ code₂ le f p zero q text us n scope row low b es σ h = absurd (omega arith)
clears-on from i e m r code₀ code₁ code₂ le f p (suc k) q text us n scope row low b es σ h =
    let here : i ≡ from + k = omega arith in
    outcome-same text (append_assoc b (emptied from k) (CLEAR i ∷ [])
    ∙ ap (λ (j : ℕ). b ++ (emptied from k ++ (CLEAR j ∷ []))) here) refl
    (p refl text us n scope row low (b ++ emptied from k) es σ (f k here text us n scope row low b es σ h))

pub clears-end : (from to i : ℕ) (e r : EmitState) (code₀ code₁ : List ℕ) → (from ≤ to → i ≤ to) → to ≤ i
    → UpTo from i e code₀ r code₁ → Clears from to e code₀ r code₁
clears-end from to i e r code₀ code₁ most more f ds q text us n scope row low b es σ h =
    let least : from ≤ to = omega arith in
    outcome-same text (ap (λ (l : List Instruction). b ++ l) (emptied-is ds from)) refl
    (f (length ds) (meets (most least)) text us n scope row low b es σ h)
  where
    meets : i ≤ to → i ≡ from + length ds
    meets le = omega arith

-- nothing more fits
clears-lost : (from i k : ℕ) (e : EmitState) (code₀ code₁ : List ℕ) → from ≤ i → UpTo from i e code₀ lost code₁
    → UpTo from (i + k) e code₀ lost code₁
clears-lost from i zero e code₀ code₁ le f =
    let same : i ≡ i + 0 = omega arith in subst (λ (j : ℕ). UpTo from j e code₀ lost code₁) same f
clears-lost from i (suc k) e code₀ code₁ le f =
    let on : i + k + 1 ≡ i + suc k = omega arith in
    subst (λ (j : ℕ). UpTo from j e code₀ lost code₁) on
    (clears-on from (i + k) e lost lost code₀ code₁ code₁ (omega arith) (clears-lost from i k e code₀ code₁ le f)
    (one-stuck 6 (i + k) lost lost code₁ code₁ refl refl))

pub clears-off : (from to i : ℕ) (e m : EmitState) (code₀ code₁ code₂ : List ℕ) → from ≤ i → i < to
    → UpTo from i e code₀ m code₁ → PutsOne 6 i m code₁ lost code₂ → Clears from to e code₀ lost code₂
clears-off from to i e m code₀ code₁ code₂ le more f p =
    let last : i + 1 + (to - (i + 1)) ≡ to = omega arith in
    clears-end from to to e lost code₀ code₂ (λ h. omega arith) (omega arith)
    (subst (λ (j : ℕ). UpTo from j e code₀ lost code₂) last
    (clears-lost from (i + 1) (to - (i + 1)) e code₀ code₂ (omega arith)
    (clears-on from i e m lost code₀ code₁ code₂ le f p)))
