-- Laws of code that stands in a method, and of the places in it.
use Prim.Native.Nat.{ℕ, suc, ◌+◌}
use native.Mathlib.Omega.{arith}
use mathlib.Core.Path.{◌≡◌, refl, sym, ap, ◌∙◌}
use mathlib.Core.List.{List, [], ◌∷◌, ◌++◌}
use mathlib.Core.Option.{Option, none, some}
use lib.ListN.{length}
use lib.Dec.{T, eqb→eq}
use Rattle.text.specs.Tree.{Name, Method, Program, method_of}
use Rattle.text.specs.Translation.{Instruction}
use Rattle.text.specs.Names.{is_call, call_fault}
use Rattle.text.proofs.Apart.{unless-nil}
use Rattle.text.proofs.Follows.{CodeThen, past, Callable}

-- a call without fault calls a method with as many arguments
callable-by : (ms : Program) (x : Name) (n : ℕ) (o : Option Method) → method_of ms x ≡ o → T (is_call n o)
    → Callable ms x n
callable-by ms x n none e c = absurd c
callable-by ms x n (some m) e c =
    record { method = m; is-method = e; arguments = eqb→eq n (length m.parameters) c }

-- by its name
pub callable : (ms : Program) (x : Name) (n : ℕ) → call_fault ms x n ≡ [] → Callable ms x n
unfolding call_fault
callable ms x n e =
    callable-by ms x n (method_of ms x) refl (unless-nil (is_call n (method_of ms x)) x e)

module _ (ms : Program) (m : Method) where
  -- from what holds after the code to something else
  pub then_at : (xs : List Instruction) (R S : ℕ → Type 0) (at : ℕ) → (R (past xs at) → S (past xs at))
      → CodeThen ms m xs R at → CodeThen ms m xs S at
  then_at [] R S at f h = f h
  then_at (x ∷ xs) R S at f h = (h.0, then_at xs R S (suc at) f h.1)

  -- code in two parts
  pub then_append : (xs ys : List Instruction) (R : ℕ → Type 0) (at : ℕ) → CodeThen ms m (xs ++ ys) R at
      → CodeThen ms m xs (CodeThen ms m ys R) at
  then_append [] ys R at h = h
  then_append (x ∷ xs) ys R at h = (h.0, then_append xs ys R (suc at) h.1)

  -- code in two parts, where something else follows from the second
  pub in_parts : (xs ys : List Instruction) (R S : ℕ → Type 0) (at : ℕ)
      → (CodeThen ms m ys R (past xs at) → S (past xs at)) → CodeThen ms m (xs ++ ys) R at → CodeThen ms m xs S at
  in_parts xs ys R S at f h = then_at xs (CodeThen ms m ys R) S at f (then_append xs ys R at h)

  -- what holds after the code
  pub then-past : (xs : List Instruction) (R : ℕ → Type 0) (at : ℕ) → CodeThen ms m xs R at → R (past xs at)
  then-past [] R at h = h
  then-past (x ∷ xs) R at h = then-past xs R (suc at) h.1

-- the place after some code, by its length
past-length : (xs : List Instruction) (at : ℕ) → past xs at ≡ at + length xs
past-length [] at = omega arith
past-length (x ∷ xs) at = let ih : past xs (suc at) ≡ suc at + length xs = past-length xs (suc at) in omega arith

-- where a branch ends
pub if-target : (c s : List Instruction) (at : ℕ) → past s (suc (past c at)) ≡ at + length c + 1 + length s
if-target c s at =
    let one : past c at ≡ at + length c = past-length c at in
    let two : past s (suc (past c at)) ≡ suc (past c at) + length s = past-length s (suc (past c at)) in
    omega arith

-- where a branch begins
pub if-begin : (c : List Instruction) (at : ℕ) → at + length c + 1 ≡ suc (past c at)
if-begin c at = let one : past c at ≡ at + length c = past-length c at in omega arith

-- where the second branch begins
pub else-target : (c s : List Instruction) (at : ℕ)
    → suc (past s (suc (past c at))) ≡ at + length c + 1 + length s + 1
else-target c s at = let one : past s (suc (past c at)) ≡ at + length c + 1 + length s = if-target c s at in omega arith

-- where it ends
pub else-end : (c s t : List Instruction) (at : ℕ)
    → past t (suc (past s (suc (past c at)))) ≡ at + length c + 1 + length s + 1 + length t
else-end c s t at =
    let one : suc (past s (suc (past c at))) ≡ at + length c + 1 + length s + 1 = else-target c s at in
    past-length t (suc (past s (suc (past c at)))) ∙ ap (λ (b : ℕ). b + length t) one

-- a part of the code that begins where another ends
pub begins : (xs : List Instruction) (at : ℕ) → at + length xs ≡ past xs at
begins xs at = sym (past-length xs at)
