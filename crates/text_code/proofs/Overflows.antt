-- What does not fit: more than 4,096 instructions or 16 slots, or a number that is too large; and nothing that stands
-- written.
use Prim.Native.Nat.{ℕ, ◌+◌, ◌≤◌}
use native.Mathlib.Omega.{arith}
use mathlib.Core.Path.{◌≡◌}
use mathlib.Core.Logic.{inl, inr}
use mathlib.Core.Bool.{true}
use mathlib.Core.List.{List}
use Rattle.lists.proofs.Tests.{clash, passes}
use lib.ListN.{length}
use Rattle.lists.specs.Lists.{every}
use Rattle.text.specs.Tree.{Declared}
use Rattle.text.specs.Translation.{Instruction}
use Rattle.text_numbering.specs.CodeBy.{number_fits}
use Rattle.text_code.specs.OutcomeCode.{Tables, Written, Overflow}

module _ (c : List Instruction) (ds : List Declared) (σ : Tables) where
  pub code-over : 4097 ≤ σ.count + length c → Overflow σ c ds
  code-over h = inl (omega arith)

  pub slots-over : 17 ≤ σ.used + length ds → Overflow σ c ds
  slots-over h = inr (inr (omega arith))

  pub written-fits : (text : List ℕ) (τ : Tables) → Written text c ds σ τ → every number_fits c ≡ true
      → Overflow σ c ds → ⊥
  written-fits text τ w q (inl h) =
      let counted = w.counted in
      let few = w.few in
      omega arith
  written-fits text τ w q (inr (inl e)) = clash e (passes q)
  written-fits text τ w q (inr (inr h)) =
      let given = w.given in
      let room = w.room in
      omega arith
