-- Question 5 at one instruction, and what the functions that read may assume. These definitions follow the code.
use Rattle.std.specs.Prelude.{ℕ, ◌≤◌, ◌<◌, cond, ◌≡◌, List, T, ltb, get_or, length}
use Rattle.std.proofs.Math.Option.{Option, none, some}
use Rattle.table.specs.Table.{methods, instructions}
use Rattle.table.specs.Reading.{after, before, is_target, reads}
use Rattle.table.specs.Questions.{instruction_kept}
use Rattle.table.proofs.Accepted.{Sizes, Pairs}
use Rattle.check_instructions.specs.OwnersCode.{owner_at}
use Rattle.check_types.specs.PendingCode.{types_of}
use Rattle.check_types.specs.RulesCode.{Rows}
use Rattle.check_instructions.specs.declared.owner.Owner.{Owner}
use Rattle.check_types.specs.declared.pending.Pending.{Pending}

-- the types after instruction i, if it keeps the rules of question 5
unfoldable pub read_on : List ℕ → ℕ → Option (List ℕ)
read_on p i = cond (reads p i) (some (after p i (before p i))) none

-- questions 1 to 4 are passed, and the targets are marked
pub record FirstFour (p : List ℕ) (count n : ℕ) (targets : List ℕ) : Type 0 where
  pub sizes : Sizes p
  pub pairs : Pairs p
  pub rows : Rows p
  pub code : (i : ℕ) → i < instructions p → T (instruction_kept p i)
  pub methods-count : count ≡ methods p
  pub instructions-count : n ≡ instructions p
  pub long : n ≤ length targets
  pub marks : (i : ℕ) → i < n → ltb 0 (get_or targets i 0) ≡ is_target p i

-- instruction i stands to be read, with its owner, its mark and the types pending before it
pub record ReadingPoint (p : List ℕ) (count : ℕ) (o : Owner) (i target : ℕ) (q : Pending) : Type 0 where
  pub sizes : Sizes p
  pub pairs : Pairs p
  pub rows : Rows p
  pub methods-count : count ≡ methods p
  pub within : i < instructions p
  pub kept : T (instruction_kept p i)
  pub owner : o ≡ owner_at p i
  pub mark : ltb 0 target ≡ is_target p i
  pub types : types_of q ≡ before p i
