-- Whether the run can go on, on the words of the store. These definitions follow the code.
use Rattle.std.specs.Prelude.{ℕ, zero, suc, Bool, cond, ◌||◌, false, List, eqb, Option, Some, None}
use Rattle.run_parts.specs.PartsCode.{part_of}
use Rattle.run_parts.specs.declared.readiness.Readiness.{Readiness}
use Rattle.run_parts.specs.declared.readiness.Readiness.TheVariants.{Idle, Moves, Sends, Receives}
use Rattle.run_parts.specs.ReadinessCode.{readiness_op}
use Rattle.run_ability.specs.EndNumbers.{end_number}
use Rattle.run_ability.specs.PartnerCode.{Partner, is_moving, partner_op}
use Rattle.run_ability.specs.declared.ends.End.{End}
use Rattle.run_ability.specs.declared.ends.End.TheVariants.{AllOver, NoneAble}
use Rattle.run_ability.specs.declared.ends.Ability.{Ability}
use Rattle.run_ability.specs.declared.ends.Ability.TheVariants.{Over, Able, Waiting}

-- an end's number, and 0 where the run goes on
unfoldable pub end_or_none : Option End → ℕ
end_or_none None = 0
end_or_none (Some e) = end_number e

-- 0 over or not made, 1 able to move, 2 waiting
unfoldable pub ability_number : Ability → ℕ
ability_number Over = 0
ability_number Able = 1
ability_number Waiting = 2

-- of a process with this readiness, whose offer finds q
unfoldable pub ability_by : Readiness → Partner → ℕ
ability_by Idle q = 0
ability_by Moves q = 1
ability_by (Sends e v) q = cond (is_moving q) 1 2
ability_by (Receives e) q = cond (is_moving q) 1 2

unfoldable pub ability_of : List ℕ → List ℕ → List (List ℕ) → ℕ → Readiness → ℕ
ability_of p work t n a = ability_by a (partner_op p work t n a)

unfoldable pub ability_op : List ℕ → List ℕ → List (List ℕ) → ℕ → ℕ
ability_op p work t n = ability_of p work t n (readiness_op p (part_of work n))

-- one of the first j processes has this ability
unfoldable pub some_is : List ℕ → List ℕ → List (List ℕ) → ℕ → ℕ → Bool
some_is p work t a zero = false
some_is p work t a (suc j) = some_is p work t a j || eqb (ability_op p work t j) a

-- the end that the first n processes give; none where one of them is able to move
unfoldable pub ending_op : List ℕ → List ℕ → List (List ℕ) → ℕ → Option End
ending_op p work t n = cond (some_is p work t 1 n) None (Some (cond (some_is p work t 2 n) NoneAble AllOver))
