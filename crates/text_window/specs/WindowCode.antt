-- What the code keeps of the brackets that are open around a place: for as many levels as there is room for, from the
-- level `low` on, how many assignments are open within the level, and whether the bracket over it is a call's. These
-- definitions follow the code.
use Rattle.std.specs.Prelude.{ℕ, ◌+◌, ◌-◌, ◌≤◌, ◌<◌, ◌≡◌, Bool, true, false, cond, ◌||◌, List, eqb, ltb, length, get_or, set}
use Rattle.text_expr.specs.LevelsCode.{Level, Note, less_one}
use Rattle.text_expr.proofs.Notes.{Right}
use Rattle.text_effect.specs.EffectCode.{operator_kind}
use Rattle.text_effect.specs.declared.phase.Phase.{Phase}
use Rattle.text_effect.specs.declared.phase.Phase.TheVariants.{Operand, Whole, Bare, Named, Called, Recv1, Measure1, Measure2, Measure3, Measure4, Measure5, New1, New2, New3, New4, New5, New6}
use Rattle.text_effect.specs.declared.phase.Effect.{Effect}
use Rattle.text_effect.specs.declared.phase.Effect.TheVariants.{Stay, Assigns, Unassigns, OpensBracket, OpensCall, Closes, NextArgument, Astray, Beyond}

-- the cell of level k; `room`, which is none, where the level is not kept
unfoldable pub slot_of : ℕ → ℕ → ℕ → ℕ
slot_of room low k = cond (ltb k low) room (cond (ltb (k - low) room) (k - low) room)

abbrev pub cell : List ℕ → ℕ → ℕ → ℕ
cell xs low k = get_or xs (slot_of (length xs) low k) 0

abbrev pub put : ℕ → ℕ → ℕ → List ℕ → List ℕ
put low k v xs = set xs (slot_of (length xs) low k) v

-- one more, where it fits
unfoldable pub one_more : ℕ → ℕ
one_more x = cond (ltb x 18446744073709551615) (x + 1) x

-- what an effect at a depth makes of the cells and of the depth; 1 is a bracket that is no call's, 2 a call's
unfoldable pub counts_after : ℕ → ℕ → Effect → List ℕ → List ℕ
counts_after low depth (Stay p) xs = xs
counts_after low depth Assigns xs = put low depth (one_more (cell xs low depth)) xs
counts_after low depth Unassigns xs = put low depth (less_one (cell xs low depth)) xs
counts_after low depth OpensBracket xs = put low (one_more depth) 0 xs
counts_after low depth OpensCall xs = put low (one_more depth) 0 xs
counts_after low depth Closes xs = xs
counts_after low depth NextArgument xs = put low depth 0 xs
counts_after low depth (Astray i) xs = xs
counts_after low depth Beyond xs = xs

unfoldable pub brackets_after : ℕ → ℕ → Effect → List ℕ → List ℕ
brackets_after low depth (Stay p) xs = xs
brackets_after low depth Assigns xs = xs
brackets_after low depth Unassigns xs = xs
brackets_after low depth OpensBracket xs = put low depth 1 xs
brackets_after low depth OpensCall xs = put low depth 2 xs
brackets_after low depth Closes xs = xs
brackets_after low depth NextArgument xs = xs
brackets_after low depth (Astray i) xs = xs
brackets_after low depth Beyond xs = xs

unfoldable pub depth_after : Effect → ℕ → ℕ
depth_after (Stay p) depth = depth
depth_after Assigns depth = depth
depth_after Unassigns depth = depth
depth_after OpensBracket depth = one_more depth
depth_after OpensCall depth = one_more depth
depth_after Closes depth = less_one depth
depth_after NextArgument depth = depth
depth_after (Astray i) depth = depth
depth_after Beyond depth = depth

unfoldable pub stops_on : Effect → Bool
stops_on (Stay p) = false
stops_on Assigns = false
stops_on Unassigns = false
stops_on OpensBracket = false
stops_on OpensCall = false
stops_on Closes = false
stops_on NextArgument = false
stops_on (Astray i) = true
stops_on Beyond = true

-- what is kept of the d-th level
abbrev pub note_at : ℕ → ℕ → List ℕ → List ℕ → ℕ → Note
note_at low depth counts brackets d = record {
  depth = depth;
  count = cell counts low d;
  of_call = eqb (cell brackets low d) 2;
  outside = cell counts low d;
}

-- It is right, where n assignments are open within the innermost of the levels ls.
pub record Window (room low depth : ℕ) (counts brackets : List ℕ) (n : ℕ) (ls : List Level) : Type 0 where
  pub deep : depth ≡ length ls
  pub counts-size : length counts ≡ room
  pub brackets-size : length brackets ≡ room
  pub right : (d : ℕ) → low ≤ d → d < low + room → Right d (note_at low depth counts brackets d) n ls

-- the levels that a token may ask for at this depth are kept
pub record Held (room low depth : ℕ) : Type 0 where
  pub reach : low ≤ depth
  pub below : depth < low + room
  pub under : 0 < depth → low < depth

-- what the cells say: 0 no bracket, 1 and 2 as above
unfoldable pub innermost_in : ℕ → ℕ → List ℕ → ℕ
innermost_in low depth brackets =
    cond (eqb depth 0) 0 (cond (eqb (cell brackets low (depth - 1)) 2) 2 1)

-- whether a token of this kind may depend on the levels: a comma after an operand, and an operator after new T()
unfoldable pub asks_level : Phase → ℕ → Bool
asks_level Operand k = false
asks_level Whole k = eqb k 25
asks_level Bare k = eqb k 25 || operator_kind k
asks_level (Named start end) k = eqb k 25
asks_level Called k = false
asks_level Recv1 k = false
asks_level Measure1 k = false
asks_level Measure2 k = false
asks_level Measure3 k = false
asks_level Measure4 k = false
asks_level Measure5 k = false
asks_level New1 k = false
asks_level New2 k = false
asks_level New3 k = false
asks_level New4 k = false
asks_level New5 k = false
asks_level New6 k = false
