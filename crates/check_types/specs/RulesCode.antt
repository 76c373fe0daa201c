-- Each op's rule of types, on the pending types or a fault; and `stepped`, which says the same of every op by the
-- table's own rules: operands found, at most eight values, none left where none may be. These definitions follow the
-- code.
use Rattle.std.specs.Prelude.{ℕ, ◌+◌, ◌≤◌, ◌<◌, Bool, cond, ◌&&◌, ◌||◌, not, ◌≡◌, List, [], ◌∷◌, ◌++◌, reverse, length, take, drop, T, eqb, leb}
use Rattle.std.proofs.Math.Option.{Option, none, some}
use Rattle.table.specs.Table.{methods, row, return_of, slot_type, param_types, is_carried, is_channel, is_end, carried_by, end_of_channel}
use Rattle.table.specs.Ops.{op_of}
use Rattle.table.specs.Reading.{is_nil}
use Rattle.table.proofs.Accepted.{Sizes, Row}
use Rattle.check_instructions.specs.OwnersCode.{owner_in}
use Rattle.check_types.specs.PendingCode.{top_of, take_off, put_on, bared}
use Rattle.check_instructions.specs.declared.owner.Owner.{Owner}

-- By the table's rules

-- what stands where a rule gives gs above the rest, or wants other types
unfoldable pub rule_result : Bool → List ℕ → Option (List ℕ) → Option (List ℕ)
rule_result bare rest none = none
rule_result bare rest (some gs) =
    cond (leb (length (gs ++ rest)) 8 && (not bare || is_nil (gs ++ rest))) (some (gs ++ rest)) none

-- n operands off by a rule
unfoldable pub step_of : ℕ → (List ℕ → Option (List ℕ)) → Bool → List ℕ → Option (List ℕ)
step_of n rule bare ts = rule_result bare (drop n ts) (cond (leb n (length ts)) (rule (take n ts)) none)

-- the types after an op of method m with argument a, if it finds its operands, leaves at most eight values and leaves
-- none where it may not
unfoldable pub stepped : List ℕ → ℕ → ℕ → ℕ → List ℕ → Option (List ℕ)
stepped p m op a ts = step_of ((op_of op).takes p m a) ((op_of op).gives p m a) (op_of op).bare ts

-- As the code follows them

-- operands off, the top one first
unfoldable pub take_offs : List ℕ → Option (List ℕ) → Option (List ℕ)
take_offs [] o = o
take_offs (t ∷ ts) o = take_offs ts (take_off t o)

unfoldable pub gated : ℕ → Option (List ℕ) → Option (List ℕ)
gated a o = cond (leb a 5) (take_off 3 o) (take_off 3 (take_off 3 o))

unfoldable pub ended : Option (List ℕ) → Option (List ℕ)
ended o = cond (is_channel (top_of o)) (put_on (end_of_channel (top_of o)) (take_off (top_of o) o)) none

unfoldable pub received : Option (List ℕ) → Option (List ℕ)
received o = cond (is_end (top_of o)) (put_on (carried_by (top_of o)) (take_off (top_of o) o)) none

unfoldable pub sent : Option (List ℕ) → Option (List ℕ)
sent o = cond (is_carried (top_of o)) (bared (take_off (top_of o + 32) (take_off (top_of o) o))) none

-- the arguments of method m off
unfoldable pub passed_to : List ℕ → ℕ → Option (List ℕ) → Option (List ℕ)
passed_to p m o = take_offs (reverse (param_types p m)) o

unfoldable pub called : List ℕ → ℕ → Option (List ℕ) → Option (List ℕ)
called p m o = cond (eqb (return_of p m) 0) (passed_to p m o) (put_on (return_of p m) (passed_to p m o))

unfoldable pub returned_from : ℕ → Option (List ℕ) → Option (List ℕ)
returned_from t o = bared (cond (eqb t 0) o (take_off t o))

-- What the functions may assume

-- every row keeps its rule
abbrev pub Rows : List ℕ → Type 0
Rows p = (m : ℕ) → m < methods p → Row p m

-- `at` is where the row of method m starts
pub record RowAt (p : List ℕ) (m at : ℕ) : Type 0 where
  pub sizes : Sizes p
  pub method : m < methods p
  pub place : at ≡ row p m
  pub kept : Row p m

-- slot a of the owner is used
pub record SlotOf (p : List ℕ) (o : Owner) (a : ℕ) : Type 0 where
  pub sizes : Sizes p
  pub owner : o ≡ owner_in p o.method
  pub method : o.method < methods p
  pub slot : a < 16
  pub used : 1 ≤ slot_type p o.method a
  pub small : slot_type p o.method a < 256

-- an instruction that keeps question 4's rule stands to be read
pub record Ready (p : List ℕ) (count : ℕ) (o : Owner) (op a : ℕ) : Type 0 where
  pub sizes : Sizes p
  pub rows : Rows p
  pub methods-count : count ≡ methods p
  pub owner : o ≡ owner_in p o.method
  pub method : o.method < methods p
  pub argument : T ((op_of op).argument p o.method a)
