-- Question 5 of document 01: "Read from first to last with types alone, does each method find every operand of its
-- type, hold at most 8 pending values, hold none after DROP, CLEAR, RET, FORK, SEND, JUMP and JFALSE, none before a
-- jump's target, and close on RET or JUMP?"
--
-- The types pending before each instruction are a function of its place alone, because every method is read from its
-- first instruction to its last and starts with nothing pending. That the machine's pending values have just these
-- types is the invariant of its soundness proof (crate machine, proofs/Typing.antt).
use Rattle.std.specs.Prelude.{ℕ, zero, suc, ◌+◌, Bool, true, false, cond, ◌&&◌, ◌||◌, not, List, [], ◌∷◌, ◌++◌, length, take, drop, eqb, leb}
use Rattle.std.proofs.Math.Option.{Option, none, some, get_or}
use Rattle.lists.specs.Lists.{any, below}
use Rattle.table.specs.Table.{instructions, offset_of, end_of, op_at, arg_at, owner_of}
use Rattle.table.specs.Ops.{Op, op_of}

-- the op that instruction i names
abbrev pub op_there : List ℕ → ℕ → Op
op_there p i = op_of (op_at p i)

-- how many values instruction i takes
unfoldable pub taken_at : List ℕ → ℕ → ℕ
taken_at p i = (op_there p i).takes p (owner_of p i) (arg_at p i)

-- the types that stand above those left, once instruction i has taken its operands off ts; none where an operand is
-- missing or of another type
unfoldable pub given_at : List ℕ → ℕ → List ℕ → Option (List ℕ)
given_at p i ts =
    cond (leb (taken_at p i) (length ts)) ((op_there p i).gives p (owner_of p i) (arg_at p i) (take (taken_at p i) ts)) none

-- the types pending after instruction i, where ts were pending before it
unfoldable pub after : List ℕ → ℕ → List ℕ → List ℕ
after p i ts = get_or (given_at p i ts) [] ++ drop (taken_at p i) ts

-- instruction i is the first, or the last, of its method
unfoldable pub opens : List ℕ → ℕ → Bool
opens p i = eqb i (offset_of p (owner_of p i))

unfoldable pub is_last : List ℕ → ℕ → Bool
is_last p i = eqb (suc i) (end_of p (owner_of p i))

-- the types pending before instruction i, from the top down
unfoldable pub before : List ℕ → ℕ → List ℕ
before p zero = []
before p (suc i) = let ts = before p i in cond (opens p (suc i)) [] (after p i ts)

-- instruction j jumps to instruction i; a target is counted from the method's start
unfoldable pub jumps_to : List ℕ → ℕ → ℕ → Bool
jumps_to p i j = (op_there p j).jumps && eqb (offset_of p (owner_of p j) + arg_at p j) i

-- some jump, of the same method wherever question 4 is passed, has instruction i as its target
unfoldable pub is_target : List ℕ → ℕ → Bool
is_target p i = any (jumps_to p i) (below (instructions p))

abbrev pub is_none : Option (List ℕ) → Bool
is_none none = true
is_none (some ts) = false

abbrev pub is_nil : List ℕ → Bool
is_nil [] = true
is_nil (t ∷ ts) = false

-- instruction i keeps the rules of question 5
unfoldable pub reads : List ℕ → ℕ → Bool
reads p i =
    not (is_none (given_at p i (before p i)))
    && (leb (length (after p i (before p i))) 8
    && ((not (op_there p i).bare || is_nil (after p i (before p i)))
    && ((not (is_target p i) || is_nil (before p i))
    && (not (is_last p i) || (op_there p i).closes))))
