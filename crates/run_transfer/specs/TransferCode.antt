-- What a meeting and a FORK leave in the words of the store, in the parts of two processes. These definitions follow
-- the code; that they are document 01's is proved in proofs/.
use Rattle.std.specs.Prelude.{ℕ, zero, suc, ◌+◌, ◌*◌, ◌-◌, List, set}
use Rattle.run_store.specs.declared.values.Val.{Val}
use Rattle.run_store.specs.StoreCode.{value_at, put_value, head_of, top_at}
use Rattle.run_parts.specs.PartsCode.{part_of, with_part}
use Rattle.run_giving.specs.GivingCode.{given_words, sent_words, received_words, began_words, arguments_popped}

unfoldable pub met_words : List ℕ → ℕ → ℕ → Val → List ℕ
met_words work sender receiver v =
    let u = with_part work sender (sent_words (part_of work sender) v) in
    with_part u receiver (received_words (part_of u receiver) v)

unfoldable pub operand_of : List ℕ → ℕ → ℕ → Val
operand_of work n d = value_at (part_of work n) (top_at (head_of (part_of work n)) d)

-- argument j of n handed to the child
unfoldable pub arg_handed : List ℕ → ℕ → ℕ → ℕ → ℕ → List ℕ
arg_handed work n child args j =
    with_part work child (put_value (part_of work child) (64 + 2 * j) (operand_of work n (args - j)))

unfoldable pub args_handed : List ℕ → ℕ → ℕ → ℕ → ℕ → List ℕ
args_handed work n child args zero = work
args_handed work n child args (suc j) = arg_handed (args_handed work n child args j) n child args j

-- what the child has in slot j given away by its parent
unfoldable pub arg_given : List ℕ → ℕ → ℕ → ℕ → List ℕ
arg_given work n child j = with_part work n (given_words (part_of work n) (value_at (part_of work child) (64 + 2 * j)))

unfoldable pub args_given : List ℕ → ℕ → ℕ → ℕ → List ℕ
args_given work n child zero = work
args_given work n child (suc j) = arg_given (args_given work n child j) n child j

unfoldable pub began_at : List ℕ → List ℕ → ℕ → ℕ → List ℕ
began_at p work child m = with_part work child (began_words p (part_of work child) m)

unfoldable pub arguments_popped_at : List ℕ → ℕ → ℕ → List ℕ
arguments_popped_at work n args = with_part work n (arguments_popped (part_of work n) args)

unfoldable pub forked_words : List ℕ → List ℕ → ℕ → ℕ → ℕ → ℕ → List ℕ
forked_words p work n child m args =
    args_given (arguments_popped_at (args_handed (began_at p (set work 0 (child + 1)) child m) n child args args) n args) n
    child args
