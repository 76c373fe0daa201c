-- What a process stands at, read from its words. These definitions follow the code; that they are document 01's is
-- proved in proofs/.
use Rattle.std.specs.Prelude.{ℕ, Bool, true, false, cond, not, ◌&&◌, ◌||◌, List, eqb}
use Rattle.table.specs.Table.{op_at}
use Rattle.run_store.specs.declared.head.Head.{Head}
use Rattle.run_store.specs.declared.values.Val.{Val}
use Rattle.run_store.specs.StoreCode.{value_at, head_of, top_at}
use Rattle.run_values.specs.ValuesCode.{empty_val, empty_two, is_send}
use Rattle.run_values.specs.declared.steps.StepResult.{StepResult}
use Rattle.run_parts.specs.declared.readiness.Readiness.{Readiness}
use Rattle.run_parts.specs.declared.readiness.Readiness.TheVariants.{Idle, Moves, Sends, Receives}

-- the process is over or not made
unfoldable pub over_kind : Readiness → Bool
over_kind Idle = true
over_kind Moves = false
over_kind (Sends e v) = false
over_kind (Receives e) = false

-- the end of an offer; the empty value where nothing is offered
unfoldable pub end_offered : Readiness → Val
end_offered Idle = empty_val
end_offered Moves = empty_val
end_offered (Sends e v) = e
end_offered (Receives e) = e

unfoldable pub send_of : List ℕ → Head → Readiness
send_of w h =
    cond (empty_two w h) Moves
    (Sends (value_at w (top_at h 2)) (value_at w (top_at h 1)))

unfoldable pub receive_of : List ℕ → Head → Readiness
receive_of w h = cond (eqb (value_at w (top_at h 1)).tag 0) Moves (Receives (value_at w (top_at h 1)))

unfoldable pub readiness_op : List ℕ → List ℕ → Readiness
readiness_op p w =
    cond (eqb (head_of w).status 1)
    (cond (eqb (op_at p (head_of w).place) 15) (send_of w (head_of w))
    (cond (eqb (op_at p (head_of w).place) 16) (receive_of w (head_of w)) Moves))
    Idle

-- the same where its step answered that it stands at SEND or RECV
unfoldable pub offer_of : List ℕ → StepResult → Readiness
offer_of w step = cond (is_send step) (send_of w (head_of w)) (receive_of w (head_of w))

-- it runs and stands at neither SEND nor RECV
unfoldable pub offers_nothing : List ℕ → List ℕ → Bool
offers_nothing p w =
    cond (eqb (head_of w).status 1) (not (eqb (op_at p (head_of w).place) 15) && not (eqb (op_at p (head_of w).place) 16))
    false

-- one is x and the other y
unfoldable pub either_way : ℕ → ℕ → ℕ → ℕ → Bool
either_way a b x y = eqb a x && eqb b y || eqb a y && eqb b x

-- the two ends of one channel
unfoldable pub of_one_channel : Val → Val → Bool
of_one_channel e f = either_way e.tag f.tag 5 6 && eqb e.number f.number

-- one offers to send and the other to receive, on the two ends of one channel
unfoldable pub meets_op : Readiness → Readiness → Bool
meets_op Idle b = false
meets_op Moves b = false
meets_op (Sends e v) Idle = false
meets_op (Sends e v) Moves = false
meets_op (Sends e v) (Sends f u) = false
meets_op (Sends e v) (Receives f) = of_one_channel e f
meets_op (Receives e) Idle = false
meets_op (Receives e) Moves = false
meets_op (Receives e) (Sends f u) = of_one_channel e f
meets_op (Receives e) (Receives f) = false
