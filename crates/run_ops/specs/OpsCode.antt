-- What the functions of the ops do to the words of a process's part. These definitions follow the code; that they are
-- document 01's ops is proved in proofs/.
use Rattle.std.specs.Prelude.{ℕ, ◌+◌, ◌*◌, ◌%◌, cond, List, [], ◌∷◌, get_or, set, eqb, leb}
use Rattle.table.specs.Table.{offset_of, return_of, params_of, op_at, arg_at}
use Rattle.run_store.specs.declared.values.Val.{Val}
use Rattle.run_store.specs.declared.head.Head.{Head}
use Rattle.run_store.specs.StoreCode.{value_at, put_value, head_at, head_of, put_top, top_at, stepped, pushed, less_by, empty_down, moved_down, cleared_from}
use Rattle.run_values.specs.ValuesCode.{AfterStep, after_step, unless_empty}
use Rattle.run_moves.specs.MovesCode.{get_op, put_op, drop_op, end_op, jump_op, jfalse_op, int_op, bool_op, clear_op}
use Rattle.run_numbers.specs.NumbersCode.{add_op, sub_op, eq_op, less_op, not_op}
use Rattle.run_values.specs.declared.steps.StepResult.TheVariants.{WentOn, NotRunning, AtNewQ, AtNewC, AtGate, AtMeas, AtLastRet, AtFork, AtSend, AtRecv, Empty, FrameBeyond8}
use Rattle.run_values.specs.declared.steps.StepResult.{StepResult}

-- calls

-- where the values of frame number n, counted from 1, stand
unfoldable pub frame_at : ℕ → ℕ
frame_at n = 16 + 48 * n

-- frame number n begins in method m; the count of frames says so last
unfoldable pub begun : List ℕ → List ℕ → ℕ → ℕ → List ℕ
begun p w n m = set (set (set w (head_at n) m) (head_at n + 1) (offset_of p m)) 2 n

-- a frame opened for method m, with the n arguments moved into its slots
unfoldable pub opened : List ℕ → List ℕ → Head → ℕ → ℕ → List ℕ
opened p w h m n =
    begun p
    (put_top (moved_down w (top_at h 1) (frame_at (h.frames + 1)) n n) (stepped (less_by h n)))
    (h.frames + 1)
    m

unfoldable pub call_op : List ℕ → List ℕ → Head → ℕ → AfterStep
call_op p w h a =
    cond (empty_down w (top_at h 1) (params_of p a)) (after_step Empty w)
    (cond (leb 8 h.frames) (after_step FrameBeyond8 w) (after_step WentOn (opened p w h a (params_of p a))))

-- the top frame closed
unfoldable pub closed : List ℕ → Head → List ℕ
closed w h =
    set (cleared_from (cleared_from w (frame_at h.frames) 48) (head_at h.frames) 3) 2
    ((h.frames + 4294967295) % 4294967296)

-- a value handed to the frame that then is at work
unfoldable pub handed : List ℕ → Val → List ℕ
handed w v = put_top (put_value w (top_at (head_of w) 0) v) (pushed (head_of w))

-- a return of the root frame is left to the run
unfoldable pub ret_op : List ℕ → List ℕ → Head → AfterStep
ret_op p w h =
    cond (eqb (return_of p h.method) 0)
    (cond (eqb h.frames 1) (after_step AtLastRet w) (after_step WentOn (closed w h)))
    (unless_empty (value_at w (top_at h 1)) w
    (cond (eqb h.frames 1) (after_step AtLastRet w) (after_step WentOn (handed (closed w h) (value_at w (top_at h 1))))))

-- all ops

-- a function of each op by its number: what it does, with the table, the words, the head and the argument. An op that
-- does more than change its own process, or that writes a line, is left to its caller.
-- A number that is no op is answered as a process that does not run.
abbrev OpFunction : Type 0
OpFunction = List ℕ → List ℕ → Head → ℕ → AfterStep

abbrev left_to_run : StepResult → OpFunction
left_to_run r p w h a = after_step r w

unfoldable pub no_op : OpFunction
no_op p w h a = after_step NotRunning w

unfoldable pub op_functions : List OpFunction
op_functions =
    no_op
    ∷ (λ p w h a. int_op w h a) ∷ (λ p w h a. bool_op w h a)
    ∷ (λ p w h a. get_op w h a) ∷ (λ p w h a. put_op w h a) ∷ (λ p w h a. drop_op w h) ∷ (λ p w h a. clear_op w h a)
    ∷ left_to_run AtNewQ ∷ left_to_run AtNewC ∷ (λ p w h a. end_op w h a) ∷ left_to_run AtGate ∷ left_to_run AtMeas
    ∷ call_op ∷ (λ p w h a. ret_op p w h) ∷ left_to_run AtFork ∷ left_to_run AtSend ∷ left_to_run AtRecv
    ∷ jump_op ∷ jfalse_op
    ∷ (λ p w h a. add_op w h) ∷ (λ p w h a. sub_op w h) ∷ (λ p w h a. eq_op w h) ∷ (λ p w h a. less_op w h) ∷
    (λ p w h a. not_op w h)
    ∷ []

unfoldable pub act_op : List ℕ → List ℕ → Head → ℕ → ℕ → AfterStep
act_op p w h op a = get_or op_functions op no_op p w h a

-- one step of a process whose part is w
unfoldable pub step_op : List ℕ → List ℕ → AfterStep
step_op p w =
    cond (eqb (head_of w).status 1) (act_op p w (head_of w) (op_at p (head_of w).place) (arg_at p (head_of w).place))
    (after_step NotRunning w)
