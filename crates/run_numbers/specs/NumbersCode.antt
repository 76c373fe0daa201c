-- What ADD, SUB, EQ, LESS and NOT do to the words of a process's part. These definitions follow the code; that they are
-- document 01's ops is proved in proofs/ here and in run_ops.
use Rattle.std.specs.Prelude.{Option, None, Some, ℕ, ◌+◌, ◌-◌, ◌%◌, Bool, true, false, cond, List, eqb, leb, ltb}
use Rattle.run_store.specs.declared.head.Head.{Head}
use Rattle.run_store.specs.StoreCode.{value_at, top_at}
use Rattle.run_values.specs.ValuesCode.{AfterStep, after_step, int_val, bool_val, unless_empty, on_top, over_two, empty_two}
use Rattle.run_values.specs.declared.steps.StepResult.TheVariants.{WentOn, Empty, OutOfRange}

-- the int of a word, moved up by 2 ^ 31 so that it is not negative
unfoldable pub biased : ℕ → ℕ
biased x = (x + 2147483648) % 4294967296

-- the result whose number, moved up by 2 ^ 32, is s; fault 26 where it is out of range
unfoldable pub result_op : List ℕ → Head → ℕ → AfterStep
result_op w h s =
    cond (ltb s 2147483648) (after_step OutOfRange w)
    (cond (leb 6442450944 s) (after_step OutOfRange w) (after_step WentOn (over_two w h (int_val (s % 4294967296)))))

-- the numbers of two operands, the deeper first; none where one is emptied
unfoldable pub two_numbers : List ℕ → Head → Option (ℕ × ℕ)
two_numbers w h =
    cond (empty_two w h) None (Some ((value_at w (top_at h 2)).number, (value_at w (top_at h 1)).number))

-- two operands by their numbers, the deeper first; fault 20 where one is emptied
unfoldable pub two_op : List ℕ → Head → (ℕ → ℕ → AfterStep) → AfterStep
two_op w h k =
    cond (empty_two w h) (after_step Empty w) (k (value_at w (top_at h 2)).number (value_at w (top_at h 1)).number)

unfoldable pub add_op : List ℕ → Head → AfterStep
add_op w h = two_op w h (λ x y. result_op w h (biased x + biased y))

unfoldable pub sub_op : List ℕ → Head → AfterStep
sub_op w h = two_op w h (λ x y. result_op w h (biased x + 4294967296 - biased y))

abbrev pub bit : Bool → ℕ
bit true = 1
bit false = 0

unfoldable pub eq_op : List ℕ → Head → AfterStep
eq_op w h = two_op w h (λ x y. after_step WentOn (over_two w h (bool_val (bit (eqb x y)))))

unfoldable pub less_op : List ℕ → Head → AfterStep
less_op w h = two_op w h (λ x y. after_step WentOn (over_two w h (bool_val (bit (ltb (biased x) (biased y))))))

unfoldable pub not_op : List ℕ → Head → AfterStep
not_op w h =
    unless_empty (value_at w (top_at h 1)) w
    (after_step WentOn (on_top w h (bool_val (bit (eqb (value_at w (top_at h 1)).number 0)))))
