-- What INT, BOOL, CLEAR, GET, PUT, DROP, END and the jumps do to the words of a process's part. These definitions
-- follow the code; that they are document 01's ops is proved in run_ops.
use Rattle.std.specs.Prelude.{ℕ, ◌+◌, cond, List, eqb, ltb}
use Rattle.table.specs.Table.{offset_of}
use Rattle.run_store.specs.declared.head.Head.{Head}
use Rattle.run_store.specs.StoreCode.{value_at, put_top, slot_at, top_at, moved_to}
use Rattle.run_values.specs.ValuesCode.{AfterStep, after_step, empty_val, int_val, bool_val, unless_empty, push_on, on_top, drop_top, drop_to, in_slot}
use Rattle.run_values.specs.declared.steps.StepResult.TheVariants.{WentOn}

-- values moved

unfoldable pub sign_extended : ℕ → ℕ
sign_extended a = cond (ltb a 32768) a (a + 4294901760)

unfoldable pub int_op : List ℕ → Head → ℕ → AfterStep
int_op w h a = after_step WentOn (push_on w h (int_val (sign_extended a)))

unfoldable pub bool_op : List ℕ → Head → ℕ → AfterStep
bool_op w h a = after_step WentOn (push_on w h (bool_val a))

unfoldable pub clear_op : List ℕ → Head → ℕ → AfterStep
clear_op w h a = after_step WentOn (in_slot w h a empty_val)

unfoldable pub get_op : List ℕ → Head → ℕ → AfterStep
get_op w h a = unless_empty (value_at w (slot_at h a)) w (after_step WentOn (push_on w h (value_at w (slot_at h a))))

unfoldable pub put_op : List ℕ → Head → ℕ → AfterStep
put_op w h a = unless_empty (value_at w (top_at h 1)) w (after_step WentOn (in_slot w h a (value_at w (top_at h 1))))

unfoldable pub drop_op : List ℕ → Head → AfterStep
drop_op w h = unless_empty (value_at w (top_at h 1)) w (after_step WentOn (drop_top w h))

unfoldable pub end_op : List ℕ → Head → ℕ → AfterStep
end_op w h a =
    unless_empty (value_at w (top_at h 1)) w
    (after_step WentOn (on_top w h (record { tag = 5 + a; number = (value_at w (top_at h 1)).number })))

-- jumps

unfoldable pub target_of : List ℕ → Head → ℕ → ℕ
target_of p h a = offset_of p h.method + a

unfoldable pub jump_op : List ℕ → List ℕ → Head → ℕ → AfterStep
jump_op p w h a = after_step WentOn (put_top w (moved_to h (target_of p h a)))

unfoldable pub jfalse_op : List ℕ → List ℕ → Head → ℕ → AfterStep
jfalse_op p w h a =
    unless_empty (value_at w (top_at h 1)) w
    (cond (eqb (value_at w (top_at h 1)).number 0)
    (after_step WentOn (drop_to w h (target_of p h a)))
    (after_step WentOn (drop_top w h)))
