-- "every process made has finished or stopped, end 1; none able to move .., end 2; schedule used up, end 0; the lines of
-- this entry exceed what the trace still holds, end 3": the number of each end that the code answers.
use Rattle.std.specs.Prelude.{ℕ}
use Rattle.run_ability.specs.declared.ends.End.{End}
use Rattle.run_ability.specs.declared.ends.End.TheVariants.{ScheduleUsed, AllOver, NoneAble, TraceFull}

unfoldable pub end_number : End → ℕ
end_number ScheduleUsed = 0
end_number AllOver = 1
end_number NoneAble = 2
end_number TraceFull = 3
