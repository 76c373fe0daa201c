-- `pass` takes the arguments off, the last one first: the first `s` are still to be taken.
use mathlib.Core.Path.{◌≡◌}
use mathlib.Core.List.{reverse}
use mathlib.Core.Option.{some}
use lib.ListN.{take}
use Rattle.table.specs.Table.{slot_types}
use Rattle.check_types.specs.PendingCode.{types_of}
use Rattle.check_types.specs.RulesCode.{take_offs, passed_to}
use Rattle.check_types.proofs.steps.pass.Given as goal

abbrev pub invariant-loop-s : goal.invariant-loop-s
invariant-loop-s l =
    take_offs (reverse (take l.s (slot_types l.p l.m))) (some (types_of l.rest))
    ≡ passed_to l.p l.m (some (types_of l.initial.rest))
