-- `lowest_by_classes`: the lowest fault of the classes that are passed.
use mathlib.Core.Path.{◌≡◌}
use lib.ListN.{length}
use Rattle.text_open.specs.ClassCode.{in_past}
use Rattle.text_names.specs.Answer.{fault_in}
use Rattle.text_names.specs.FaultCode.{lowest_in}
use Rattle.text_names.proofs.refusal.lowest_by_classes.Given as goal

abbrev pub invariant-loop-class : goal.invariant-loop-class
invariant-loop-class l = (length l.words ≡ 3072) × (fault_in l.low ≡ lowest_in (in_past l.class) l.methods.text.now)
