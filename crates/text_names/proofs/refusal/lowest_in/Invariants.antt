-- `lowest_in`: before each token the pass finds the same lowest fault.
use Prim.Native.Nat.{◌-◌}
use lib.ListN.{length}
use Rattle.text_open.specs.ClassCode.{in_class}
use Rattle.text_names.specs.Answer.{fault_in}
use Rattle.text_names.proofs.Scanning.{ScanSoFar}
use Rattle.text_names.proofs.refusal.lowest_in.Given as goal

abbrev pub invariant-loop-kind : goal.invariant-loop-kind
invariant-loop-kind l = ScanSoFar (in_class l.all l.class) l.all l.text l.words l.mode l.braces l.from l.index l.n (fault_in l.low) l.t l.kind

abbrev pub decreases-loop-kind : goal.decreases-loop-kind
decreases-loop-kind l = length l.text - l.t.start
