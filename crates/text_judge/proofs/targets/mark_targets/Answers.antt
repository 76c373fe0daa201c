-- `mark_targets` marks the targets of the first `i` instructions.
use Prim.Native.Nat.{◌+◌, ◌*◌}
use mathlib.Core.Path.{ap, ◌∙◌}
use lib.ListN.{length}
use Rattle.text_judge.specs.RowsCode.{op_in, arg_in}
use Rattle.text_judge.proofs.Marking.{marked-none, marked_more, marked-long, marked-ends}
use native.Mathlib.Omega.{arith}
use Rattle.text_judge.proofs.targets.mark_targets.Goals as goal

pub loop-i-init : goal.loop-i-init
loop-i-init c = marked-none _ _

pub overflow_cast-code : goal.overflow_cast-code
overflow_cast-code c =
    let loop = c.loop-i in
    let shared-slice-known = c.shared_slice_known-1 in
    omega (arith, shared-slice-known.given (2 * loop.i))

pub overflow_cast-code-in-loop-i : goal.overflow_cast-code-in-loop-i
overflow_cast-code-in-loop-i c =
    let loop = c.loop-i in
    let shared-slice-known = c.shared_slice_known-1 in
    omega (arith, shared-slice-known.given (2 * loop.i + 1))

pub loop-i-preserved : goal.loop-i-preserved
unfolding op_in arg_in
loop-i-preserved c =
    let mark-jump = c.mark_jump in
    let loop = c.loop-i in
    mark-jump.ensures ∙ marked_more _ _ _ _ loop.invariant

pub shape_of-targets : goal.shape_of-targets
shape_of-targets c = ap length c.loop-i.invariant ∙ marked-long _ _ _

pub returns : goal.returns
returns c = marked-ends _ _ _ _ _ c.loop-i.invariant (omega arith) c.loop-i-test.false
