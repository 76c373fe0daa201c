-- `instruction_at` reads two words and a mark.
use Prim.Native.Nat.{◌+◌, ◌*◌}
use Rattle.text_judge.specs.RowsCode.{op_in, arg_in}
use Rattle.text_judge.specs.JudgeCode.{instruction_at}
use native.Mathlib.Omega.{arith}
use Rattle.text_judge.proofs.instruction.instruction_at.Goals as goal

pub overflow_cast-op : goal.overflow_cast-op
overflow_cast-op c = omega (arith, c.type_inv.code (2 * c.args.i))

pub overflow_cast-a : goal.overflow_cast-a
overflow_cast-a c =
    let shared-slice-known = c.shared_slice_known-1 in
    let args = c.args in
    omega (arith, shared-slice-known.given (2 * args.i + 1))

pub argument_in-requires : goal.argument_in-requires
argument_in-requires c =
    let shared-slice-known = c.shared_slice_known-1 in
    let args = c.args in
    omega (arith, shared-slice-known.given (2 * args.i + 1))

pub returns : goal.returns
unfolding instruction_at op_in arg_in
returns c = (cc, c.argument_in.ensures.1)
