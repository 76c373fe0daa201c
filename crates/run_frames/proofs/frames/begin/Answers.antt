-- `begin` writes method and first instruction of the new frame, and the number of frames.
use mathlib.Core.Path.{refl}
use native.Mathlib.Omega.{arith}
use lib.ListN.{length-set}
use Prim.Native.Nat.{◌+◌, ◌*◌}
use Rattle.table.specs.Table.{offset_of, word}
use Rattle.run_store.specs.StoreCode.{head_at}
use Rattle.run_ops.specs.OpsCode.{begun}
use Rattle.run_frames.proofs.Rows.{pair-there}
use Rattle.run_frames.proofs.frames.begin.Goals as goal

pub bounds-p-m : goal.bounds-p-m
bounds-p-m c = omega (arith, pair-there c.requires.0 c.requires.1)

pub overflow_cast-w-3 : goal.overflow_cast-w-3
overflow_cast-w-3 c = omega (arith, c.type_inv.p (2 + 2 * c.args.m))

pub bounds-w-at-2 : goal.bounds-w-at-2
bounds-w-at-2 c =
    omega (
      arith,
      c.requires.2,
      c.requires.3,
      length-set c.args.w.now (4 + 4 *
          c.args.n) c.args.m,
    )

pub returns : goal.returns
unfolding begun head_at offset_of word
returns c = refl
