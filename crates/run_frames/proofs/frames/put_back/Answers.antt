-- `put_back` writes two words.
use mathlib.Core.Path.{refl}
use native.Mathlib.Omega.{arith}
use lib.ListN.{length-set}
use Prim.Native.Nat.{◌+◌, ◌*◌}
use Rattle.run_store.specs.StoreCode.{put_top, head_at}
use Rattle.run_frames.proofs.frames.put_back.Goals as goal

pub bounds-w-at-2 : goal.bounds-w-at-2
bounds-w-at-2 c =
    omega (
      arith,
      c.requires,
      length-set c.args.w.now (4 + 4 *
          c.args.h.frames + 1) c.args.h.place,
    )

pub returns : goal.returns
unfolding put_top head_at
returns c = refl
