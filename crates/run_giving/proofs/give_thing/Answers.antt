-- `give_thing` looks through all frames.
use Prim.Native.Nat.{◌*◌, ◌%◌}
use mathlib.Core.Path.{◌∙◌, ap}
use Rattle.run_store.specs.declared.head.Head.{Head}
use Rattle.run_store.specs.StoreCode.{emptied_by}
use Rattle.run_giving.specs.GivingCode.{thing_given}
use Rattle.run_giving.proofs.give_thing.Goals as goal

pub returns : goal.returns
unfolding thing_given
returns c =
    let args = c.args in
    c.give_away.ensures
    ∙ ap (λ (h : Head). emptied_by args.w.now args.v ((24 * h.frames) % 65536))
    c.read_head-h.ensures
