-- `lacks` looks through the values from the top down.
use Prim.Native.Nat.{ℕ}
use mathlib.Core.Path.{◌∙◌, ap}
use Rattle.run_store.specs.declared.head.Head.{Head}
use Rattle.run_store.specs.StoreCode.{top_at, empty_down}
use Rattle.run_ability.specs.ReadsCode.{empty_in}
use Rattle.run_ability.proofs.reads.lacks.Goals as goal

pub returns : goal.returns
unfolding empty_in
returns c =
    let args = c.args in
    c.any_empty.ensures
    ∙ ap (λ (i : ℕ). empty_down args.w.now i args.args)
    (c.top.ensures ∙ ap (λ (h : Head). top_at h 1) c.read_head-h.ensures)
