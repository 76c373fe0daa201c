-- `store_channel` stores both ends.
use mathlib.Core.Path.{◌∙◌, ap}
use mathlib.Core.List.{List}
use Prim.Native.Nat.{ℕ}
use Rattle.run_holders.specs.StoredCode.{end_stored, channel_stored}
use Rattle.run_holders.proofs.stored.store_channel.Goals as goal

pub returns : goal.returns
unfolding channel_stored
returns c =
    let args = c.args in
    c.store_end-2.ensures
    ∙ ap (λ (w : List ℕ). end_stored 8192 w args.c.0 1 args.q.0) c.store_end.ensures
