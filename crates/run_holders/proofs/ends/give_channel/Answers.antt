-- `give_channel` gives the two ends, one after the other.
use Prim.Native.Nat.{ℕ}
use mathlib.Core.Path.{◌∙◌, ap}
use mathlib.Core.List.{List}
use Rattle.run_holders.specs.HoldersCode.{end_given, channel_given}
use Rattle.run_holders.proofs.ends.give_channel.Goals as goal

pub returns : goal.returns
unfolding channel_given
returns c =
    c.give_end.ensures
    ∙ ap (λ (u : List (List ℕ)). end_given u c.args.c.0 1 c.args.q.0)
    c.give_end-u.ensures
