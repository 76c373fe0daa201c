-- `put_first_end`: one after the other.
use mathlib.Core.Path.{refl}
use mathlib.Core.List.{[]}
use Rattle.text_emit.specs.Reached.{there}
use Rattle.text_emit.proofs.EmitLaws.{lost, one-stuck}
use Rattle.text_emit.proofs.PutLaws.{first-end}
use Rattle.text_emit.proofs.values.put_first_end.Goals as goal

pub returns-in_err-stored : goal.returns-in_err-stored
returns-in_err-stored c =
    rw c.from_residual.ensures (first-end (there c.args.e) lost lost lost lost _ _ [] [] _ c.args.slot
    c.in_err-stored.ensures (one-stuck _ _ lost lost _ _ refl refl) (one-stuck _ _ lost lost _ _ refl refl) (one-stuck _ _ lost lost _ _ refl refl))

pub returns-in_err-taken : goal.returns-in_err-taken
returns-in_err-taken c =
    rw c.from_residual-in_err-taken.ensures (first-end (there c.args.e) (there c.in_ok-stored.stored) lost lost lost _ _ _ [] _ c.args.slot
    c.in_ok-stored.ensures c.in_err-taken.ensures (one-stuck _ _ lost lost _ _ refl refl) (one-stuck _ _ lost lost _ _ refl refl))

pub returns-in_err-kept : goal.returns-in_err-kept
returns-in_err-kept c =
    rw c.from_residual-in_err-kept.ensures (first-end (there c.args.e) (there c.in_ok-stored.stored) (there c.in_ok-taken.taken) lost lost _ _ _ _ _ c.args.slot
    c.in_ok-stored.ensures c.in_ok-taken.ensures c.in_err-kept.ensures (one-stuck _ _ lost lost _ _ refl refl))

pub returns : goal.returns
returns c = first-end _ _ _ _ _ _ _ _ _ _ _ c.in_ok-stored.ensures c.in_ok-taken.ensures c.in_ok-kept.ensures c.put-4.ensures
