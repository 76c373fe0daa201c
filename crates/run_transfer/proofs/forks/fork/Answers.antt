-- `fork` begins the child, hands the arguments over, takes them off and gives the things away, in this order.
use Rattle.run_transfer.specs.TransferCode.{args_given, args_handed, began_at, forked_words, arguments_popped_at}
use mathlib.Core.Path.{◌∙◌, ap}
use mathlib.Core.List.{List}
use Prim.Native.Nat.{ℕ}
use Rattle.run_transfer.proofs.forks.fork.Goals as goal

pub returns : goal.returns
unfolding forked_words began_at arguments_popped_at
returns c =
    let args = c.args in
    c.give_args.ensures
    ∙ ap (λ (l : List ℕ). args_given l args.n.0 args.child.0 args.args)
    (c.pop_arguments_at.ensures
    ∙ ap (λ (l : List ℕ). arguments_popped_at l args.n.0 args.args)
    (c.hand_args.ensures
    ∙ ap (λ (l : List ℕ). args_handed l args.n.0 args.child.0 args.args args.args)
    (c.begin_at.ensures
    ∙ ap (λ (l : List ℕ). began_at args.p.now l args.child.0 args.m) c.put.ensures)))
