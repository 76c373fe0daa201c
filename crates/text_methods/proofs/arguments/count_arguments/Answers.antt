-- `count_arguments`: none before the closing bracket, and else as many as are counted.
use Rattle.text_methods.proofs.Counted.{no_arguments, some-arguments}
use Rattle.text_methods.proofs.arguments.count_arguments.Goals as goal

pub returns-then-kind-eq-CLOSE : goal.returns-then-kind-eq-CLOSE
returns-then-kind-eq-CLOSE c = no_arguments c.args.text.now c.args.from _ c.next_kind-kind.ensures c.if-kind-eq-CLOSE.true

pub returns : goal.returns
returns c =
    some-arguments c.args.text.now c.args.from _ c.next_kind-kind.ensures c.if-kind-eq-CLOSE.false
    c.count_from.ensures
