-- `qubit_holder` hands on k, or the number of lines where that is less.
use mathlib.Core.Path.{◌∙◌}
use native.Mathlib.Omega.{arith}
use Rattle.trace.proofs.Held.{look_up-held, held-all, count_read-all}
use Rattle.trace.proofs.lookup.qubit_holder.Goals as goal

pub returns-then-k-n : goal.returns-then-k-n
returns-then-k-n c =
    let args = c.args in
    let held = c.holder_back.ensures in
    (held.0, look_up-held args.trace.now args.k args.qubit held.0, held.1)

pub returns : goal.returns
returns c =
    let args = c.args in
    let n = c.line_count-n.result in
    let held =
    c.holder_back-2.ensures.0
    ∙ held-all args.trace.now n args.k args.qubit (omega arith) (omega arith) in (
      held,
      look_up-held args.trace.now args.k args.qubit held,
      c.holder_back-2.ensures.1
          ∙ count_read-all args.trace.now n args.k args.qubit (omega arith) (omega arith),
    )
