-- `sum_kept` looks at the end of the last method.
use Rattle.check_shape.proofs.Starts.{start-of}
use Rattle.check_shape.proofs.pairs.sum_kept.Goals as goal

pub returns : goal.returns
returns c =
    let args = c.args in
    let pre = c.requires in
    rw (start-of args.p.now args.count pre.0) (cc)
