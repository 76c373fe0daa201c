-- `is_deciding` goes by the line's kind, as the definition does.
use borrow.Author.Tests.{ne_eqb}
use native.Mathlib.Omega.{arith}
use Rattle.machine.specs.Value.{covers}
use Rattle.trace.specs.Trace.{decides}
use Rattle.trace.proofs.Held.{given_thing-qubit}
use Rattle.trace.proofs.lookup.is_deciding.Goals as goal

pub returns-in-1 : goal.returns-in-1
unfolding decides covers
returns-in-1 c = rw c.in-1.is

pub returns-in-6 : goal.returns-in-6
unfolding decides covers
returns-in-6 c =
    let args = c.args in
    rw (c.in-6.is, given_thing-qubit args.l.b args.l.c args.q)

pub returns-in_default : goal.returns-in_default
unfolding decides covers
returns-in_default c =
    let kind = c.args.l.kind in
    rw (ne_eqb kind 1 (λ e. omega arith), ne_eqb kind 6 (λ e. omega arith))
