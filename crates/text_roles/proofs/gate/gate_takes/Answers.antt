-- `gate_takes` by its tests.
use Rattle.text_roles.proofs.Gates.{no-gate, small-gate, large-gate}
use Rattle.text_roles.proofs.gate.gate_takes.Goals as goal

pub returns-then-g-eq0 : goal.returns-then-g-eq0
returns-then-g-eq0 c = no-gate c.args.g c.args.n c.if-g-eq0.true

pub returns-then-g-le5 : goal.returns-then-g-le5
returns-then-g-le5 c = small-gate c.args.g c.args.n c.if-g-eq0.false c.if-g-le5.true

pub returns : goal.returns
returns c = large-gate c.args.g c.args.n c.if-g-eq0.false c.if-g-le5.false
