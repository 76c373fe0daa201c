-- `with_idle` keeps the marks only where they count.
use Rattle.run_burst.proofs.Knowing.{marks-on, marks-anew}
use Rattle.run_burst.proofs.knowledge.Knowledge.with_idle.Goals as goal

pub returns-then-self : goal.returns-then-self
returns-then-self c =
    let args = c.args in
    marks-on args.self args.n c.if-self.true c.mark-idle.ensures

pub returns : goal.returns
returns c = marks-anew c.args.self c.args.n c.if-self.false c.mark-idle-2.ensures
