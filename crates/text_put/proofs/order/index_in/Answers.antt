-- `index_in`, case by case.
use Rattle.text_put.proofs.WordLaws.{index-main, index-earlier, index-later}
use Rattle.text_put.proofs.order.index_in.Goals as goal

pub returns-then-k-eq0 : goal.returns-then-k-eq0
returns-then-k-eq0 c = index-main c.args.main c.args.k c.if-k-eq0.true

pub returns-then-k-main : goal.returns-then-k-main
returns-then-k-main c =
    let args = c.args in
    index-earlier args.main args.k c.if-k-eq0.false c.if-k-main.true

pub returns : goal.returns
returns c =
    let args = c.args in
    index-later args.main args.k c.if-k-eq0.false c.if-k-main.false
