-- `number_in`, case by case.
use Rattle.text_put.proofs.WordLaws.{number-main, number-earlier, number-later}
use Rattle.text_put.proofs.order.number_in.Goals as goal

pub returns-then-i-main : goal.returns-then-i-main
returns-then-i-main c = number-main c.args.main c.args.i c.if-i-main.true

pub returns-then-i-main-2 : goal.returns-then-i-main-2
returns-then-i-main-2 c =
    let args = c.args in
    number-earlier args.main args.i c.if-i-main.false c.if-i-main-2.true

pub returns : goal.returns
returns c =
    let args = c.args in
    number-later args.main args.i c.if-i-main.false c.if-i-main-2.false
