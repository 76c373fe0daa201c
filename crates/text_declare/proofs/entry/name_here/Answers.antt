-- `name_here`: the next token is a name or not.
use mathlib.Core.Path.{ap}
use Rattle.lists.proofs.Tests.{never}
use Rattle.text_parse.specs.Grammar.{first}
use Rattle.text_types.proofs.Answers.{found-next, missing-next}
use Rattle.text_declare.proofs.entry.name_here.Goals as goal

pub returns-then-t-eq-NAME : goal.returns-then-t-eq-NAME
returns-then-t-eq-NAME c =
    let g = c.args in
    let n = c.next_token-t.ensures in record {
      stands = found-next g.text.now g.from _ n 33 c.if-t-eq-NAME.true;
      spelt = λ o. ap (λ ts. (first ts).bytes) n.reads;
    }

pub returns-else-t-eq-NAME : goal.returns-else-t-eq-NAME
returns-else-t-eq-NAME c =
    let g = c.args in record {
      stands = missing-next g.text.now g.from _ c.next_token-t.ensures 33 c.if-t-eq-NAME.false;
      spelt = λ o. never o;
    }
