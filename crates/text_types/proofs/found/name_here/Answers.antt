-- `name_here`: the next token is a name or not.
use mathlib.Core.Path.{sym, ap, ◌∙◌}
use mathlib.Core.Bool.{Bool, cond}
use lib.Seq.{slice}
use Rattle.text_types.specs.Answer.{declared_number}
use Rattle.text_types.proofs.Finding.{some-number}
use Rattle.text_parse.specs.Grammar.{first}
use Rattle.text_types.specs.FoundCode.{matching}
use Rattle.text_types.proofs.Answers.{found-next, missing-next}
use Rattle.text_types.proofs.found.name_here.Goals as goal

pub returns-then-t-eq-NAME : goal.returns-then-t-eq-NAME
returns-then-t-eq-NAME c =
    let g = c.args in
    let n = c.next_token-t.ensures in
    let x = slice g.start g.end g.text.now in record {
      stands = found-next g.text.now g.from _ n 33 c.if-t-eq-NAME.true;
      finds = ap declared_number c.then_some-found.ensures ∙ some-number c.same_word.result
          ∙ ap (λ (b : Bool). cond b 1 0) c.same_word.ensures ∙ ap (λ ts. matching x (first ts).bytes) (sym n.reads);
    }

pub returns-else-t-eq-NAME : goal.returns-else-t-eq-NAME
returns-else-t-eq-NAME c =
    let g = c.args in
    let n = c.next_token-t.ensures in
    let x = slice g.start g.end g.text.now in record {
      stands = missing-next g.text.now g.from _ n 33 c.if-t-eq-NAME.false;
      finds = ap declared_number c.then_some-found.ensures ∙ some-number c.same_word.result
          ∙ ap (λ (b : Bool). cond b 1 0) c.same_word.ensures ∙ ap (λ ts. matching x (first ts).bytes) (sym n.reads);
    }
