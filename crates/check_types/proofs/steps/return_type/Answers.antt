-- `return_type` reads the first word of the row.
use Rattle.check_types.proofs.Rules.{return-word}
use Rattle.check_types.proofs.steps.return_type.Goals as goal

pub returns : goal.returns
returns c =
    let pre = c.requires in
    return-word _ _ _ pre c.word_at.ensures.0
