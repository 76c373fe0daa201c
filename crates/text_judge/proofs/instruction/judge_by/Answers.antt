-- `judge_by` builds the table, unless the callee has more parameters than can be pending.
use Rattle.text_judge.proofs.Judging.{two-rows-kept, many-none}
use Rattle.text_judge.proofs.instruction.judge_by.Goals as goal

pub returns-then-callee-gt8 : goal.returns-then-callee-gt8
returns-then-callee-gt8 c = many-none _ _ _ _ c.args.q c.requires c.if-callee-gt8.true

pub judge_in-requires : goal.judge_in-requires
judge_in-requires c =
    let h = c.requires in
    (two-rows-kept _ _ _ _ _ h c.if-callee-gt8.false c.two_rows-table.ensures, h.word)
