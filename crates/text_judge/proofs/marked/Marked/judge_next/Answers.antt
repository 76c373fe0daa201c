-- `judge_next` takes the callee's row where there is a call, and else one with nothing in it.
use Prim.Native.Nat.{◌+◌, ◌*◌}
use mathlib.Core.Path.{sym, subst, ◌∙◌}
use lib.ListN.{get_or}
use Rattle.text_judge.specs.RowsCode.{arg_in, no_row}
use Rattle.text_judge.specs.JudgeCode.{MayCall}
use Rattle.text_judge.proofs.Resuming.{in_code, row-taken, known-call, call-so, other-so, may-call, calls-none}
use Rattle.text_judge.proofs.marked.Marked.judge_next.Goals as goal

pub instruction_at-s-requires : goal.instruction_at-s-requires
instruction_at-s-requires c =
    let pre = c.requires in
    in_code _ _ _ _ c.args.self.now.kept _ pre.1

pub judge_by-requires : goal.judge_by-requires
judge_by-requires c =
    let if1 = c.if-calling-a in
    let calling = c.calling in
    let instruction-at = c.instruction_at-s in
    let pre = c.requires in
    let args = c.args in
    let a = get_or args.self.now.code.now (2 * args.i + 1) 0 in
    let (call, known) =
    known-call instruction-at.result.op a args.self.now.n.known _ calling.ensures if1.true in
    let s = instruction-at.ensures in
    subst (λ r. MayCall args.self.now.own.now r args.self.now.n.long instruction-at.result)
    (sym (row-taken args.rows.now a))
    (may-call _ _ _ _ c.args.self.now.kept _ pre.1 _ _ s.0 s.1 (pre.0.are-rows a known) call)

pub returns-then-calling-a : goal.returns-then-calling-a
unfolding arg_in
returns-then-calling-a c =
    let judge-by = c.judge_by in
    let if1 = c.if-calling-a in
    let calling = c.calling in
    let instruction-at = c.instruction_at-s in
    let args = c.args in
    let pre = c.requires in
    let a = get_or args.self.now.code.now (2 * args.i + 1) 0 in
    let (call, known) =
    known-call instruction-at.result.op a args.self.now.n.known _ calling.ensures if1.true in
    λ f k. judge-by.ensures
    ∙ call-so _ _ _ _ c.args.self.now.kept _ pre.1 f _ _ _ instruction-at.ensures.0 call
    (k a known ∙ sym (row-taken args.rows.now a))

pub judge_by-requires-2 : goal.judge_by-requires-2
unfolding no_row
judge_by-requires-2 c =
    let instruction-at = c.instruction_at-s in
    let pre = c.requires in
    calls-none _ _ _ _ c.args.self.now.kept _ pre.1 _ instruction-at.ensures.1

pub returns : goal.returns
unfolding no_row arg_in
returns c =
    let judge-by2 = c.judge_by-2 in
    let if1 = c.if-calling-a in
    let calling = c.calling in
    let instruction-at = c.instruction_at-s in
    let pre = c.requires in
    λ f k. judge-by2.ensures
    ∙ other-so _ _ _ _ c.args.self.now.kept _ pre.1 f _ _ _ instruction-at.ensures.0 calling.ensures if1.false
    pre.2
