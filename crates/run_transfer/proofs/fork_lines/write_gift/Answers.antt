-- `write_gift` writes a line for a thing, and none else.
use Rattle.run_transfer.proofs.Laws.{gift-written, gift-passed}
use borrow.Author.Rules.{rules}
use Rattle.run_transfer.proofs.fork_lines.write_gift.Goals as goal

pub returns-then-v-lt3 : goal.returns-then-v-lt3
returns-then-v-lt3 c =
    let args = c.args in (
      gift-passed args.trace.now args.line args.entry args.from.0 args.to.0 args.v c.if-v-lt3.true,
      search rules,
    )

pub returns : goal.returns
returns c =
    let args = c.args in (
      gift-written args.trace.now args.line args.entry args.from.0 args.to.0 args.v
          c.if-v-lt3.false c.gift_line.ensures c.write_line.ensures,
      search rules,
    )
