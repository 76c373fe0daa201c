-- `read_top` looks below the next free value.
use Rattle.run_cursor.proofs.Topmost.{top_read}
use Rattle.run_cursor.proofs.cursor.read_top.Goals as goal

pub returns : goal.returns
returns c = top_read c.args.h c.args.w.now c.args.c c.if-c-lt1.false c.free-at.ensures c.if-tag-eq0.false
