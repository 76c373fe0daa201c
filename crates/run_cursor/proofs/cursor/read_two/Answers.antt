-- `read_two` looks below the next free value.
use Rattle.run_cursor.proofs.Topmost.{two-read}
use Rattle.run_cursor.proofs.cursor.read_two.Goals as goal

pub returns : goal.returns
returns c = two-read c.args.h c.args.w.now c.args.c c.if-c-lt2.false c.free-at.ensures c.if-w-at.false
