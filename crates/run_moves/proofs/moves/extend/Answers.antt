-- `extend` goes by the sign.
use Rattle.run_moves.specs.MovesCode.{sign_extended}
use borrow.Author.Tests.{lt-ltb, le-ltb}
use Rattle.run_moves.proofs.moves.extend.Goals as goal

pub returns-then-a-lt32768 : goal.returns-then-a-lt32768
unfolding sign_extended
returns-then-a-lt32768 c = rw (lt-ltb c.args.a 32768 c.if-a-lt32768.true)

pub returns : goal.returns
unfolding sign_extended
returns c = rw (le-ltb c.args.a 32768 c.if-a-lt32768.false)
