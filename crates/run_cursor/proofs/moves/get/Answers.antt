-- `get` pushes what the slot has.
use Rattle.run_cursor.proofs.Shapes.{goes-as}
use Rattle.run_cursor.proofs.Arms.{gets}
use Rattle.run_cursor.proofs.moves.get.Goals as goal

pub returns : goal.returns
returns c =
    goes-as _ _ _ _ c.push.result (gets c.requires.0 c.args.a c.slot-at.ensures c.if-tag-eq0.false) c.push.ensures
