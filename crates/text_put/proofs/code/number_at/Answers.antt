-- `number_at` finds the method with the name that stands there.
use native.Mathlib.Omega.{arith}
use Rattle.text_put.proofs.WordLaws.{called-in, called-past}
use Rattle.text_put.proofs.code.number_at.Goals as goal

pub returns-then-methods-a : goal.returns-then-methods-a
returns-then-methods-a c = called-past _ _ _ c.if-methods-a.true

pub index_of-requires : goal.index_of-requires
index_of-requires c = (
  omega (arith, c.next_token-t.ensures.ends),
  omega (arith, c.next_token-t.ensures.ends, c.next_token-t.ensures.within c.if-methods-a.false),
)

pub returns : goal.returns
returns c =
    called-in _ _ _ _ _ _ c.if-methods-a.false c.next_token-t.ensures c.index_of.ensures c.number_in.ensures
