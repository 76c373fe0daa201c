-- `callee_row` reads the header of the first method of the name.
use native.Mathlib.Omega.{arith}
use Rattle.text_judged.proofs.Stepping.{header_at, no-header}
use Rattle.text_judged.proofs.callee.callee_row.Goals as goal

pub method_indexed-requires : goal.method_indexed-requires
method_indexed-requires c = (
  omega (arith, c.next_token-t.ensures.ends),
  omega (arith, c.next_token-t.ensures.ends, c.next_token-t.ensures.within c.requires.0),
)

pub returns-in-Ok : goal.returns-in-Ok
returns-in-Ok c = header_at _ _ _ c.next_token-t.ensures _ c.in-Ok.ensures _ c.header_row.ensures

pub returns-in-Err : goal.returns-in-Err
returns-in-Err c = no-header _ _ _ c.next_token-t.ensures c.in-Err.ensures _
