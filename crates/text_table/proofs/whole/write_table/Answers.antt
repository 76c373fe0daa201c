-- `write_table`: the words before the code, main's code and that of the others.
use native.Mathlib.Omega.{arith}
use Rattle.text_table.proofs.TableLaws.{head-below, few-methods, index-small, main-missing, all-written}
use Rattle.text_table.proofs.whole.write_table.Goals as goal

pub returns-in_default : goal.returns-in_default
returns-in_default c = λ ns g d q. absurd (main-missing g c.in_default.ensures)

pub returns-then-count-gt32 : goal.returns-then-count-gt32
returns-then-count-gt32 c = λ ns g d q. absurd (omega (arith, few-methods g d, c.if-count-gt32.true))

pub returns-then-main-gt31 : goal.returns-then-main-gt31
returns-then-main-gt31 c = λ ns g d q. absurd (omega (arith, index-small g c.in-Ok.ensures, c.if-main-gt31.true))

pub put_others-requires : goal.put_others-requires
put_others-requires c =
    let args = c.args in
    let below = head-below args.count args.instructions c.in-Ok.m.index args.lengths.now
    args.rows.now args.table.now c.requires.0 c.if-count-gt32.false (omega (arith, c.if-main-gt31.false))
    c.put_head-i.ensures in (
      c.if-count-gt32.false,
      c.put_kept-j.ensures.1 (omega (arith, below)),
      c.requires.1,
    )

pub returns : goal.returns
returns c =
    let args = c.args in
    let below = head-below args.count args.instructions c.in-Ok.m.index args.lengths.now
    args.rows.now args.table.now c.requires.0 c.if-count-gt32.false (omega (arith, c.if-main-gt31.false))
    c.put_head-i.ensures in
    λ ns g d q. all-written g args.kept.now d q c.in-Ok.ensures args.table.now
    c.put_head-i.ensures below
    _ _ c.offset_of-from.ensures.0 c.word_at-long.ensures.0 c.put_kept-j.ensures.0
    c.put_others.ensures
