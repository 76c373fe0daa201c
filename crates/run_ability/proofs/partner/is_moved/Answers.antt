-- `is_moved` asks the holder of the opposite end.
use Rattle.run_ability.proofs.Returns.{other-low, itself-asked, over-asked, other-asked}
use Rattle.run_ability.proofs.partner.is_moved.Goals as goal

pub returns-then-is_no_other : goal.returns-then-is_no_other
returns-then-is_no_other c =
    let args = c.args in
    itself-asked args.p.now args.work.now args.t.now args.n.0 args.a
    c.opposite.ensures.0 c.opposite.ensures.1 c.holder_of-q.ensures
    c.is_no_other.ensures c.if-is_no_other.true

pub readiness_of-b-requires : goal.readiness_of-b-requires
readiness_of-b-requires c = (
  c.requires,
  other-low c.args.n.0 c.holder_of-q.result.0 c.is_no_other.ensures c.if-is_no_other.false,
)

pub returns-in-Idle : goal.returns-in-Idle
returns-in-Idle c =
    let args = c.args in
    over-asked args.p.now args.work.now args.t.now args.n.0 args.a
    c.opposite.ensures.0 c.opposite.ensures.1 c.holder_of-q.ensures
    c.is_no_other.ensures c.if-is_no_other.false c.readiness_of-b.ensures c.in-Idle.is

pub returns-in_default : goal.returns-in_default
returns-in_default c =
    let args = c.args in
    other-asked args.p.now args.work.now args.t.now args.n.0 args.a
    c.opposite.ensures.0 c.opposite.ensures.1 c.holder_of-q.ensures
    c.is_no_other.ensures c.if-is_no_other.false c.readiness_of-b.ensures c.in_default.not-Idle c.meets.ensures
