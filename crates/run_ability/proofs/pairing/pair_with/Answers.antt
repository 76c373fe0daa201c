-- `pair_with` meets nobody where q is n itself or no process, where process q is over, and where the two do not meet.
use Rattle.run_ability.proofs.Returns.{other-low, pairs-itself, pairs-over, pairs-with, pairs-not}
use Rattle.run_ability.proofs.pairing.pair_with.Goals as goal

pub returns-then-is_no_other : goal.returns-then-is_no_other
returns-then-is_no_other c =
    let args = c.args in
    pairs-itself args.p.now args.work.now args.n.0 args.a args.q.0 c.is_no_other.ensures c.if-is_no_other.true

pub readiness_of-b-requires : goal.readiness_of-b-requires
readiness_of-b-requires c = (
  c.requires,
  other-low c.args.n.0 c.args.q.0 c.is_no_other.ensures c.if-is_no_other.false,
)

pub returns-in-Idle : goal.returns-in-Idle
returns-in-Idle c =
    let args = c.args in
    pairs-over args.p.now args.work.now args.n.0 args.a args.q.0 c.is_no_other.ensures c.if-is_no_other.false
    c.readiness_of-b.ensures c.in-Idle.is

pub returns-in_default : goal.returns-in_default
returns-in_default c =
    let args = c.args in
    pairs-with args.p.now args.work.now args.n.0 args.a args.q.0 c.is_no_other.ensures c.if-is_no_other.false
    c.readiness_of-b.ensures c.in_default.not-Idle c.meets.ensures c.if-meets.true c.pair_of.ensures

pub returns-in_default-2 : goal.returns-in_default-2
returns-in_default-2 c =
    let args = c.args in
    pairs-not args.p.now args.work.now args.n.0 args.a args.q.0 c.is_no_other.ensures c.if-is_no_other.false
    c.readiness_of-b.ensures c.in_default.not-Idle c.meets.ensures c.if-meets.false
