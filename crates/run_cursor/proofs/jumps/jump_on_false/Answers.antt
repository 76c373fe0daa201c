-- `jump_on_false` goes to the target, or on.
use mathlib.Core.Logic.{inl, inr}
use Rattle.run_cursor.proofs.Shapes.{went_in}
use Rattle.run_cursor.proofs.Arms.{false-jumps, true-goes-on}
use Rattle.run_cursor.proofs.jumps.jump_on_false.Goals as goal

pub returns-then-v-eq0 : goal.returns-then-v-eq0
returns-then-v-eq0 c =
    went_in (false-jumps c.requires.0 c.in_ok-v.v c.in_ok-v.ensures c.args.p.now c.args.a c.requires.2 c.if-v-eq0.true)
    (λ x e. inl e) c.discard_to.ensures

pub returns : goal.returns
returns c =
    went_in (true-goes-on c.requires.0 c.in_ok-v.v c.in_ok-v.ensures c.args.p.now c.args.a c.requires.1 c.if-v-eq0.false)
    (λ x e. inr e) c.discard_to-2.ensures
