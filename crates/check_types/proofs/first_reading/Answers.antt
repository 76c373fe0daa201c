-- `first_reading` searches the instructions: those below `i` keep the rules, `o` is the owner of the one before `i`,
-- and `q` the types pending before `i`.
use mathlib.Core.Path.{◌∙◌}
use Rattle.lists.proofs.First.{first-begins, first-goes-on, place-halts, place-ends}
use Rattle.check_instructions.proofs.Owners.{owner-begins, owner-passed}
use Rattle.check_types.proofs.Readings.{read-begins, read-halts, read-goes-on, to_read}
use borrow.Author.Rules.{rules}
use native.Mathlib.Omega.{arith}
use Rattle.check_types.proofs.first_reading.Goals as goal

pub loop-i-init : goal.loop-i-init
loop-i-init c =
    let pre = c.requires in
    record {
      passed = first-begins _;
      owner = c.of-o.ensures ∙ owner-begins _ pre.sizes pre.pairs;
      types = c.nothing-q.ensures ∙ read-begins _;
    }

pub at-o-requires : goal.at-o-requires
at-o-requires c =
    let pre = c.requires in
    (pre.sizes, pre.pairs, search rules, c.loop-i.invariant.owner)

pub bounds-targets-i : goal.bounds-targets-i
bounds-targets-i c =
    let pre = c.requires in
    omega (arith, pre.long)

pub read-requires : goal.read-requires
read-requires c =
    to_read _ _ _ _ c.requires _ _ _ c.loop-i-test.true c.at-o.ensures c.loop-i.invariant.types

pub returns-in_default : goal.returns-in_default
returns-in_default c =
    place-halts _ _ _ c.loop-i.invariant.passed (omega arith) (read-halts _ _ c.in_default.ensures)

pub loop-i-preserved : goal.loop-i-preserved
loop-i-preserved c =
    let pre = c.requires in
    let on = read-goes-on _ _ _ c.in-Some.ensures pre.sizes pre.pairs (omega arith) in
    record {
      passed = first-goes-on _ _ c.loop-i.invariant.passed on.0;
      owner = owner-passed _ _ c.at-o.ensures;
      types = on.1;
    }

pub returns : goal.returns
returns c = place-ends _ _ _ c.loop-i.invariant.passed (omega arith) (omega arith)
